use Rattle.std.proofs.Common.{Err, inl, inr, sym, ap, ◌∙◌, subst, arith, rules, w64, length}
use Rattle.std.proofs.lemmas.Int.{to_z-of_z}
use mir.Val.{SFits}
use Rattle.cube_search.specs.Answers.{IsCubeAnswer, IsDecidedCube}
use Rattle.cube_search.specs.Conflicts.{IsBelow, IsRefutedBy}
use Rattle.cube_search.specs.Searches.{AreFoundRuns}
use Rattle.cube_search.specs.Tallies.{IsCovered}
use Rattle.cube_search.proofs.AnswerLemmas.{left-answers, left-decides, little, model-of, nothing-satisfies, reachable}
use Rattle.cube_search.proofs.CountLemmas.{few-definitions}
use Rattle.cube_search.proofs.FirstLemmas.{found-satisfies}
use Rattle.cube_search.proofs.answering.answer_by_search.Goals as goal

pub overflow_cast-left : goal.overflow_cast-left
overflow_cast-left c =
    let flat = c.args.flat.now in
    let most = few-definitions (length flat.variables) flat.definitions c.requires.answerable.straight.order in
    let few = c.requires.answerable.few in
    let e = c.len-left.ensures in
    omega (arith, most, few, e)

pub descend-requires-clause-search : goal.descend-requires-clause-search
descend-requires-clause-search c = record {
  straight = c.requires.answerable.straight;
  formed = c.requires.answerable.formed;
  little = little c.args.flat.now c.requires.answerable.bare c.requires.little;
  whole = c.requires.whole;
  few = c.requires.answerable.few;
  region = c.in_ok-region_of.ensures;
  is_small = c.requires.answerable.numbers.small;
  is_reach = (let f : SFits w64 c.args.numbers.now.reach = search rules in to_z-of_z w64 c.args.numbers.now.reach f ∙ c.requires.answerable.numbers.reach);
  reachable = reachable c.args.flat.now c.requires.little;
}

pub model_of-requires-clause-satisfies : goal.model_of-requires-clause-satisfies
model_of-requires-clause-satisfies c =
    let flat = c.args.flat.now in
    let state = c.in_ok-state.state in
    let below = subst (λ b. IsBelow flat c.in_ok-region_of.field-0 c.len-left.result state.machines c.descend.new.tally b) c.in-Found.is c.in_ok-found.ensures.below in
    let found = subst (λ n. AreFoundRuns flat n state.machines c.in-Found.found) c.len-left.ensures below in
    found-satisfies flat state.machines c.in-Found.found c.requires.answerable.straight c.in_ok-state.ensures.state.led c.requires.whole found

pub returns-in-Found-clause-right : goal.returns-in-Found-clause-right
returns-in-Found-clause-right c =
    let flat = c.args.flat.now in
    let state = c.in_ok-state.state in
    let below = subst (λ b. IsBelow flat c.in_ok-region_of.field-0 c.len-left.result state.machines c.descend.new.tally b) c.in-Found.is c.in_ok-found.ensures.below in
    let found = subst (λ n. AreFoundRuns flat n state.machines c.in-Found.found) c.len-left.ensures below in
    let model =
    model-of flat state.machines c.in-Found.found c.in_ok-model_of-in-Found.field-0 found
    (found-satisfies flat state.machines c.in-Found.found c.requires.answerable.straight c.in_ok-state.ensures.state.led c.requires.whole found) c.in_ok-model_of-in-Found.ensures.named c.in_ok-model_of-in-Found.ensures.worded in
    (model, c.in_ok-model_of-in-Found.ensures.only)

pub returns-clause-right : goal.returns-clause-right
returns-clause-right c =
    let flat = c.args.flat.now in
    let state = c.in_ok-state.state in
    let below = subst (λ b. IsBelow flat c.in_ok-region_of.field-0 c.len-left.result state.machines c.descend.new.tally b) c.in-Left.is c.in_ok-found.ensures.below in
    let covered = subst (λ n. IsCovered flat c.in_ok-region_of.field-0 n state.machines c.descend.new.tally) c.len-left.ensures below in
    subst (IsCubeAnswer flat) (sym c.open_answer.ensures)
    (left-answers flat c.in_ok-region_of.field-0 c.in_ok-region_of.ensures state.machines c.descend.new.tally c.requires.answerable.straight c.in_ok-state.ensures.state.led c.in_ok-found.ensures.tally covered)

pub returns-in-Refuted-clause-right : goal.returns-in-Refuted-clause-right
returns-in-Refuted-clause-right c =
    let flat = c.args.flat.now in
    let state = c.in_ok-state.state in
    let below = subst (λ b. IsBelow flat c.in_ok-region_of.field-0 c.len-left.result state.machines c.descend.new.tally b) c.in-Refuted.is c.in_ok-found.ensures.below in
    let refuted = subst (λ n. IsRefutedBy flat n state.machines c.in-Refuted.field-0) c.len-left.ensures below in
    nothing-satisfies flat c.in_ok-region_of.field-0 c.in_ok-region_of.ensures state.machines c.in-Refuted.field-0 c.requires.answerable.straight c.in_ok-state.ensures.state.led refuted

pub returns-clause-decided : goal.returns-clause-decided
returns-clause-decided c = λ must.
    subst IsDecidedCube (sym c.open_answer.ensures) (left-decides c.args.flat.now c.in_ok-region_of.field-0 c.in_ok-region_of.ensures c.descend.new.tally c.in_ok-found.ensures.tally must)

pub returns-in_err-state-clause-refused : goal.returns-in_err-state-clause-refused
returns-in_err-state-clause-refused c = λ n e.
    let d = rw e at c.from_residual-in_err-state.ensures.1 in
    inr (c.in_err-state.ensures.refused n (ap Err (sym d)))

pub returns-in_err-found-clause-refused : goal.returns-in_err-found-clause-refused
returns-in_err-found-clause-refused c = λ n e.
    let d = rw e at c.from_residual-in_err-found.ensures.1 in
    inl (c.descend.ensures.refused n (c.in_err-found.was ∙ ap Err (sym d)))
