use Rattle.std.proofs.Common.{◌≡◌, pos, ◌≤ℤ◌, ◌<ℤ◌, sym, subst, rules, w64}
use Rattle.std.proofs.lemmas.Int.{to_z-of_z}
use Rattle.std.proofs.lemmas.Result.{IfOk-weaker}
use mir.Val.{SFits}
use Rattle.cube_search.specs.LeafAnswers.{IsAnswerFor}
use Rattle.cube_search.proofs.AskLemmas.{answered-at, answered-past-at, asked-at, decided-at, lt-so, not-lt, reach-of}
use Rattle.cube_search.proofs.asking.answer_machines.Goals as goal

pub leaf-requires : goal.leaf-requires
leaf-requires c =
    let flat = c.args.flat.now in
    let region = c.args.region.now in
    let machines = c.args.machines.now in
    let small = c.args.small in
    let r = c.characters.result in
    let f : SFits w64 c.args.reach = search rules in
    let read = to_z-of_z w64 c.args.reach f in
    let is = reach-of flat c.args.reach r c.requires.reach (subst (λ z. pos 0 ≤ℤ z → z ≡ pos r) read c.characters.ensures.exact) (subst (λ z. z <ℤ pos 0 → r ≡ 0) read c.characters.ensures.nothing) in
    asked-at flat region machines r c.requires.region c.requires.machines is small c.requires.small c.len.result c.as_slice.result.now c.len.ensures c.as_slice.ensures c.requires.straight c.requires.few

pub returns-then-reach-lt0-clause-answer : goal.returns-then-reach-lt0-clause-answer
returns-then-reach-lt0-clause-answer c =
    let flat = c.args.flat.now in
    let region = c.args.region.now in
    let machines = c.args.machines.now in
    let small = c.args.small in
    let r = c.characters.result in
    let f : SFits w64 c.args.reach = search rules in
    let read = to_z-of_z w64 c.args.reach f in
    let is = reach-of flat c.args.reach r c.requires.reach (subst (λ z. pos 0 ≤ℤ z → z ≡ pos r) read c.characters.ensures.exact) (subst (λ z. z <ℤ pos 0 → r ≡ 0) read c.characters.ensures.nothing) in
    let negative = subst (λ z. z <ℤ pos 0) c.requires.reach (subst (λ z. z <ℤ pos 0) read (lt-so _ c.if-reach-lt0.true)) in
    IfOk-weaker c.past_words.result _ _ (λ answer past.
    subst (IsAnswerFor flat region machines) (sym past)
    (answered-past-at flat region machines r c.requires.region c.requires.machines is small c.requires.small c.len.result c.as_slice.result.now c.len.ensures c.as_slice.ensures c.requires.reachable c.in_ok-answer.answer negative c.in_ok-answer.ensures.answer)) c.past_words.ensures

pub returns-clause-answer : goal.returns-clause-answer
returns-clause-answer c =
    let flat = c.args.flat.now in
    let region = c.args.region.now in
    let machines = c.args.machines.now in
    let small = c.args.small in
    let r = c.characters.result in
    let f : SFits w64 c.args.reach = search rules in
    let read = to_z-of_z w64 c.args.reach f in
    let is = reach-of flat c.args.reach r c.requires.reach (subst (λ z. pos 0 ≤ℤ z → z ≡ pos r) read c.characters.ensures.exact) (subst (λ z. z <ℤ pos 0 → r ≡ 0) read c.characters.ensures.nothing) in
    let positive = subst (λ z. pos 0 ≤ℤ z) c.requires.reach (subst (λ z. pos 0 ≤ℤ z) read (not-lt _ c.if-reach-lt0.false)) in
    answered-at flat region machines r c.requires.region c.requires.machines is small c.requires.small c.len.result c.as_slice.result.now c.len.ensures c.as_slice.ensures c.requires.reachable c.in_ok-answer.answer positive c.in_ok-answer.ensures.answer

pub returns-clause-decided : goal.returns-clause-decided
returns-clause-decided c =
    let flat = c.args.flat.now in
    let region = c.args.region.now in
    let machines = c.args.machines.now in
    let small = c.args.small in
    let r = c.characters.result in
    let f : SFits w64 c.args.reach = search rules in
    let read = to_z-of_z w64 c.args.reach f in
    let is = reach-of flat c.args.reach r c.requires.reach (subst (λ z. pos 0 ≤ℤ z → z ≡ pos r) read c.characters.ensures.exact) (subst (λ z. z <ℤ pos 0 → r ≡ 0) read c.characters.ensures.nothing) in
    decided-at flat region machines r c.requires.region c.requires.machines is small c.requires.small c.len.result c.as_slice.result.now c.len.ensures c.as_slice.ensures c.in_ok-answer.answer c.in_ok-answer.ensures.decided
