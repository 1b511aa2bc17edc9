use Rattle.std.proofs.Common.{◌≡◌, map, sym, ap, ◌∙◌, subst, rules, w64}
use Rattle.std.proofs.lemmas.Int.{to_z-of_z}
use mir.Val.{SFits}
use Rattle.backward.specs.Leaves.{machines_of}
use Rattle.cube_search.specs.LeafAnswers.{AreOfLeaf, IsAnswerFor}
use Rattle.cube_search.specs.LeafTallies.{settled}
use Rattle.cube_search.specs.Leaves.{AreLifted, machine_of}
use Rattle.cube_search.specs.Tallies.{IsCovered, IsTally}
use Rattle.cube_search.proofs.FoundLemmas.{hit-found}
use Rattle.cube_search.proofs.TallyLemmas.{hit-answer, leaf-of, settled-covers, settled-tally, tally-is}
use Rattle.cube_search.proofs.TrimLemmas.{lifted-runs, trims-of-leaf, trims-read}
use Rattle.cube_search.proofs.leaves.answer_leaf.Goals as goal

pub answer_machines-requires-clause-straight : goal.answer_machines-requires-clause-straight
answer_machines-requires-clause-straight c = c.requires.search.straight

pub answer_machines-requires-clause-few : goal.answer_machines-requires-clause-few
answer_machines-requires-clause-few c = c.requires.search.few

pub answer_machines-requires-clause-region : goal.answer_machines-requires-clause-region
answer_machines-requires-clause-region c = c.requires.search.region

pub answer_machines-requires-clause-small : goal.answer_machines-requires-clause-small
answer_machines-requires-clause-small c = c.requires.search.is_small

pub answer_machines-requires-clause-reach : goal.answer_machines-requires-clause-reach
answer_machines-requires-clause-reach c = let f : SFits w64 c.args.search.now.reach = search rules in to_z-of_z w64 c.args.search.now.reach f ∙ c.requires.search.is_reach

pub answer_machines-requires-clause-reachable : goal.answer_machines-requires-clause-reachable
answer_machines-requires-clause-reachable c = c.requires.search.reachable

pub answer_machines-requires-clause-machines : goal.answer_machines-requires-clause-machines
answer_machines-requires-clause-machines c =
    let flat = c.args.search.now.flat.now in
    let q = c.requires.search in
    let s = c.args.state.now in
    let ts = c.in_ok-trims.trims in
    let z = c.in_ok-trims.ensures in
    let own : c.in_ok-machines.machines ≡ map machine_of ts = c.in_ok-machines.ensures ∙ ap (map machine_of) c.as_slice.ensures in
    subst (AreOfLeaf flat) (sym (c.as_slice-2.ensures ∙ own)) (trims-of-leaf c.states_are_solved.ensures.solved c.states_are_solved.ensures.bounded flat q.straight s c.requires.state ts z)

pub returns-in-None-clause-tally : goal.returns-in-None-clause-tally
returns-in-None-clause-tally c =
    let flat = c.args.search.now.flat.now in
    let region = c.args.search.now.region in
    let q = c.requires.search in
    let s = c.args.state.now in
    let ms = s.machines in
    let ts = c.in_ok-trims.trims in
    let z = c.in_ok-trims.ensures in
    let own : c.in_ok-machines.machines ≡ map machine_of ts = c.in_ok-machines.ensures ∙ ap (map machine_of) c.as_slice.ensures in
    let a = c.in_ok-answer.answer in
    let h = subst (λ l. IsAnswerFor flat region l a) (c.as_slice-2.ensures ∙ own) c.in_ok-answer.ensures.answer in
    let old = c.args.tally.now in
    let leafs = leaf-of flat ms ts (λ ns less. c.families_become_leaves.ensures flat ns q.straight q.whole c.requires.state less) z in
    let is : c.settle.new.tally ≡ settled (map machine_of ts) a old =
    tally-is c.settle.new.tally (settled c.in_ok-machines.machines a old) c.settle.ensures.given c.settle.ensures.long c.settle.ensures.closed ∙ ap (λ l. settled l a old) own in
    subst (IsTally flat) (sym is) (settled-tally flat region (map machine_of ts) leafs a h c.in_ok-answer.ensures.decided old c.requires.tally)

pub returns-in-None-clause-covered : goal.returns-in-None-clause-covered
returns-in-None-clause-covered c = λ e.
    let flat = c.args.search.now.flat.now in
    let region = c.args.search.now.region in
    let q = c.requires.search in
    let s = c.args.state.now in
    let ms = s.machines in
    let ts = c.in_ok-trims.trims in
    let z = c.in_ok-trims.ensures in
    let own : c.in_ok-machines.machines ≡ map machine_of ts = c.in_ok-machines.ensures ∙ ap (map machine_of) c.as_slice.ensures in
    let a = c.in_ok-answer.answer in
    let h = subst (λ l. IsAnswerFor flat region l a) (c.as_slice-2.ensures ∙ own) c.in_ok-answer.ensures.answer in
    let old = c.args.tally.now in
    let leafs = leaf-of flat ms ts (λ ns less. c.families_become_leaves.ensures flat ns q.straight q.whole c.requires.state less) z in
    let is : c.settle.new.tally ≡ settled (map machine_of ts) a old =
    tally-is c.settle.new.tally (settled c.in_ok-machines.machines a old) c.settle.ensures.given c.settle.ensures.long c.settle.ensures.closed ∙ ap (λ l. settled l a old) own in
    subst (λ t. IsCovered flat region 0 ms t) (sym is)
    (settled-covers flat region q.region.registers s c.requires.state (map machine_of ts) leafs (trims-read (machines_of ms) ts z) a h (sym c.settle.ensures.hit ∙ c.in-None.is) old)

pub spread-requires : goal.spread-requires
spread-requires c =
    let flat = c.args.search.now.flat.now in
    let region = c.args.search.now.region in
    let s = c.args.state.now in
    let ms = s.machines in
    let ts = c.in_ok-trims.trims in
    let z = c.in_ok-trims.ensures in
    let own : c.in_ok-machines.machines ≡ map machine_of ts = c.in_ok-machines.ensures ∙ ap (map machine_of) c.as_slice.ensures in
    let a = c.in_ok-answer.answer in
    let h = subst (λ l. IsAnswerFor flat region l a) (c.as_slice-2.ensures ∙ own) c.in_ok-answer.ensures.answer in
    let hit = hit-answer flat region (map machine_of ts) c.in-Some.hit a (sym c.settle.ensures.hit ∙ c.in-Some.is) h in
    let lift = subst (λ l. AreLifted l c.in-Some.hit.runs c.in_ok-runs-in-Some.runs) c.as_slice-in-Some.ensures (subst (λ rs. AreLifted c.as_slice-in-Some.result.now rs c.in_ok-runs-in-Some.runs) c.as_slice-in-Some-2.ensures c.in_ok-runs-in-Some.ensures) in
    lifted-runs (machines_of ms) ts c.in-Some.hit.runs c.in_ok-runs-in-Some.runs z hit.is_hit.each lift

pub returns-clause-tally : goal.returns-clause-tally
returns-clause-tally c =
    let flat = c.args.search.now.flat.now in
    let region = c.args.search.now.region in
    let q = c.requires.search in
    let s = c.args.state.now in
    let ms = s.machines in
    let ts = c.in_ok-trims.trims in
    let z = c.in_ok-trims.ensures in
    let own : c.in_ok-machines.machines ≡ map machine_of ts = c.in_ok-machines.ensures ∙ ap (map machine_of) c.as_slice.ensures in
    let a = c.in_ok-answer.answer in
    let h = subst (λ l. IsAnswerFor flat region l a) (c.as_slice-2.ensures ∙ own) c.in_ok-answer.ensures.answer in
    let old = c.args.tally.now in
    let leafs = leaf-of flat ms ts (λ ns less. c.families_become_leaves.ensures flat ns q.straight q.whole c.requires.state less) z in
    let is : c.settle.new.tally ≡ settled (map machine_of ts) a old =
    tally-is c.settle.new.tally (settled c.in_ok-machines.machines a old) c.settle.ensures.given c.settle.ensures.long c.settle.ensures.closed ∙ ap (λ l. settled l a old) own in
    subst (IsTally flat) (sym is) (settled-tally flat region (map machine_of ts) leafs a h c.in_ok-answer.ensures.decided old c.requires.tally)

pub returns-clause-found : goal.returns-clause-found
returns-clause-found c =
    let flat = c.args.search.now.flat.now in
    let region = c.args.search.now.region in
    let s = c.args.state.now in
    let ts = c.in_ok-trims.trims in
    let z = c.in_ok-trims.ensures in
    let own : c.in_ok-machines.machines ≡ map machine_of ts = c.in_ok-machines.ensures ∙ ap (map machine_of) c.as_slice.ensures in
    let a = c.in_ok-answer.answer in
    let h = subst (λ l. IsAnswerFor flat region l a) (c.as_slice-2.ensures ∙ own) c.in_ok-answer.ensures.answer in
    let hit = hit-answer flat region (map machine_of ts) c.in-Some.hit a (sym c.settle.ensures.hit ∙ c.in-Some.is) h in
    let lift = subst (λ l. AreLifted l c.in-Some.hit.runs c.in_ok-runs-in-Some.runs) c.as_slice-in-Some.ensures (subst (λ rs. AreLifted c.as_slice-in-Some.result.now rs c.in_ok-runs-in-Some.runs) c.as_slice-in-Some-2.ensures c.in_ok-runs-in-Some.ensures) in
    hit-found flat region s ts c.in-Some.hit c.in_ok-runs-in-Some.runs c.in_ok-found-in-Some.found c.requires.state z hit lift c.in_ok-found-in-Some.ensures.integers c.in_ok-found-in-Some.ensures.runs
