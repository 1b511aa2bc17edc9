use Rattle.std.proofs.Common.{◌<◌, ◌≤◌, ◌⊎◌, ◌↔◌, ℕ, List, length, Contains, ◌∙◌, subst, arith}
use Rattle.std.proofs.lemmas.List.{take_all}
use Rattle.transducer_core.proofs.NodeLemmas.{added_more}
use Rattle.transducer_core.proofs.output_words.add_firsts.Goals as goal

pub loop-at-preserved : goal.loop-at-preserved
loop-at-preserved c =
    let low : c.loop-at.at < length c.args.firsts.now = omega arith in (
      added_more c.loop-at.node.firsts c.add_first.new.node.firsts c.args.node.now.firsts c.args.firsts.now c.loop-at.at c.first_at-first.result.now low c.first_at-first.ensures c.loop-at.invariant.0 c.in_ok-add_first.ensures.firsts,
      c.add_first.ensures.ends ∙ c.loop-at.invariant.1,
    )

pub returns-clause-firsts : goal.returns-clause-firsts
returns-clause-firsts c =
    let past : length c.args.firsts.now ≤ c.loop-at.at = omega arith in
    let P : List (ℕ × ℕ) → Type 0 = λ fs. (f : ℕ × ℕ) → Contains c.loop-at.node.firsts f ↔ (Contains c.args.node.now.firsts f ⊎ Contains fs f) in
    subst P (take_all c.loop-at.at c.args.firsts.now past) c.loop-at.invariant.0
