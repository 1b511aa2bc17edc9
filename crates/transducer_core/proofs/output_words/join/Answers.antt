use Rattle.std.proofs.Common.{◌⊎◌, ◌↔◌, ℕ, List, Contains, subst}
use Rattle.transducer_core.proofs.output_words.join.Goals as goal

pub returns-clause-firsts : goal.returns-clause-firsts
returns-clause-firsts c =
    let P : List (ℕ × ℕ) → Type 0 = λ fs. (f : ℕ × ℕ) → Contains c.add_firsts.new.node.firsts f ↔ (Contains c.args.node.now.firsts f ⊎ Contains fs f) in
    subst P c.as_slice.ensures c.in_ok-add_firsts.ensures.firsts
