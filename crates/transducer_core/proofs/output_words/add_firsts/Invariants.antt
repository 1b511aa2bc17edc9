use Rattle.std.proofs.Common.{◌≡◌, ◌⊎◌, ◌↔◌, ℕ, take, Contains}
use Rattle.transducer_core.proofs.output_words.add_firsts.Given as goal

abbrev pub invariant-loop-at : goal.invariant-loop-at
invariant-loop-at l = ((f : ℕ × ℕ) → Contains l.node.firsts f ↔ (Contains l.initial.node.firsts f ⊎ Contains (take l.at l.firsts) f)) × (l.node.ends ≡ l.initial.node.ends)
