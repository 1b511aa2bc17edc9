use Rattle.std.proofs.Common.{◌≡◌, map, drop, length}
use Rattle.term_weight.specs.Ranks.{are_of}
use Rattle.term_weight.proofs.rank.are_of.Given as goal

abbrev pub invariant-loop-i : goal.invariant-loop-i
invariant-loop-i l = (length l.parameters ≡ length l.sorts) × (are_of (map (λ p. p.1) (drop l.i l.parameters)) (drop l.i l.sorts) ≡ are_of (map (λ p. p.1) l.parameters) l.sorts)
