use Rattle.std.proofs.Common.{◌≡◌, map, take}
use Rattle.sv_terms.specs.Bounds.{size, from_left, in_turn_size, choice_size, both_size, without_size}
use Rattle.sv_terms.specs.CutOff.{cut_off}
use Rattle.sv_terms.proofs.bounds.+bound.Given as goal

abbrev pub invariant-in_turn-loop-i : goal.invariant-in_turn-loop-i
invariant-in_turn-loop-i l = l.n ≡ cut_off (from_left in_turn_size (map size (take l.i l.rs)))

abbrev pub invariant-choice-loop-i : goal.invariant-choice-loop-i
invariant-choice-loop-i l = l.n ≡ cut_off (from_left choice_size (map size (take l.i l.rs)))

abbrev pub invariant-both-loop-i : goal.invariant-both-loop-i
invariant-both-loop-i l = l.n ≡ cut_off (from_left both_size (map size (take l.i l.rs)))

abbrev pub invariant-without-loop-i : goal.invariant-without-loop-i
invariant-without-loop-i l = l.n ≡ cut_off (from_left without_size (map size (take l.i l.rs)))
