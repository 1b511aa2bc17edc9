use Rattle.std.proofs.Common.{◌≡◌, ◌^◌, ℕ}
use Rattle.sv_terms.specs.CutOff.{cut_off}
use Rattle.cube_bounds.proofs.splitting.power.Given as goal

abbrev pub invariant-loop-i : goal.invariant-loop-i
invariant-loop-i l = (m : ℕ) → l.n ≡ cut_off m → l.power ≡ cut_off (m ^ l.i)
