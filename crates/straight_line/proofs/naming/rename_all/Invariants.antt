use Rattle.std.proofs.Common.{◌≡◌, map, take, get_or}
use Rattle.straight_line.proofs.naming.rename_all.Given as goal

abbrev pub invariant-loop-place : goal.invariant-loop-place
invariant-loop-place l = l.variables ≡ map (λ i. get_or l.of i 0) (take l.place-index l.places)
