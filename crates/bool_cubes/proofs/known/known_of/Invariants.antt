use Rattle.bool_cubes.specs.Held.{IsKnown}
use Rattle.bool_cubes.proofs.known.known_of.Given as goal

abbrev pub invariant-loop : goal.invariant-loop
invariant-loop l = record { known : IsKnown l.nodes l.root l.known }
