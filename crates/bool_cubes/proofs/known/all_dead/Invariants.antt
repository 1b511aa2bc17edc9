use Rattle.std.proofs.Common.{◌≡◌, List, length}
use Rattle.bool_cubes.specs.Held.{AreDead, AreHeld}
use Rattle.literal_forms.specs.declared.literal.Literal.{Literal as AnyLiteral}
use Rattle.bool_cubes.proofs.known.all_dead.Given as goal

abbrev pub invariant-loop-at : goal.invariant-loop-at
invariant-loop-at l = record {
  size : length l.dead ≡ l.at;
  dead : (ls : List AnyLiteral) → AreHeld l.nodes ls l.marks → AreDead l.nodes ls l.dead;
}
