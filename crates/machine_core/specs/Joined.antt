-- Moves of which those to one state at one cost are one.
use Rattle.std.specs.Prelude.{◌≡◌, ℕ, ◌↔◌, List, Some, slice_get, Any, Contains}
use Rattle.sv_word.specs.Ranges.{IsInhabited}
use Rattle.machine_core.specs.Moves.{Moves}
use Rattle.machine_core.specs.declared.machine.Move.{Move}

-- the move at this place leads to the same state at the same cost as this one
pub record IsLike (moves : List (Move ℕ)) (further : Move ℕ) (at : ℕ) : Type 0 where
  pub earlier : Move ℕ
  pub stands : slice_get moves at ≡ Some earlier
  pub to : earlier.to ≡ further.to
  pub cost : earlier.cost ≡ further.cost

-- the two lists read the same characters, at the same costs and to the same states, and each joined move reads some character
pub record AreJoinedMoves (moves joined : List (Move ℕ)) : Type 0 where
  pub exact : (c : ℕ) (cost : List ℕ) (to : ℕ) → Any (Moves c cost to) joined ↔ Any (Moves c cost to) moves
  pub inhabited : (m : Move ℕ) → Contains joined m → IsInhabited m.on
