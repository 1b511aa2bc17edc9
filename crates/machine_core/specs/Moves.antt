-- What a move of a machine does.
use Rattle.std.specs.Prelude.{◌≡◌, ℕ, ◌<◌, IsTrue, List, length}
use Rattle.sv_word.specs.Ranges.{in_ranges, IsInhabited}
use Rattle.machine_core.specs.declared.machine.Move.{Move}

-- a move reads this character at this cost, and leads there
abbrev pub Moves : {S : Type 0} → ℕ → List ℕ → S → Move S → Type 0
Moves c cost to m = IsTrue (in_ranges m.on c) × (m.cost ≡ cost) × (m.to ≡ to)

-- it reads some character, has one number for each register, and leads to one of so many states
pub record IsMove (states width : ℕ) (m : Move ℕ) : Type 0 where
  pub on : IsInhabited m.on
  pub cost : length m.cost ≡ width
  pub to : m.to < states
