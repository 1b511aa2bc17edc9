-- The families that a cube's text leads to, definition by definition from the last to the first.
use Rattle.std.specs.Prelude.{◌≡◌, ℕ, suc, ◌≤◌, ◌↔◌, nat_eq, cond, List, map, length, Some, slice_get}
use Rattle.machine_core.specs.declared.graph.Graph.{Graph}
use Rattle.machine_core.specs.Graphs.{Accepts}
use Rattle.sv_terms.specs.Language.{Word}
use Rattle.cube_bounds.specs.Bounds.{states_at}
use Rattle.flat_cubes.specs.Satisfying.{MeetsParts, ComesBy}
use Rattle.flat_cubes.specs.declared.definition.By.{By}
use Rattle.flat_cubes.specs.declared.definition.By.TheVariants.{Concat}
use Rattle.flat_cubes.specs.declared.definition.Definition.{Definition}
use Rattle.flat_cubes.specs.declared.flat.Flat.{Flat}
use Rattle.flat_cubes.specs.declared.variable.Variable.{Variable}
use Rattle.backward.specs.Families.{Family, Words, HasMachine, put, Conf}
use Rattle.backward.specs.Pieces.{ConfCut}
use Rattle.backward.specs.Definitions.{definition, reads}

-- the configurations in which some word that comes by the definition, put for its variable, is one of the family
abbrev pub ConfBefore : ℕ → Family → ℕ → By → Words → List ℕ → Type 0
ConfBefore width ms x b words totals = (w : Word) × ComesBy words w b × Conf width ms (put words x w) totals

-- two families have the same configurations
abbrev pub SameConf : ℕ → Family → Family → Type 0
SameConf width ms ns = (words : Words) (totals : List ℕ) → Conf width ms words totals ↔ Conf width ns words totals

-- a family in which so many definitions are still to be carried, the first ones: it comes of a first family, of which `First` says what it is, by steps that
-- keep the configurations and steps that carry the last definition left, whose variable then has a machine of few states, at most as many as `states` says
pub data IsLed (width : ℕ) (definitions : List Definition) (states : ℕ → ℕ) (First : Family → Type 0) : ℕ → Family → Type 0 where
  begun : {ms : Family} → First ms → IsLed width definitions states First (length definitions) ms
  same : {left : ℕ} {ms ns : Family} → IsLed width definitions states First left ms → SameConf width ms ns → IsLed width definitions states First left ns
  cut : {left : ℕ} {ms ns : Family} → (x : ℕ) (pieces cuts : List ℕ) (m : Graph) → IsLed width definitions states First (suc left) ms
      → slice_get definitions left ≡ Some (definition x (Concat pieces)) → HasMachine ms x m → m.states ≤ states x
      → ((words : Words) (totals : List ℕ) → Conf width ns words totals ↔ ConfCut width ms x pieces cuts words totals)
      → IsLed width definitions states First left ns
  through : {left : ℕ} {ms ns : Family} → (x v : ℕ) (b : By) (m : Graph) → IsLed width definitions states First (suc left) ms
      → slice_get definitions left ≡ Some (definition x b) → reads b ≡ Some v → HasMachine ms x m → m.states ≤ states x
      → ((words : Words) (totals : List ℕ) → Conf width ns words totals ↔ ConfBefore width ms x b words totals)
      → IsLed width definitions states First left ns

-- the number of registers
abbrev pub width : Flat → ℕ
width flat = length flat.registers

-- the length of the variable's word at each register of the variable, and 0 at the others
abbrev pub own_cost : List ℕ → ℕ → Word → List ℕ
own_cost registers v w = map (λ z. cond (nat_eq z v) (length w) 0) registers

-- the machine reads exactly the words that meet the variable's parts, each with its length at each register of the variable
abbrev pub ReadsOwn : Flat → ℕ → Variable → Graph → Type 0
ReadsOwn flat v variable m = (word cost : List ℕ) → Accepts m word cost ↔ (MeetsParts variable word × (cost ≡ own_cost flat.registers v word))

-- a machine for each variable, of its own parts alone
pub record IsOwnFamily (flat : Flat) (ms : Family) : Type 0 where
  pub size : length ms ≡ length flat.variables
  pub each : (v : ℕ) (variable : Variable) → slice_get flat.variables v ≡ Some variable → (m : Graph) × HasMachine ms v m × ReadsOwn flat v variable m

-- a chain leads from the text of the cube to the family, in which so many definitions are still to be carried
abbrev pub IsLedFrom : Flat → ℕ → Family → Type 0
IsLedFrom flat left ms = IsLed (width flat) flat.definitions (states_at flat) (IsOwnFamily flat) left ms
