-- What holds of a family while the definitions of a flat cube are carried, from the last one to the first.
use Rattle.std.specs.Prelude.{◌≡◌, ℕ, ◌≤◌, ◌*◌, ◌⊎◌, nat_eq, cond, Bool, true, false, List, [], length, drop, Some, None, slice_get}
use Rattle.machine_core.specs.declared.graph.Graph.{Graph}
use Rattle.flat_cubes.specs.Using.{is_defined}
use Rattle.cube_bounds.specs.Bounds.{own_bound, product_by}
use Rattle.cube_bounds.specs.Growth.{growth, growth_at, longest_word}
use Rattle.cube_bounds.specs.NumberLaws.{factor}
use Rattle.flat_cubes.specs.declared.flat.Flat.{Flat}
use Rattle.flat_cubes.specs.declared.variable.Variable.{Variable}
use Rattle.backward.specs.Families.{HasMachine}
use Rattle.backward.specs.Meetings.{IsCostWithin}
use Rattle.backward.specs.Bounds.{IsGrownWithin}
use Rattle.backward.specs.Chains.{width, ReadsOwn, IsLedFrom}
use Rattle.backward.specs.declared.leaf_state.LeafState.{LeafState}

-- a machine of the variable's own parts, with as many states as the text allows at most; a run or a path costs at most its length at the variable's registers, and nothing at the others
pub record IsOwnMachine (flat : Flat) (v : ℕ) (variable : Variable) (m : Graph) : Type 0 where
  pub reads : ReadsOwn flat v variable m
  pub few : m.states ≤ own_bound variable
  pub within : (register z : ℕ) → slice_get flat.registers register ≡ Some z → IsCostWithin m register (cond (nat_eq v z) 1 0) 0

-- one for each variable, in their order
pub record AreOwnMachines (flat : Flat) (machines : List Graph) : Type 0 where
  pub count : length machines ≡ length flat.variables
  pub each : (v : ℕ) (variable : Variable) (m : Graph) → slice_get flat.variables v ≡ Some variable → slice_get machines v ≡ Some m → IsOwnMachine flat v variable m

-- whether a variable is defined by a definition that was carried, where so many are left
abbrev pub is_carried : Flat → ℕ → ℕ → Bool
is_carried flat left v = is_defined (drop left flat.definitions) v

-- the most states of the machine of a variable so far: its own bound, times what each definition that was carried multiplies it by
abbrev pub states_so_far : Flat → ℕ → ℕ → Variable → ℕ
states_so_far flat left v variable = own_bound variable * product_by (factor flat v) (drop left flat.definitions)

-- a chain leads to the family, which has a machine for just the variables that aren't carried; each has at most as many states as the text says so far,
-- and what its runs cost is bounded by the growth of the variables
pub record IsState (flat : Flat) (left : ℕ) (state : LeafState) : Type 0 where
  pub registers : state.registers ≡ width flat
  pub size : length state.machines ≡ length flat.variables
  pub led : IsLedFrom flat left state.machines
  pub carried : (v : ℕ) → slice_get state.machines v ≡ Some None → is_carried flat left v ≡ true
  pub standing : (v : ℕ) (m : Graph) → HasMachine state.machines v m → is_carried flat left v ≡ false
  pub bounded : (v : ℕ) (variable : Variable) (m : Graph) → slice_get flat.variables v ≡ Some variable → HasMachine state.machines v m → m.states ≤ states_so_far flat left v variable
  pub costs : (register : ℕ) → IsGrownWithin (growth_at flat) (growth flat) state.machines register

-- there are no registers, or words don't grow past the longest one of a model
abbrev pub IsLittle : Flat → Type 0
IsLittle flat = (flat.registers ≡ []) ⊎ (growth flat ≤ longest_word)
