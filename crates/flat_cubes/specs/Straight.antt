-- What holds of the numbers in a flat cube: its variables are in range, none has two definitions, and
-- no definition uses a variable that isn't defined before it and is defined at all.
use Rattle.std.specs.Prelude.{◌≡◌, ℕ, ◌+◌, ◌<◌, ◌≤◌, ◌^◌, List, [], ◌∷◌, ◌++◌, map, length, nat_eq, Bool, false, unsigned_abs, ⊤}
use Rattle.std.specs.List.{AllByRecursion, IsDistinct}
use Rattle.std.specs.Cmp.Lexicographic.{pointwise}
use Rattle.sv_linear.specs.declared.row.Row.{Row}
use Rattle.flat_cubes.specs.Using.{used, is_defined}
use Rattle.flat_cubes.specs.declared.variable.Variable.{Variable}
use Rattle.sv_terms.specs.Transduction.{IsFormed}
use Rattle.flat_cubes.specs.declared.definition.By.{By}
use Rattle.flat_cubes.specs.declared.definition.By.TheVariants as by
use Rattle.flat_cubes.specs.declared.definition.Definition.{Definition}
use Rattle.flat_cubes.specs.declared.flat.Flat.{Flat}

-- each variable is below n
abbrev pub AreBelow : ℕ → List ℕ → Type 0
AreBelow n vs = AllByRecursion (λ v. v < n) vs

-- a definition whose variables are below n
pub record HasVariablesBelow (n : ℕ) (d : Definition) : Type 0 where
  pub defined : d.variable < n
  pub uses : AreBelow n (used d.by)

abbrev pub HaveVariablesBelow : ℕ → List Definition → Type 0
HaveVariablesBelow n ds = AllByRecursion (HasVariablesBelow n) ds

-- a definition of one of n variables by others, none of which is defined by it or behind it
pub record StandsBefore (n : ℕ) (d : Definition) (behind : List Definition) : Type 0 where
  pub defined : d.variable < n
  pub once : is_defined behind d.variable ≡ false
  pub some : 0 < length (used d.by)
  pub uses : AreBelow n (used d.by)
  pub apart : AllByRecursion (λ v. is_defined (d ∷ behind) v ≡ false) (used d.by)

-- each definition stands before those that use its variable, and no variable has two
abbrev pub InOrder : ℕ → List Definition → Type 0
InOrder n [] = ⊤
InOrder n (d ∷ ds) = StandsBefore n d ds × InOrder n ds

-- a definition through a transducer has one whose states, characters and words are in range
abbrev pub IsFormedBy : By → Type 0
IsFormedBy (by.Concat vs) = ⊤
IsFormedBy (by.First p u v) = ⊤
IsFormedBy (by.All p u v) = ⊤
IsFormedBy (by.Through t v) = IsFormed t

-- the transducers of a flat cube are formed, as they are where those of the cube's literals are
abbrev pub HasFormed : Flat → Type 0
HasFormed flat = AllByRecursion (λ (d : Definition). IsFormedBy d.by) flat.definitions

-- the unknowns of a row are below n, and no number of it is -2^127
pub record IsRowBelow (n : ℕ) (r : Row) : Type 0 where
  pub unknowns : AllByRecursion (λ t. t.0 < n) r.form.coefficients
  pub constant : unsigned_abs r.form.constant < 2 ^ 127
  pub coefficients : AllByRecursion (λ t. unsigned_abs t.1 < 2 ^ 127) r.form.coefficients

-- the names of the string constants, the variables' one after another
abbrev pub string_names : List Variable → List (List ℕ)
string_names [] = []
string_names (v ∷ vs) = v.names ++ string_names vs

-- the names of all constants of the cube
abbrev pub all_names : Flat → List (List ℕ)
all_names flat = string_names flat.variables ++ flat.integers ++ map (λ (t : List ℕ × Bool). t.0) flat.truths

-- no name stands twice. A name of two sorts would, but where each has one sort none does
abbrev pub AreNamesApart : Flat → Type 0
AreNamesApart flat = IsDistinct (pointwise nat_eq) (all_names flat)

-- a flat cube as it comes from a straight one
pub record IsStraight (flat : Flat) : Type 0 where
  pub order : InOrder (length flat.variables) flat.definitions
  pub registers : AreBelow (length flat.variables) flat.registers
  pub rows : AllByRecursion (IsRowBelow (length flat.integers + length flat.registers)) flat.rows
  pub few_registers : length flat.registers ≤ 64
  pub few_integers : length flat.integers ≤ 64
