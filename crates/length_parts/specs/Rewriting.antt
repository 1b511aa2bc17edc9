-- A flat cube with bounds on lengths said as parts.
use Rattle.std.specs.Prelude.{◌≡◌, ◌↔◌, ℕ, ℤ, pos, ◌+◌, ◌+ℤ◌, ◌*ℤ◌, ◌≤◌, ◌<◌, List, [], get_or, length}
use Rattle.std.specs.List.{AllZip}
use Rattle.sv_word.specs.Words.{IsWord}
use Rattle.sv_terms.specs.Language.{Word, In}
use Rattle.sv_terms.specs.declared.regex.Regex.{Regex}
use Rattle.sv_linear.specs.Rows.{Compares}
use Rattle.sv_linear.specs.declared.row.RowKind.{RowKind}
use Rattle.flat_cubes.specs.Satisfying.{Satisfies}
use Rattle.flat_cubes.specs.Straight.{IsStraight}
use Rattle.flat_cubes.specs.declared.variable.Variable.{Variable}
use Rattle.flat_cubes.specs.declared.flat.Flat.{Flat}
use Rattle.length_parts.specs.declared.bound.LengthBound.{LengthBound}
use Rattle.length_parts.specs.declared.bound.LengthBound.TheVariants as bound

-- the length is within the bound
abbrev pub HasLength : LengthBound → ℕ → Type 0
HasLength (bound.AtMost m) n = n ≤ m
HasLength (bound.AtLeast m) n = m ≤ n
HasLength (bound.Exactly m) n = n ≡ m

-- a row of one unknown, which is a length, says just that
abbrev pub IsBoundBy : RowKind → ℤ → ℤ → LengthBound → Type 0
IsBoundBy kind coefficient constant b = (n : ℕ) → Compares kind (coefficient *ℤ pos n +ℤ pos 0 +ℤ constant *ℤ pos 1) ↔ HasLength b n

-- the regular expression has just the words of such a length
abbrev pub HasWordsOf : LengthBound → Regex → Type 0
HasWordsOf b r = (w : Word) → IsWord w → In r w ↔ HasLength b (length w)

-- the unknown is the register of this variable
pub record IsRegisterOf (flat : Flat) (unknown variable : ℕ) : Type 0 where
  pub at : ℕ
  pub is : unknown ≡ length flat.integers + at
  pub within : at < length flat.registers
  pub of : get_or flat.registers at 0 ≡ variable
  pub below : variable < length flat.variables

abbrev pub HaveSameNames : List Variable → List Variable → Type 0
HaveSameNames vs ws = AllZip (λ (v w : Variable). v.names ≡ w.names) vs ws

-- the new cube says the same of the same variables and integer constants: just the same words and numbers satisfy it
pub record IsRewriting (old new : Flat) : Type 0 where
  pub names : HaveSameNames new.variables old.variables
  pub definitions : new.definitions ≡ old.definitions
  pub integers : new.integers ≡ old.integers
  pub truths : new.truths ≡ old.truths
  pub straight : IsStraight old → IsStraight new
  pub same : (words : List Word) (numbers : List ℤ) → Satisfies new words numbers ↔ Satisfies old words numbers

-- and without rows it has no registers, as the old one
abbrev pub IsBare : Flat → Type 0
IsBare flat = flat.rows ≡ [] → flat.registers ≡ []
