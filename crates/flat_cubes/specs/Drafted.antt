-- When a draft holds what was met.
use Rattle.std.specs.Prelude.{◌≡◌, ℕ, List, [], ◌∷◌, map, get_or, Some, None, Result, Ok, Err, ⊤}
use Rattle.std.specs.List.{AllZip, AllByRecursion}
use Rattle.sv_linear.specs.Rows.{HasSymmetricEntries}
use Rattle.sv_linear.specs.declared.row.Row.{Row}
use Rattle.literal_forms.specs.Linear.{Unknown, integer, length_of}
use Rattle.literal_forms.specs.Shapes.{Shape, text}
use Rattle.literal_forms.specs.declared.literal.Literal.{Literal}
use Rattle.flat_cubes.specs.Flattening.{IsRowFor, bounded_of, name_of}
use Rattle.flat_cubes.specs.Met.{DraftView, met}
use Rattle.flat_cubes.specs.Said.{first_outside}
use Rattle.flat_cubes.specs.declared.draft.FlatDraft.{FlatDraft as Held}
use Rattle.flat_cubes.specs.declared.draft.Quantity.{Quantity}
use Rattle.flat_cubes.specs.declared.draft.Quantity.TheVariants.{Integer, Length}
use Rattle.flat_cubes.specs.declared.fault.FlatFault.{FlatFault}
use Rattle.flat_cubes.specs.declared.fault.FlatFault.TheVariants as fault

-- the term at a place
abbrev pub term_at : List Shape → ℕ → Shape
term_at ts i = get_or ts i (text [])

-- the unknown of a quantity, where these terms were met
abbrev pub unknown_at : List Shape → Quantity → Unknown
unknown_at ts (Integer name) = integer name
unknown_at ts (Length i) = length_of (term_at ts i)

abbrev pub integers_among : List Quantity → List (List ℕ)
integers_among [] = []
integers_among (Integer name ∷ qs) = name ∷ integers_among qs
integers_among (Length i ∷ qs) = integers_among qs

abbrev pub registers_among : List Shape → List Quantity → List (Shape × ℕ)
registers_among ts [] = []
registers_among ts (Integer name ∷ qs) = registers_among ts qs
registers_among ts (Length i ∷ qs) = (term_at ts i, i) ∷ registers_among ts qs

-- the numbers of all lists are those of what was met; the rows are those of the comparisons over the quantities
pub record HoldsDraft (held : Held) (d : DraftView) : Type 0 where
  pub names : held.names ≡ map name_of d.terms
  pub parts : held.parts ≡ d.parts
  pub definitions : held.definitions ≡ d.definitions
  pub equalities : held.equalities ≡ d.equalities
  pub integers : integers_among held.quantities ≡ d.integers
  pub registers : registers_among d.terms held.quantities ≡ d.registers
  pub rows : AllZip (IsRowFor (map (unknown_at d.terms) held.quantities)) (map bounded_of d.comparisons) held.rows
  pub symmetric : AllByRecursion (λ (r : Row). HasSymmetricEntries r.form) held.rows
  pub truths : held.truths ≡ d.truths
  pub broken : held.broken ≡ d.broken

-- what the literals say is held by a draft, and none is of no written kind; or the first that is
abbrev pub IsDraftOf : List Literal → Result Held FlatFault → Type 0
IsDraftOf ls (Ok held) = (first_outside ls ≡ None) × HoldsDraft held (met ls)
IsDraftOf ls (Err (fault.Outside l)) = first_outside ls ≡ Some l
IsDraftOf ls (Err (fault.Twice v)) = ⊥
IsDraftOf ls (Err (fault.Cycle vs)) = ⊥
IsDraftOf ls (Err (fault.Wide n)) = ⊥
IsDraftOf ls (Err (fault.Memory e)) = ⊤
