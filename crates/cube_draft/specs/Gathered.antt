-- When what is gathered from literals is what was met.
use Rattle.std.specs.Prelude.{◌≡◌, ℕ, suc, ◌<◌, ◌≤◌, ℤ, pos, true, false, List, [], ◌∷◌, ◌++◌, map, length, slice_get, Option, Some, None, ⊤, if◌then◌else◌}
use Rattle.std.specs.List.{AllZip, AllByRecursion}
use Rattle.std.specs.Map.{lookup}
use Rattle.std.specs.Option.{option_map}
use Rattle.std.specs.Ordering.{int_eq}
use Rattle.std.specs.Cmp.Lexicographic.{pointwise}
use Rattle.sv_linear.specs.Rows.{HasSymmetricEntries}
use Rattle.sv_linear.specs.Terms.{coefficient}
use Rattle.sv_linear.specs.declared.row.Row.{Row}
use Rattle.literal_forms.specs.Codes.{code}
use Rattle.literal_forms.specs.Flats.{flat}
use Rattle.literal_forms.specs.Linear.{Linear, Unknown, are_linear, is_linear, linear, linears, multiple_of, same_unknown, unknown_code}
use Rattle.literal_forms.specs.Shapes.{Shape, Shapes, constant}
use Rattle.sv_terms.specs.declared.sort.Sort.{Sort}
use Rattle.flat_cubes.specs.Drafted.{integers_among, registers_among, unknown_at}
use Rattle.flat_cubes.specs.Flattening.{Bounded, bounded_of, name_of}
use Rattle.cube_draft.specs.Strings.{is_text}
use Rattle.flat_cubes.specs.Met.{DraftView, add, meet, meet_all, meet_unknowns, meet_all_unknowns, place_of, with_term}
use Rattle.flat_cubes.specs.Said.{Said, is_outside}
use Rattle.cube_draft.specs.declared.literals.LiteralReading.{LiteralReading}
use Rattle.cube_draft.specs.declared.literals.LiteralReading.TheVariants as kind
use Rattle.flat_cubes.specs.declared.draft.Quantity.{Quantity}
use Rattle.flat_cubes.specs.declared.draft.Quantity.TheVariants.{Integer, Length}
use Rattle.cube_draft.specs.declared.meeting.DraftBuilder.{DraftBuilder}
use Rattle.cube_draft.specs.declared.meeting.TermPlace.{TermPlace}
use Rattle.cube_draft.specs.declared.meeting.TermPlace.TheVariants.{Known, New}

-- the number that stands at a code
abbrev pub number_at : List ℤ → List (List ℤ × ℕ) → Option ℕ
number_at c ns = lookup (pointwise int_eq c) ns

-- the first number of an unknown among unknowns
abbrev pub index_of : Unknown → List Unknown → Option ℕ
index_of u [] = None
index_of u (v ∷ vs) = if same_unknown u v then Some 0 else option_map suc (index_of u vs)

-- what a form has at an unknown that stands at this number, 0 where it stands at none
abbrev pub coefficient_where : Option ℕ → List (ℕ × ℤ) → ℤ
coefficient_where None ts = pos 0
coefficient_where (Some k) ts = coefficient k ts

-- a row has at the number of each unknown what the form has there, and nothing beyond
pub record IsRowAmong (us : List Unknown) (b : Bounded) (r : Row) : Type 0 where
  pub kind : r.kind ≡ b.0
  pub constant : r.form.constant ≡ b.1.constant
  pub coefficients : (u : Unknown) → multiple_of u b.1.terms ≡ coefficient_where (index_of u us) r.form.coefficients
  pub beyond : (k : ℕ) → length us ≤ k → coefficient k r.form.coefficients ≡ pos 0

-- the place of a length is one of those that are there
abbrev pub IsInside : ℕ → Quantity → Type 0
IsInside n (Integer name) = ⊤
IsInside n (Length i) = i < n

abbrev pub unknowns_at : List Shape → List Quantity → List Unknown
unknowns_at ts qs = map (unknown_at ts) qs

-- the lists are those of what was met, and each map finds what stands in them
pub record Gathers (m : DraftBuilder) (d : DraftView) : Type 0 where
  pub names : m.names ≡ map name_of d.terms
  pub places : (s : Shape) → is_text s ≡ false → number_at (flat (code s)) m.places ≡ place_of s d.terms
  pub parts : m.parts ≡ d.parts
  pub definitions : m.definitions ≡ d.definitions
  pub equalities : m.equalities ≡ d.equalities
  pub integers : integers_among m.quantities ≡ d.integers
  pub registers : registers_among d.terms m.quantities ≡ d.registers
  pub inside : AllByRecursion (IsInside (length d.terms)) m.quantities
  pub numbers : (u : Unknown) → number_at (flat (unknown_code u)) m.numbers ≡ index_of u (unknowns_at d.terms m.quantities)
  pub apart : (k : ℕ) (u : Unknown) → slice_get (unknowns_at d.terms m.quantities) k ≡ Some u → index_of u (unknowns_at d.terms m.quantities) ≡ Some k
  pub rows : AllZip (IsRowAmong (unknowns_at d.terms m.quantities)) (map bounded_of d.comparisons) m.rows
  pub symmetric : AllByRecursion (λ (r : Row). HasSymmetricEntries r.form) m.rows
  pub truths : m.truths ≡ d.truths
  pub broken : m.broken ≡ d.broken

-- what was gathered before, with what f adds, is what is gathered after
pub record Becomes (old new : DraftBuilder) (f : DraftView → DraftView) : Type 0 where
  pub each : (d : DraftView) → Gathers old d → Gathers new (f d)

-- a term is met: this is its place
pub record IsTermMet (old new : DraftBuilder) (s : Shape) (i : ℕ) : Type 0 where
  pub gathers : (d : DraftView) → Gathers old d → Gathers new (meet s d).1
  pub place : (d : DraftView) → Gathers old d → i ≡ (meet s d).0

-- terms are met one after another: their places are put behind those before
pub record ArePieced (old new : DraftBuilder) (ss : Shapes) (before after : List ℕ) : Type 0 where
  pub gathers : (d : DraftView) → Gathers old d → Gathers new (meet_all ss d).1
  pub places : (d : DraftView) → Gathers old d → after ≡ before ++ (meet_all ss d).0

-- a term is sought: its place where it came before, and else it stands at a new one
abbrev pub SoughtBy : DraftBuilder → DraftBuilder → Shape → TermPlace → DraftView → Type 0
SoughtBy old new s (Known i) d = (place_of s d.terms ≡ Some i) × Gathers new d
SoughtBy old new s (New i) d = (place_of s d.terms ≡ None) × (i ≡ length d.terms) × Gathers new (with_term s d)

pub record IsSought (old new : DraftBuilder) (s : Shape) (p : TermPlace) : Type 0 where
  pub each : (d : DraftView) → Gathers old d → SoughtBy old new s p d

-- the unknowns of a form have numbers
abbrev pub Knows : List (List ℤ × ℕ) → Linear → Type 0
Knows ns a = AllByRecursion (λ (t : Unknown × ℤ). (k : ℕ) × (number_at (flat (unknown_code t.0)) ns ≡ Some k)) a.terms

-- what has a number keeps it
abbrev pub KeepsNumbers : List (List ℤ × ℕ) → List (List ℤ × ℕ) → Type 0
KeepsNumbers old new = (c : List ℤ) (k : ℕ) → number_at c old ≡ Some k → number_at c new ≡ Some k

-- the unknowns of a term of sort Int are counted
pub record IsCounted (old new : DraftBuilder) (s : Shape) : Type 0 where
  pub gathers : is_linear s ≡ true → (d : DraftView) → Gathers old d → Gathers new (meet_unknowns s d)
  pub known : is_linear s ≡ true → Knows new.numbers (linear s)
  pub kept : KeepsNumbers old.numbers new.numbers

-- an integer constant is counted
pub record IsIntegerCounted (old new : DraftBuilder) (name : List ℕ) : Type 0 where
  pub each : (s : Sort) → IsCounted old new (constant name s)

pub record AreCounted (old new : DraftBuilder) (ss : Shapes) : Type 0 where
  pub gathers : are_linear ss ≡ true → (d : DraftView) → Gathers old d → Gathers new (meet_all_unknowns ss d)
  pub known : are_linear ss ≡ true → AllByRecursion (λ (a : Linear). Knows new.numbers a) (linears ss)
  pub kept : KeepsNumbers old.numbers new.numbers

-- a literal that says this is of this kind, and what it says is added where it is of a written one
abbrev pub AddedBy : DraftBuilder → DraftBuilder → Said → LiteralReading → DraftView → Type 0
AddedBy old new x kind.Written d = (is_outside x ≡ false) × Gathers new (add x d)
AddedBy old new x kind.Outside d = is_outside x ≡ true

pub record IsLiteralAdded (old new : DraftBuilder) (x : Said) (k : LiteralReading) : Type 0 where
  pub each : (d : DraftView) → Gathers old d → AddedBy old new x k d
