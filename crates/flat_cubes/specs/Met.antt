-- The string terms, whole numbers and truths of a cube, in the order in which they first come in its literals, a term before its arguments.
use Rattle.std.specs.Prelude.{ℕ, suc, Bool, true, false, not, ◌||◌, nat_eq, List, [], ◌∷◌, ◌++◌, length, Option, Some, None, if◌then◌else◌}
use Rattle.std.specs.List.{list_any}
use Rattle.std.specs.Map.{lookup}
use Rattle.std.specs.Option.{option_map}
use Rattle.std.specs.Cmp.Lexicographic.{pointwise}
use Rattle.sv_terms.specs.Meaning.{same_truth}
use Rattle.sv_terms.specs.declared.op.Op.{Op}
use Rattle.sv_terms.specs.declared.op.Op.TheVariants as op
use Rattle.literal_forms.specs.Shapes.{Shape, Shapes, text, constant, apply, end, ◌⨾◌}
use Rattle.literal_forms.specs.Codes.{same}
use Rattle.literal_forms.specs.Linear.{written}
use Rattle.literal_forms.specs.declared.literal.Literal.{Literal}
use Rattle.flat_cubes.specs.Said.{Said, value_is, compares, holds, has_part, are_one, written_by, outside, said}
use Rattle.flat_cubes.specs.declared.variable.Own.{Own}
use Rattle.flat_cubes.specs.declared.variable.Own.TheVariants as own
use Rattle.flat_cubes.specs.declared.definition.By.{By}
use Rattle.flat_cubes.specs.declared.definition.By.TheVariants as by

-- a comparison of two terms of sort Int
pub record Comparison : Type 0 where
  pub op : Op
  pub left : Shape
  pub right : Shape
  pub positive : Bool

-- what has been met: string terms, each named by its place; what is said of a place; definitions of places by places; places that are one; registers, terms with their places; integer constants; comparisons; Bool constants with their values
pub record DraftView : Type 0 where
  pub terms : List Shape
  pub parts : List (ℕ × (Own × Bool))
  pub definitions : List (ℕ × By)
  pub equalities : List (ℕ × ℕ)
  pub registers : List (Shape × ℕ)
  pub integers : List (List ℕ)
  pub comparisons : List Comparison
  pub truths : List (List ℕ × Bool)
  pub broken : Bool

abbrev pub nothing_met : DraftView
nothing_met = record { terms = []; parts = []; definitions = []; equalities = []; registers = []; integers = []; comparisons = []; truths = []; broken = false }

abbrev pub with_term : Shape → DraftView → DraftView
with_term s d = record d { terms = d.terms ++ s ∷ [] }

abbrev pub with_part : ℕ → Own × Bool → DraftView → DraftView
with_part i p d = record d { parts = d.parts ++ (i, p) ∷ [] }

abbrev pub with_definition : ℕ → By → DraftView → DraftView
with_definition i b d = record d { definitions = d.definitions ++ (i, b) ∷ [] }

abbrev pub with_equality : ℕ → ℕ → DraftView → DraftView
with_equality i j d = record d { equalities = d.equalities ++ (i, j) ∷ [] }

-- the place at which a term was met; literals aren't looked for, since each occurrence is a variable of its own
abbrev pub place_of : Shape → List Shape → Option ℕ
place_of s [] = None
place_of s (t ∷ ts) = if same s t then Some 0 else option_map suc (place_of s ts)

-- a place, and what has been met then
abbrev pub Found : Type 0
Found = ℕ × DraftView

-- the place where the term was met before, and else what it gives when it is new
abbrev pub known_or : Option ℕ → DraftView → Found → Found
known_or (Some i) d new = (i, d)
known_or None d new = new

abbrev pub literal_met : Shape → Own → DraftView → Found
literal_met s o d = (length d.terms, with_part (length d.terms) (o, true) (with_term s d))

-- a new term at this place, once its arguments were met
abbrev pub concat_met : ℕ → List ℕ × DraftView → Found
concat_met i r = (i, with_definition i (by.Concat r.0) r.1)

abbrev pub first_met : ℕ → List ℕ → List ℕ → Found → Found
first_met i p u r = (i, with_definition i (by.First p u r.0) r.1)

abbrev pub all_met : ℕ → List ℕ → List ℕ → Found → Found
all_met i p u r = (i, with_definition i (by.All p u r.0) r.1)

abbrev pub then_place : ℕ → List ℕ × DraftView → List ℕ × DraftView
then_place i r = (i ∷ r.0, r.1)

-- a string term of a written form, without nested concatenations, is met; a term of no written form has a place that isn't there
abbrev mutual
  pub meet : Shape → DraftView → Found
  meet (text w) d = literal_met (text w) (own.Word w) d
  meet (constant name s) d = known_or (place_of (constant name s) d.terms) d (length d.terms, with_term (constant name s) d)
  meet (apply op.Concat ss) d = known_or (place_of (apply op.Concat ss) d.terms) d (concat_met (length d.terms) (meet_all ss (with_term (apply op.Concat ss) d)))
  meet (apply op.Replace (s ⨾ text p ⨾ text u ⨾ end)) d =
      known_or (place_of (apply op.Replace (s ⨾ text p ⨾ text u ⨾ end)) d.terms) d (first_met (length d.terms) p u (meet s (with_term (apply op.Replace (s ⨾ text p ⨾ text u ⨾ end)) d)))
  meet (apply op.ReplaceAll (s ⨾ text p ⨾ text u ⨾ end)) d =
      known_or (place_of (apply op.ReplaceAll (s ⨾ text p ⨾ text u ⨾ end)) d.terms) d (all_met (length d.terms) p u (meet s (with_term (apply op.ReplaceAll (s ⨾ text p ⨾ text u ⨾ end)) d)))
  meet _ d = (length d.terms, d)

  pub meet_all : Shapes → DraftView → List ℕ × DraftView
  meet_all end d = ([], d)
  meet_all (s ⨾ ss) d = then_place (meet s d).0 (meet_all ss (meet s d).1)

-- an integer constant, and a term whose length is an unknown
abbrev pub with_integer : List ℕ → DraftView → DraftView
with_integer name d = if list_any (pointwise nat_eq name) d.integers then d else record d { integers = d.integers ++ name ∷ [] }

abbrev pub registered : Shape → Found → DraftView
registered s r = record r.1 { registers = r.1.registers ++ (s, r.0) ∷ [] }

abbrev pub with_register : Shape → DraftView → DraftView
with_register s d = if list_any (λ (r : Shape × ℕ). same s r.0) d.registers then d else registered s (meet s d)

-- the unknowns of a term of sort Int
abbrev mutual
  pub meet_unknowns : Shape → DraftView → DraftView
  meet_unknowns (constant name s) d = with_integer name d
  meet_unknowns (apply op.Length (text w ⨾ end)) d = d
  meet_unknowns (apply op.Length (s ⨾ end)) d = with_register (written s) d
  meet_unknowns (apply o ss) d = meet_all_unknowns ss d
  meet_unknowns _ d = d

  pub meet_all_unknowns : Shapes → DraftView → DraftView
  meet_all_unknowns end d = d
  meet_all_unknowns (s ⨾ ss) d = meet_all_unknowns ss (meet_unknowns s d)

abbrev pub with_comparison : Comparison → DraftView → DraftView
with_comparison c d = record d { comparisons = d.comparisons ++ c ∷ [] }

-- a Bool constant has this value; two values break the cube
abbrev pub with_value : Option Bool → List ℕ → Bool → DraftView → DraftView
with_value None name b d = record d { truths = d.truths ++ (name, b) ∷ [] }
with_value (Some c) name b d = record d { broken = d.broken || not (same_truth b c) }

abbrev pub with_truth : List ℕ → Bool → DraftView → DraftView
with_truth name b d = with_value (lookup (pointwise nat_eq name) d.truths) name b d

abbrev pub part_met : Own × Bool → Found → DraftView
part_met p r = with_part r.0 p r.1

abbrev pub equal_met : ℕ → Found → DraftView
equal_met i r = with_equality i r.0 r.1

abbrev pub through_met : By → Found → DraftView
through_met b r = with_definition r.0 b r.1

-- what one more literal adds
abbrev pub add : Said → DraftView → DraftView
add (value_is name b) d = with_truth name b d
add (compares o s t b) d = with_comparison (record { op = o; left = s; right = t; positive = b }) (meet_unknowns t (meet_unknowns s d))
add (holds b) d = record d { broken = d.broken || not b }
add (has_part s o b) d = part_met (o, b) (meet (written s) d)
add (are_one s t) d = equal_met (meet (written s) d).0 (meet (written t) (meet (written s) d).1)
add (written_by m s t) d = through_met (by.Through m (meet (written s) d).0) (meet (written t) (meet (written s) d).1)
add outside d = d

abbrev pub add_all : List Literal → DraftView → DraftView
add_all [] d = d
add_all (l ∷ ls) d = add_all ls (add (said l) d)

abbrev pub met : List Literal → DraftView
met ls = add_all ls nothing_met
