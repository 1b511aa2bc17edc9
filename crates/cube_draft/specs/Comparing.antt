-- The rows of comparisons, by the forms of their sides.
use Rattle.std.specs.Prelude.{◌≡◌, ℕ, suc, ◌+◌, ◌^◌, ◌<◌, ◌≤◌, drop, ℤ, pos, ◌+ℤ◌, Bool, true, false, List, [], ◌∷◌, get_or, length, take, Option, Some, None, if◌then◌else◌}
use Rattle.std.specs.Prelude.{nat_eq}
use Rattle.sv_linear.specs.Terms.{AscendsWithin, coefficient}
use Rattle.sv_linear.specs.declared.form.Form.{Form}
use Rattle.sv_linear.specs.declared.row.RowKind.{RowKind}
use Rattle.sv_linear.specs.declared.row.RowKind.TheVariants.{Le, Eq}
use Rattle.sv_terms.specs.declared.op.Op.{Op}
use Rattle.literal_forms.specs.Roles.{role_of}
use Rattle.literal_forms.specs.declared.roles.IntOrder.TheVariants as order
use Rattle.literal_forms.specs.declared.roles.Role.{Role}
use Rattle.literal_forms.specs.declared.roles.Role.TheVariants as role
use Rattle.literal_forms.specs.Linear.{Linear, Step, addition, added, less, linear, minus_one, of_number, scaled}
use Rattle.literal_forms.specs.Numbered.{AreDifferences}
use Rattle.literal_forms.specs.Numbered.{AreNumbered, IsNumbered}
use Rattle.literal_forms.specs.Past.{ArePlain, atom_steps, comparison_steps, equality_steps}
use Rattle.literal_forms.specs.Shapes.{Shape}
use Rattle.literal_forms.specs.declared.differences.Differences.{Differences}
use Rattle.literal_forms.specs.declared.term_form.TermForm.{TermForm}
use Rattle.cube_draft.specs.Gathered.{Gathers, Knows, number_at}
use Rattle.flat_cubes.specs.Met.{DraftView}
use Rattle.cube_draft.specs.declared.meeting.DraftBuilder.{DraftBuilder}
use Rattle.cube_draft.specs.declared.comparison.RowReading.{RowReading}
use Rattle.cube_draft.specs.declared.comparison.RowReading.TheVariants as bound

-- what was met, for some literals
pub record IsGathered (m : DraftBuilder) : Type 0 where
  pub draft : DraftView
  pub gathers : Gathers m draft

-- no step of an atom is past 128 bits
pub record AtomFits (s : Shape) : Type 0 where
  pub plain : ArePlain (atom_steps s)

abbrev pub bound_at : Role → Bool → RowReading
bound_at (role.Order order.AtMost) true = bound.AtMost
bound_at (role.Order order.AtMost) false = bound.Above
bound_at (role.Order order.Below) true = bound.Below
bound_at (role.Order order.Below) false = bound.AtLeast
bound_at (role.Order order.AtLeast) true = bound.AtLeast
bound_at (role.Order order.AtLeast) false = bound.Below
bound_at (role.Order order.Above) true = bound.Above
bound_at (role.Order order.Above) false = bound.AtMost
bound_at role.Equality true = bound.Zero
bound_at role.Equality false = bound.Never
bound_at role.Connective b = bound.Never
bound_at role.Distinct b = bound.Never
bound_at (role.Joined j) b = bound.Never
bound_at role.Length b = bound.Never
bound_at (role.Built k) b = bound.Never
bound_at (role.Test t) b = bound.Never

abbrev pub bound_by : Op → Bool → RowReading
bound_by o b = bound_at (role_of o) b

abbrev pub kind_by : RowReading → RowKind
kind_by bound.Zero = Eq
kind_by bound.AtMost = Le
kind_by bound.Below = Le
kind_by bound.AtLeast = Le
kind_by bound.Above = Le
kind_by bound.Never = Le

abbrev pub one : Linear
one = of_number (pos 1)

-- the form that is to be at most 0, or 0, by the difference of the sides
abbrev pub form_by : RowReading → Linear → Linear
form_by bound.Zero a = a
form_by bound.AtMost a = a
form_by bound.Below a = added a one
form_by bound.AtLeast a = scaled a minus_one
form_by bound.Above a = added (scaled a minus_one) one
form_by bound.Never a = one

abbrev pub steps_by : RowReading → Shape → Shape → List Step
steps_by bound.Zero s t = equality_steps s t
steps_by bound.AtMost s t = comparison_steps s t
steps_by bound.Below s t = comparison_steps s t
steps_by bound.AtLeast s t = comparison_steps s t
steps_by bound.Above s t = comparison_steps s t
steps_by bound.Never s t = equality_steps s t

-- no step of a comparison is past 128 bits
pub record ComparisonFits (o : Op) (s t : Shape) (b : Bool) : Type 0 where
  pub plain : ArePlain (steps_by (bound_by o b) s t)

-- 1 more is within 128 bits
pub record CanAddOne (f : TermForm) : Type 0 where
  pub codes : List (List ℤ)
  pub of : Linear
  pub numbered : AreNumbered codes
  pub form : IsNumbered codes of f
  pub plain : ArePlain (addition of one ∷ [])

pub record IsPlus (f g : TermForm) : Type 0 where
  pub each : (us : List (List ℤ)) (a : Linear) → AreNumbered us → IsNumbered us a f → IsNumbered us (added a one) g

pub record CanBound (d : Differences) (b : RowReading) : Type 0 where
  pub codes : List (List ℤ)
  pub left : Linear
  pub right : Linear
  pub differences : AreDifferences codes left right d
  pub below : b ≡ bound.Below → ArePlain (addition (less left right) one ∷ [])
  pub above : b ≡ bound.Above → ArePlain (addition (scaled (less left right) minus_one) one ∷ [])

pub record IsBoundBy (d : Differences) (b : RowReading) (f : TermForm) : Type 0 where
  pub each : (us : List (List ℤ)) (left right : Linear) → AreDifferences us left right d → IsNumbered us (form_by b (less left right)) f

-- what stands at the unknowns that have the number n
abbrev pub at_number : ℕ → Option ℕ → ℤ → ℤ
at_number n None z = pos 0
at_number n (Some m) z = if nat_eq m n then z else pos 0

abbrev pub number_of : List (List ℤ × ℕ) → List (List ℤ) → ℕ × ℤ → Option ℕ
number_of ns us t = number_at (get_or us t.0 []) ns

abbrev pub sum_at : List (List ℤ × ℕ) → List (List ℤ) → ℕ → List (ℕ × ℤ) → ℤ
sum_at ns us n [] = pos 0
sum_at ns us n (t ∷ ts) = at_number n (number_of ns us t) t.1 +ℤ sum_at ns us n ts

-- the unknowns of a form have numbers, of which no two are one
pub record CanRenumber (ns : List (List ℤ × ℕ)) (us : List (List ℤ)) (f : Form) : Type 0 where
  pub known : (i : ℕ) (t : ℕ × ℤ) → i < length f.coefficients → t ≡ get_or f.coefficients i t → (t.0 < length us) × ((n : ℕ) × (number_of ns us t ≡ Some n))
  pub apart : (i : ℕ) (t : ℕ × ℤ) (n : ℕ) → i < length f.coefficients → t ≡ get_or f.coefficients i t → number_of ns us t ≡ Some n → sum_at ns us n (take i f.coefficients) ≡ pos 0

pub record IsRenumbered (ns : List (List ℤ × ℕ)) (us : List (List ℤ)) (f g : Form) : Type 0 where
  pub constant : g.constant ≡ f.constant
  pub coefficients : (n : ℕ) → coefficient n g.coefficients ≡ sum_at ns us n f.coefficients

-- the unknowns of both sides have numbers, and no step is past 128 bits
pub record IsComparable (m : DraftBuilder) (o : Op) (s t : Shape) (b : Bool) : Type 0 where
  pub gathered : IsGathered m
  pub left : Knows m.numbers (linear s)
  pub right : Knows m.numbers (linear t)
  pub fits : ComparisonFits o s t b

-- the place of an unknown among the terms of a form: what is behind has greater ones
pub record IsPlaceIn (terms : List (ℕ × ℤ)) (unknown at : ℕ) : Type 0 where
  pub within : at ≤ length terms
  pub behind : AscendsWithin (unknown + 1) (2 ^ 32) (drop at terms)
  pub before : (k : ℕ) → suc k ≡ at → (get_or terms k (0, pos 0)).0 ≤ unknown
