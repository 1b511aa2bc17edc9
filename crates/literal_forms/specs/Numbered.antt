-- Linear forms of terms over numbered unknowns: an unknown is known by its code, and its number is the place of the code.
use Rattle.std.specs.Prelude.{◌≡◌, ℕ, suc, ◌<◌, ◌≤◌, ℤ, pos, List, [], ◌++◌, length, ⊤, Result, Ok, Err, if◌then◌else◌, ◌∷◌}
use Rattle.std.specs.Cmp.Lexicographic.{pointwise}
use Rattle.std.specs.Ordering.{int_eq}
use Rattle.sv_linear.specs.Terms.{coefficient}
use Rattle.sv_linear.specs.declared.fault.FormFault.{FormFault}
use Rattle.sv_linear.specs.declared.fault.FormFault.TheVariants.{Past, Memory}
use Rattle.literal_forms.specs.Literals.{SomeOf}
use Rattle.literal_forms.specs.Flats.{flat}
use Rattle.literal_forms.specs.Linear.{Linear, Unknown, unknown_code, multiple_of, is_constant, minus_one, scaled, Step, added, less, multiplied, sum_steps, less_steps, product_steps}
use Rattle.literal_forms.specs.Past.{ArePlain, IsPast}
use Rattle.literal_forms.specs.declared.differences.Differences.{Differences}
use Rattle.literal_forms.specs.declared.roles.Joint.{Joint}
use Rattle.literal_forms.specs.declared.roles.Joint.TheVariants as joint
use Rattle.literal_forms.specs.declared.term_form.TermForm.{TermForm}

-- the place of a code, the length of the list where it isn't there
abbrev pub place_of : List (List ℤ) → List ℤ → ℕ
place_of [] c = 0
place_of (v ∷ vs) c = if pointwise int_eq v c then 0 else suc (place_of vs c)

abbrev pub place_in : List (List ℤ) → Unknown → ℕ
place_in us u = place_of us (flat (unknown_code u))

-- each place is that of an unknown
pub record AreNumbered (us : List (List ℤ)) : Type 0 where
  pub each : (k : ℕ) → k < length us → (u : Unknown) × (place_in us u ≡ k)

-- a form has at each unknown's number what stands at the unknown, and nothing elsewhere
pub record IsNumbered (us : List (List ℤ)) (a : Linear) (f : TermForm) : Type 0 where
  pub number : f.form.constant ≡ a.constant
  pub terms : (u : Unknown) → multiple_of u a.terms ≡ coefficient (place_in us u) f.form.coefficients
  pub beyond : (k : ℕ) → length us ≤ k → coefficient k f.form.coefficients ≡ pos 0
  pub constant : f.constant ≡ is_constant a

-- codes behind others
pub record IsMore (old new : List (List ℤ)) : Type 0 where
  pub behind : List (List ℤ)
  pub whole : new ≡ old ++ behind
  pub numbered : AreNumbered new

-- an unknown has this number
pub record HasNumber (old new : List (List ℤ)) (u : Unknown) (k : ℕ) : Type 0 where
  pub more : IsMore old new
  pub within : k < length new
  pub place : place_in new u ≡ k

-- Ok with the form where no step is past 128 bits, and Past only with the operands of one that is
abbrev pub IsFormOrPast : List (List ℤ) → Linear → List Step → Result TermForm FormFault → Type 0
IsFormOrPast us a steps (Ok f) = ArePlain steps × IsNumbered us a f
IsFormOrPast us a steps (Err (Past l r)) = SomeOf (IsPast l r) steps
IsFormOrPast us a steps (Err (Memory e)) = ⊤

-- what joins two forms, and its steps
abbrev pub joint_of : Joint → Linear → Linear → Linear
joint_of joint.Sum = added
joint_of joint.Difference = less
joint_of joint.Product = multiplied

abbrev pub joint_steps : Joint → Linear → Linear → List Step
joint_steps joint.Sum = sum_steps
joint_steps joint.Difference = less_steps
joint_steps joint.Product = product_steps

-- the difference of two forms and its negative
pub record AreDifferences (us : List (List ℤ)) (a b : Linear) (d : Differences) : Type 0 where
  pub numbered : AreNumbered us
  pub first : IsNumbered us (less a b) d.less
  pub second : IsNumbered us (scaled (less a b) minus_one) d.more
