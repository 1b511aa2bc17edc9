-- When a verdict on assertions is right.
use Rattle.std.specs.Prelude.{◌≡◌, ◌≢◌, ℕ, ◌<◌, List, [], map, Contains, Some, slice_get, ⊤, Result, Ok, Err}
use Rattle.std.specs.List.Sorted.{IsStrictlyIncreasing}
use Rattle.std.specs.declared.alloc.AllocError.{AllocError}
use Rattle.sv_terms.specs.CutOff.{cut_off}
use Rattle.sv_terms.specs.Truth.{clear_of, opaque_of, AreTrueAt, HasNoValues}
use Rattle.sv_terms.specs.declared.term.Term.{Term}
use Rattle.bool_cubes.specs.Cubes.{cubes_of}
use Rattle.bool_cubes.specs.Past.{PastIn}
use Rattle.bool_cubes.specs.Refusing.{count_of, most_cubes}
use Rattle.bool_cubes.specs.declared.fault.CubeFault.{CubeFault}
use Rattle.bool_cubes.specs.declared.fault.CubeFault.TheVariants as fault
use Rattle.literal_forms.specs.declared.literal.Cube.{Cube}
use Rattle.cube_search.specs.declared.reason.OpenReason.{OpenReason}
use Rattle.decide.specs.Causes.{IsCause}
use Rattle.decide.specs.CubeValues.{CubeHasNoValues}
use Rattle.assertion_parts.specs.Constants.{AreOnly}
use Rattle.decide.specs.declared.verdict.Open.{Open}
use Rattle.decide.specs.declared.verdict.Open.TheVariants.{TooManyCubes, PastForm, Cubes}
use Rattle.decide.specs.declared.verdict.Verdict.{Verdict}
use Rattle.decide.specs.declared.verdict.Verdict.TheVariants.{Sat, Unsat, Unknown}

-- each listed cube has its reason
abbrev pub EachIsCause : List Term → List (ℕ × OpenReason) → Type 0
EachIsCause terms list = (k : ℕ) (reason : OpenReason) → Contains list (k, reason) → (cube : Cube) × (slice_get (cubes_of (clear_of terms)) k ≡ Some cube) × IsCause terms cube reason

-- each cube that isn't listed has no values
abbrev pub EachOtherHasNone : List Term → List (ℕ × OpenReason) → Type 0
EachOtherHasNone terms list = (k : ℕ) (cube : Cube) → slice_get (cubes_of (clear_of terms)) k ≡ Some cube → (Contains (map (λ e. e.0) list) k → ⊥) → CubeHasNoValues cube

-- the open cubes of the assertions without opaque parts
pub record AreOpenCubes (terms : List Term) (list : List (ℕ × OpenReason)) : Type 0 where
  pub some : list ≢ []
  pub rise : IsStrictlyIncreasing (map (λ e. e.0) list)
  pub causes : EachIsCause terms list
  pub others : EachOtherHasNone terms list

-- why no answer was found
abbrev pub IsOpenFor : List Term → Open → Type 0
IsOpenFor terms (TooManyCubes n) = (n ≡ cut_off (count_of (clear_of terms))) × (most_cubes < n)
IsOpenFor terms (PastForm left right) = PastIn (clear_of terms) left right
IsOpenFor terms (Cubes list) = AreOpenCubes terms list

-- sat with values that make all assertions true, of which none has an opaque part; unsat where those without opaque parts have no values; unknown with a cause that holds of them
abbrev pub RightVerdict : List Term → Verdict → Type 0
RightVerdict terms (Sat values) = (opaque_of terms ≡ []) × AreTrueAt values terms
RightVerdict terms (Unsat refutation) = HasNoValues (clear_of terms)
RightVerdict terms (Unknown reason) = IsOpenFor terms reason

-- a model has values for the constants of the terms alone
abbrev pub HasOnly : List Term → Verdict → Type 0
HasOnly terms (Sat values) = AreOnly values terms
HasOnly terms (Unsat refutation) = ⊤
HasOnly terms (Unknown reason) = ⊤

-- the verdict where the cubes aren't listed
abbrev pub refused_as : CubeFault → Result Verdict AllocError
refused_as (fault.Past left right) = Ok (Unknown (PastForm left right))
refused_as (fault.TooMany n) = Ok (Unknown (TooManyCubes n))
refused_as (fault.Memory error) = Err error
