-- On which assertions a verdict is owed.
use Rattle.std.specs.Prelude.{◌≡◌, ◌≤◌, List, [], All, ⊤}
use Rattle.sv_terms.specs.Truth.{clear_of, opaque_of, HasNoValues}
use Rattle.sv_terms.specs.declared.term.Term.{Term}
use Rattle.bool_cubes.specs.Cubes.{cubes_of}
use Rattle.bool_cubes.specs.Past.{HasNoPast}
use Rattle.bool_cubes.specs.Refusing.{count_of, most_cubes}
use Rattle.literal_forms.specs.declared.literal.Cube.{Cube}
use Rattle.flat_cubes.specs.Flattening.{IsFlattening}
use Rattle.flat_cubes.specs.declared.flat.Flat.{Flat}
use Rattle.cube_search.specs.Limits.{MustDecideFlat}
use Rattle.decide.specs.declared.verdict.Verdict.{Verdict}
use Rattle.decide.specs.declared.verdict.Verdict.TheVariants.{Sat, Unsat, Unknown}

-- the cube is straight, and must be decided by the numbers of its text
abbrev pub MustDecideCube : Cube → Type 0
MustDecideCube cube = (flat : Flat) × IsFlattening cube.literals flat × MustDecideFlat flat

-- there are few cubes, no step of a linear form leaves 128 bits, and each cube must be decided
pub record MustDecide (terms : List Term) : Type 0 where
  pub few : count_of (clear_of terms) ≤ most_cubes
  pub fits : HasNoPast (clear_of terms)
  pub each : All MustDecideCube (cubes_of (clear_of terms))

abbrev pub IsUnsat : Verdict → Type 0
IsUnsat (Sat values) = ⊥
IsUnsat (Unsat refutation) = ⊤
IsUnsat (Unknown reason) = ⊥

abbrev pub IsUnknown : Verdict → Type 0
IsUnknown (Sat values) = ⊥
IsUnknown (Unsat refutation) = ⊥
IsUnknown (Unknown reason) = ⊤

-- sat or unsat, where no assertion has an opaque part; and unsat wherever those without one have no values
pub record IsComplete (terms : List Term) (verdict : Verdict) : Type 0 where
  pub decided : opaque_of terms ≡ [] → IsUnknown verdict → ⊥
  pub unsat : HasNoValues (clear_of terms) → IsUnsat verdict
