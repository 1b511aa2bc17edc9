-- Why a cube of some assertions is left open.
use Rattle.std.specs.Prelude.{Contains, Err, List}
use Rattle.sv_terms.specs.Truth.{opaque_of}
use Rattle.sv_terms.specs.declared.term.Term.{Term}
use Rattle.literal_forms.specs.declared.literal.Cube.{Cube}
use Rattle.flat_cubes.specs.Flattening.{IsFlattened, IsFlattening}
use Rattle.flat_cubes.specs.declared.fault.FlatFault.{FlatFault}
use Rattle.flat_cubes.specs.declared.fault.FlatFault.TheVariants as fault
use Rattle.flat_cubes.specs.declared.flat.Flat.{Flat}
use Rattle.cube_search.specs.Causes.{IsCauseOf}
use Rattle.cube_search.specs.declared.reason.OpenReason.{OpenReason}
use Rattle.cube_search.specs.declared.reason.OpenReason.TheVariants.{Fragment, Wide, States, Splits, Growth, Length, Arithmetic}
use Rattle.cube_search.specs.declared.reason.Shown.{Shown}
use Rattle.cube_search.specs.declared.reason.Shown.TheVariants.{Outside, Twice, Cycle, Opaque}
use Rattle.decide.specs.CubeValues.{CubeHasValues}

-- the first thing for which the cube isn't straight
abbrev pub IsRefusedBy : Cube → FlatFault → Type 0
IsRefusedBy cube f = IsFlattened cube.literals (Err f)

-- what stands outside the fragment: a literal, a variable with two definitions, a cycle of them; or, where the cube has values, an assertion with an opaque part
abbrev pub IsShown : List Term → Cube → Shown → Type 0
IsShown terms cube (Outside l) = IsRefusedBy cube (fault.Outside l)
IsShown terms cube (Twice v) = IsRefusedBy cube (fault.Twice v)
IsShown terms cube (Cycle vs) = IsRefusedBy cube (fault.Cycle vs)
IsShown terms cube (Opaque t) = Contains (opaque_of terms) t × CubeHasValues cube

-- the cube is straight, and the reason is that of its flat cube
abbrev pub IsFlatCause : Cube → OpenReason → Type 0
IsFlatCause cube reason = (flat : Flat) × IsFlattening cube.literals flat × IsCauseOf flat reason

-- the reason holds of the cube of these assertions
abbrev pub IsCause : List Term → Cube → OpenReason → Type 0
IsCause terms cube (Fragment shown) = IsShown terms cube shown
IsCause terms cube (Wide n) = IsRefusedBy cube (fault.Wide n)
IsCause terms cube (States n) = IsFlatCause cube (States n)
IsCause terms cube (Splits n) = IsFlatCause cube (Splits n)
IsCause terms cube (Growth n) = IsFlatCause cube (Growth n)
IsCause terms cube (Length machines shown) = IsFlatCause cube (Length machines shown)
IsCause terms cube (Arithmetic machines system evidence) = IsFlatCause cube (Arithmetic machines system evidence)
