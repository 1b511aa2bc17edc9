-- What is kept for a regular expression.
use Rattle.std.specs.Prelude.{◌<◌, true, Option, Some, None}
use Rattle.machine_core.specs.declared.graph.Graph.{Graph}
use Rattle.sv_terms.specs.Bounds.{size}
use Rattle.sv_terms.specs.declared.regex.Regex.{Regex}
use Rattle.flat_cubes.specs.declared.variable.Own.TheVariants.{InRe}
use Rattle.part_machines.specs.Parts.{IsOfPart}

-- it is the machine of the part that a word is in the expression
abbrev pub IsMachineOf : Regex → Graph → Type 0
IsMachineOf key machine = IsOfPart (InRe key, true) machine

-- the machine of the expression, or none, only where its size is above the states that a machine may have
abbrev pub IsKept : Regex → Option Graph → Type 0
IsKept key (Some machine) = IsMachineOf key machine
IsKept key None = 262144 < size key
