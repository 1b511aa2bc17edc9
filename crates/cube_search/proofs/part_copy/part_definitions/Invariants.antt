use Rattle.std.specs.Prelude.{◌≡◌, filter, take}
use Rattle.flat_cubes.specs.declared.definition.Definition.{Definition}
use Rattle.cube_search.specs.Conflicts.{is_named}
use Rattle.cube_search.proofs.part_copy.part_definitions.Given as goal

abbrev pub invariant-loop-definition : goal.invariant-loop-definition
invariant-loop-definition l = l.chosen ≡ filter (λ (d : Definition). is_named l.marks d.variable) (take l.definition-index l.definitions)
