use Rattle.std.proofs.Common.{◌∙◌, List, [], ◌∷◌, ◌++◌, ap, refl}
use Rattle.machine_core.specs.declared.graph.Graph.{Graph}
use Rattle.leaf_tests.proofs.LeafSolveRows.{asked-one}
use Rattle.leaf_tests.proofs.leaf_solve_calls.answer.Goals as goal

pub leaf-requires : goal.leaf-requires
leaf-requires c =
    asked-one c.args.machine c.as_slice.result.now c.args.rows.now _ c.args.reach
    (c.as_slice.ensures ∙ c.in_ok-push.ensures.ok ∙ ap (λ (l : List Graph). l ++ c.args.machine ∷ []) c.new-machines.ensures)
    c.requires.registers c.in_ok-from_slice.ensures refl c.requires.rows c.requires.reach
