use Rattle.std.proofs.Common.{ℕ, length, subst, take, ◌+◌, ◌<◌, ◌≤◌}
use Rattle.std.specs.List.{AllByRecursion}
use Rattle.bool_cubes.specs.Contradictions.{IsContradictory, IsContradictoryCube}
use Rattle.bool_cubes.specs.Cubes.{count}
use Rattle.bool_cubes.specs.Nodes.{tree_at}
use Rattle.bool_cubes.specs.Picking.{cube_at}
use Rattle.bool_cubes.proofs.Ahead.{ahead_all, ahead_within}
use Rattle.bool_cubes.proofs.cubes.Cubes.count_contradictory.Goals as goal

pub returns-clause-within : goal.returns-clause-within
returns-clause-within c =
    let i = c.self.inside in
    let n = c.in_ok-cubes.cubes in
    let w = subst (λ ns. c.self.inside.given + c.in_ok-cubes.cubes ≤ count (tree_at ns c.self.inside.root)) c.as_slice.ensures c.in_ok-cubes.ensures.within in
    subst (λ xs. c.in_ok-cubes.cubes ≤ length xs) c.self.view_is (ahead_within i.nodes i.root i.given n w)

pub returns-clause-contradictory : goal.returns-clause-contradictory
returns-clause-contradictory c =
    let i = c.self.inside in
    let n = c.in_ok-cubes.cubes in
    let w = subst (λ ns. c.self.inside.given + c.in_ok-cubes.cubes ≤ count (tree_at ns c.self.inside.root)) c.as_slice.ensures c.in_ok-cubes.ensures.within in
    let f = subst (λ ns. (d : ℕ) → d < c.in_ok-cubes.cubes → IsContradictory (cube_at (tree_at ns c.self.inside.root) (c.self.inside.given + d))) c.as_slice.ensures c.in_ok-cubes.ensures.stretch in
    subst (λ xs. AllByRecursion IsContradictoryCube (take c.in_ok-cubes.cubes xs)) c.self.view_is (ahead_all i.nodes i.root i.given n w f)
