-- Jumps from a node past the first cubes of its tree.
use Rattle.std.specs.Prelude.{◌≡◌, ℕ, ◌+◌, ◌-◌, ◌<◌, ◌≤◌, List, length, slice_index_or}
use Rattle.bool_cubes.specs.Cubes.{count}
use Rattle.bool_cubes.specs.Nodes.{tree_at}
use Rattle.bool_cubes.specs.Picking.{cube_at}
use Rattle.bool_cubes.specs.Refusing.{most_cubes}
use Rattle.bool_cubes.specs.Trees.{Tree}
use Rattle.bool_cubes.specs.declared.jumps.Jump.{Jump}
use Rattle.bool_cubes.specs.declared.node.CubeNode.{CubeNode}

-- behind so many cubes of the one tree come those of the other, from its first on
pub record IsBehind (t u : Tree) (passed : ℕ) : Type 0 where
  pub within : passed + count u ≤ count t
  pub below : (k : ℕ) → passed ≤ k → k < count t → k - passed < count u
  pub same : (k : ℕ) → passed ≤ k → k < count t → cube_at t k ≡ cube_at u (k - passed)

-- a jump from this node leads as many nodes back as it has steps, or more, and past so many of its cubes
pub record IsJump (ns : List CubeNode) (k : ℕ) (j : Jump) : Type 0 where
  pub back : j.to + j.steps ≤ k
  pub few : j.cubes ≤ most_cubes
  pub behind : IsBehind (tree_at ns k) (tree_at ns j.to) j.cubes

-- jumps from the first nodes, in their order
pub record AreJumps (ns : List CubeNode) (js : List Jump) : Type 0 where
  pub each : (k : ℕ) (j : Jump) → k < length js → IsJump ns k (slice_index_or js k j)

-- a jump from each node
pub record HasJumps (ns : List CubeNode) (js : List Jump) : Type 0 where
  pub size : length js ≡ length ns
  pub jumps : AreJumps ns js
