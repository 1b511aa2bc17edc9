-- What is kept between two cubes.
use Rattle.std.specs.Prelude.{◌≡◌, ℕ, ◌<◌, ◌≤◌, List, length}
use Rattle.bool_cubes.specs.Cubes.{count}
use Rattle.bool_cubes.specs.Nodes.{IsPlan, tree_at}
use Rattle.bool_cubes.specs.Refusing.{most_numbered}
use Rattle.bool_cubes.specs.declared.node.CubeNode.{CubeNode}

-- a node's tree has so many cubes, each with a number, of which these were given
pub record IsGiving (ns : List CubeNode) (root all given : ℕ) : Type 0 where
  pub plan : IsPlan ns
  pub within : root < length ns
  pub number : all ≡ count (tree_at ns root)
  pub most : all ≤ most_numbered
  pub some : given ≤ all
