-- Nodes that are marked, from a root down.
use Rattle.std.specs.Prelude.{◌≡◌, ℕ, ◌+◌, ◌<◌, ℤ, Bool, true, false, List, [], length, slice_index_or, slice_set}
use Rattle.literal_forms.specs.Literals.{SomeOf}
use Rattle.literal_forms.specs.Linear.{Step}
use Rattle.bool_cubes.specs.Nodes.{tree_at}
use Rattle.bool_cubes.specs.Past.{tree_steps}
use Rattle.literal_forms.specs.Past.{IsPast, atom_steps}
use Rattle.literal_forms.specs.Shapes.{seen}
use Rattle.bool_cubes.specs.declared.node.CubeNode.{CubeNode}
use Rattle.bool_cubes.specs.declared.node.NodeKind.{NodeKind}
use Rattle.bool_cubes.specs.declared.node.NodeKind.TheVariants as kind

abbrev pub IsMarked : List Bool → ℕ → Type 0
IsMarked marks k = slice_index_or marks k false ≡ true

-- with the nodes that this one is made of
abbrev pub marked : NodeKind → List Bool → List Bool
marked kind.Always marks = marks
marked kind.Never marks = marks
marked (kind.One l) marks = marks
marked (kind.Both i j) marks = slice_set (slice_set marks i true) j true
marked (kind.Either i j) marks = slice_set (slice_set marks i true) j true

-- the steps of a node itself
abbrev pub own_steps : NodeKind → List Step
own_steps kind.Always = []
own_steps kind.Never = []
own_steps (kind.One l) = atom_steps (seen l.atom)
own_steps (kind.Both i j) = []
own_steps (kind.Either i j) = []

abbrev pub HasStep : List CubeNode → ℕ → ℤ → ℤ → Type 0
HasStep ns k l r = SomeOf (IsPast l r) (tree_steps (tree_at ns k))

-- what is marked stands in the root's tree, and what stands there and isn't plain stands below k in a marked node
pub record IsWalked (ns : List CubeNode) (root : ℕ) (marks : List Bool) (k : ℕ) : Type 0 where
  pub size : length marks ≡ root + 1
  pub inside : (j : ℕ) → IsMarked marks j → (l r : ℤ) → HasStep ns j l r → HasStep ns root l r
  pub left : (l r : ℤ) → HasStep ns root l r → (j : ℕ) × (j < k) × IsMarked marks j × HasStep ns j l r
