-- Trees by nodes, each made of nodes before it. So a tree that stands in several others is kept once.
use Rattle.std.specs.Prelude.{◌≡◌, ℕ, zero, suc, ◌<◌, ◌≤◌, List, [], ◌∷◌, ◌++◌, length, slice_index_or, ⊤, true, false}
use Rattle.bool_cubes.specs.Cubes.{count}
use Rattle.sv_terms.specs.CutOff.{cut_off}
use Rattle.bool_cubes.specs.Trees.{Formula, Tree, always, never, one, both, either}
use Rattle.bool_cubes.specs.declared.node.CubeNode.{CubeNode}
use Rattle.bool_cubes.specs.declared.node.NodeKind.{NodeKind}
use Rattle.bool_cubes.specs.declared.node.NodeKind.TheVariants as kind
use Rattle.bool_cubes.specs.declared.node.NodePair.{NodePair}

-- the tree at a place of a list, never where there is none
abbrev pub listed_at : List Tree → ℕ → Tree
listed_at [] k = never
listed_at (t ∷ ts) zero = t
listed_at (t ∷ ts) (suc k) = listed_at ts k

-- the tree of a node behind those of the nodes before it
abbrev pub made : List Tree → NodeKind → Tree
made ts kind.Always = always
made ts kind.Never = never
made ts (kind.One l) = one l
made ts (kind.Both i j) = both (listed_at ts i) (listed_at ts j)
made ts (kind.Either i j) = either (listed_at ts i) (listed_at ts j)

abbrev pub trees_from : List Tree → List CubeNode → List Tree
trees_from ts [] = ts
trees_from ts (n ∷ ns) = trees_from (ts ++ made ts n.kind ∷ []) ns

-- the trees of nodes, in their order
abbrev pub trees_of : List CubeNode → List Tree
trees_of ns = trees_from [] ns

abbrev pub tree_at : List CubeNode → ℕ → Tree
tree_at ns k = listed_at (trees_of ns) k

-- a node at this place is made of earlier ones
abbrev pub IsOfEarlier : ℕ → NodeKind → Type 0
IsOfEarlier k kind.Always = ⊤
IsOfEarlier k kind.Never = ⊤
IsOfEarlier k (kind.One l) = ⊤
IsOfEarlier k (kind.Both i j) = (i < k) × (j < k)
IsOfEarlier k (kind.Either i j) = (i < k) × (j < k)

-- the node at this place is made of earlier ones, and its tree has so many cubes, cut off
pub record IsMade (ns : List CubeNode) (k : ℕ) (n : CubeNode) : Type 0 where
  pub earlier : IsOfEarlier k n.kind
  pub tree : tree_at ns k ≡ made (trees_of ns) n.kind
  pub cubes : n.cubes ≡ cut_off (count (tree_at ns k))

pub record IsPlan (ns : List CubeNode) : Type 0 where
  pub each : (k : ℕ) (n : CubeNode) → k < length ns → n ≡ slice_index_or ns k n → IsMade ns k n

-- nodes behind others: each that was there has the tree that it had
pub record IsLonger (old new : List CubeNode) : Type 0 where
  pub more : length old ≤ length new
  pub kept : (k : ℕ) → k < length old → tree_at new k ≡ tree_at old k
  pub plan : IsPlan new

-- a node of nodes behind others has this tree
pub record IsAddedNode (old new : List CubeNode) (k : ℕ) (t : Tree) : Type 0 where
  pub longer : IsLonger old new
  pub within : k < length new
  pub tree : tree_at new k ≡ t

-- two nodes have the trees of a formula and of its negation
pub record HasBothTrees (ns : List CubeNode) (s : NodePair) (f : Formula) : Type 0 where
  pub holding : s.holding < length ns
  pub failing : s.failing < length ns
  pub holds : tree_at ns s.holding ≡ f true
  pub fails : tree_at ns s.failing ≡ f false

pub record IsPlanned (old new : List CubeNode) (s : NodePair) (f : Formula) : Type 0 where
  pub longer : IsLonger old new
  pub stands : HasBothTrees new s f

abbrev pub AreOf : List CubeNode → NodePair → Type 0
AreOf ns s = (s.holding < length ns) × (s.failing < length ns)
