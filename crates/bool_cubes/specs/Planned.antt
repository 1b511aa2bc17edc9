-- The nodes of several terms.
use Rattle.std.specs.Prelude.{◌≡◌, ℕ, ◌<◌, List, length, slice_index_or}
use Rattle.std.specs.List.{AllZip}
use Rattle.sv_terms.specs.declared.sort.Sort.TheVariants as sort
use Rattle.sv_terms.specs.declared.term.Term.{Term}
use Rattle.bool_cubes.specs.Nodes.{HasBothTrees, IsPlan, tree_at}
use Rattle.bool_cubes.specs.Refusing.{count_of}
use Rattle.sv_terms.specs.CutOff.{cut_off}
use Rattle.literal_forms.specs.Shapes.{head_sort, seen}
use Rattle.bool_cubes.specs.Trees.{formula, tree_of}
use Rattle.bool_cubes.specs.declared.node.CubeNode.{CubeNode}
use Rattle.bool_cubes.specs.declared.node.NodePair.{NodePair}

-- sides of the terms at the same places
abbrev pub AreNodePairs : List CubeNode → List Term → List NodePair → Type 0
AreNodePairs ns ts ss = AllZip (λ (t : Term) (s : NodePair). HasBothTrees ns s (formula (seen t))) ts ss

-- where one of the terms has sort Bool, sides of all of them
pub record AreBooleanSides (ns : List CubeNode) (ts : List Term) (ss : List NodePair) : Type 0 where
  pub all : (k : ℕ) (t : Term) → k < length ts → t ≡ slice_index_or ts k t → head_sort (seen t) ≡ sort.Bool → AreNodePairs ns ts ss

-- at this place stand the sides of the term
pub record HasSide (ns : List CubeNode) (ss : List NodePair) (i : ℕ) (t : Term) : Type 0 where
  pub within : i < length ss
  pub stands : (s : NodePair) → HasBothTrees ns (slice_index_or ss i s) (formula (seen t))

-- the node at this place has the tree of the assertions, of so many cubes, cut off
pub record IsRootOf (ts : List Term) (ns : List CubeNode) (at cubes : ℕ) : Type 0 where
  pub plan : IsPlan ns
  pub within : at < length ns
  pub tree : tree_at ns at ≡ tree_of ts
  pub count : cubes ≡ cut_off (count_of ts)
