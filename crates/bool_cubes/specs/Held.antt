-- Literals that are held: what follows from them of the cubes of nodes.
use Rattle.std.specs.Prelude.{◌≡◌, ℕ, ◌<◌, Bool, true, List, ◌++◌, Option, Some, slice_get, ◌⊎◌}
use Rattle.std.specs.List.{Contains}
use Rattle.bool_cubes.specs.Contradictions.{IsContradictory}
use Rattle.bool_cubes.specs.Cubes.{count}
use Rattle.bool_cubes.specs.Nodes.{tree_at}
use Rattle.bool_cubes.specs.Picking.{cube_at}
use Rattle.bool_cubes.specs.Trees.{Tree, one}
use Rattle.bool_cubes.specs.declared.known.Known.{Known}
use Rattle.bool_cubes.specs.declared.node.CubeNode.{CubeNode}
use Rattle.literal_forms.specs.declared.literal.Literal.{Literal}

-- the node at this place is a literal, and that is held
abbrev pub IsHeldNode : List CubeNode → List Literal → ℕ → Type 0
IsHeldNode ns ls p = (l : Literal) × (tree_at ns p ≡ one l) × Contains ls l

-- each mark is the place of a literal that is held
pub record AreHeld (ns : List CubeNode) (ls : List Literal) (marks : List (Option ℕ)) : Type 0 where
  pub each : (i p : ℕ) → slice_get marks i ≡ Some (Some p) → IsHeldNode ns ls p

-- with what is held each cube of the tree holds an atom and its negation
abbrev pub IsDead : List Literal → Tree → Type 0
IsDead ls t = (k : ℕ) → k < count t → IsContradictory (ls ++ cube_at t k)

pub record AreDead (ns : List CubeNode) (ls : List Literal) (dead : List Bool) : Type 0 where
  pub each : (k : ℕ) → slice_get dead k ≡ Some true → IsDead ls (tree_at ns k)

-- the literal stands in each cube that isn't contradictory
abbrev pub IsForced : Tree → Literal → Type 0
IsForced t l = (k : ℕ) → k < count t → IsContradictory (cube_at t k) ⊎ Contains (cube_at t k) l

-- of each cube of the first tree that isn't contradictory a cube of the second is a part
abbrev pub IsMust : Tree → Tree → Type 0
IsMust t u = (k : ℕ) → k < count t → IsContradictory (cube_at t k) ⊎ ((j : ℕ) × (j < count u) × ((l : Literal) → Contains (cube_at u j) l → Contains (cube_at t k) l))

pub record AreMust (ns : List CubeNode) (root : ℕ) (must : List Bool) : Type 0 where
  pub each : (k : ℕ) → slice_get must k ≡ Some true → IsMust (tree_at ns root) (tree_at ns k)

-- what is marked is forced, and what is dead is so with the marked literals
pub record IsKnown (ns : List CubeNode) (root : ℕ) (known : Known) : Type 0 where
  pub literals : List Literal
  pub held : AreHeld ns literals known.forced
  pub dead : AreDead ns literals known.dead
  pub forced : (l : Literal) → Contains literals l → IsForced (tree_at ns root) l

-- the tree is the negation of the literal
abbrev pub IsOpposed : Tree → Literal → Type 0
IsOpposed t l = (other : Literal) × (t ≡ one other) × (other.atom ≡ l.atom) × (other.positive ≡ l.positive → ⊥)
