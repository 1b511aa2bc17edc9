-- Where no step of a tree is past 128 bits, none of a literal of its cubes is.
use Rattle.std.proofs.Common.{ℤ}
use Rattle.bool_cubes.specs.Cubes.{cubes}
use Rattle.literal_forms.specs.Literals.{SomeOf}
use Rattle.bool_cubes.specs.Laws.{LiteralsFit}
use Rattle.bool_cubes.specs.Past.{tree_steps}
use Rattle.literal_forms.specs.Past.{IsFitting, IsPast}
use Rattle.bool_cubes.specs.Trees.{Tree, always, never, one, both, either, tree_of}
use Rattle.bool_cubes.proofs.Carried.{TreeAll, cubes_all, made_all}
use Rattle.literal_forms.specs.PastLaws.{some_left, some_right}

fitting : (t : Tree) → ((l r : ℤ) → SomeOf (IsPast l r) (tree_steps t) → ⊥) → TreeAll IsFitting t
fitting always h = tt
fitting never h = tt
fitting (one l) h = h
fitting (both t u) h = (fitting t (λ l r a. h l r (some_left (IsPast l r) (tree_steps t) (tree_steps u) a)), fitting u (λ l r a. h l r (some_right (IsPast l r) (tree_steps t) (tree_steps u) a)))
fitting (either t u) h = (fitting t (λ l r a. h l r (some_left (IsPast l r) (tree_steps t) (tree_steps u) a)), fitting u (λ l r a. h l r (some_right (IsPast l r) (tree_steps t) (tree_steps u) a)))

pub literals_fit : LiteralsFit
literals_fit ts h = made_all IsFitting (cubes (tree_of ts)) (cubes_all IsFitting (tree_of ts) (fitting (tree_of ts) h))
