-- The cubes of assertions: of each or one argument is taken, and of each and all.
use Rattle.std.specs.Prelude.{ℕ, ◌+◌, ◌*◌, List, [], ◌∷◌, ◌++◌, map, ◌⊎◌, ⊤}
use Rattle.sv_terms.specs.Meaning.{Named}
use Rattle.sv_terms.specs.declared.term.Term.{Term}
use Rattle.literal_forms.specs.Literals.{AreTrueLiterals, IsTrueLiteral, SomeOf}
use Rattle.literal_forms.specs.declared.literal.Literal.{Literal}
use Rattle.literal_forms.specs.declared.literal.Cube.{Cube}
use Rattle.bool_cubes.specs.Trees.{Tree, always, never, one, both, either, tree_of}

-- all choices of a list from each of the two, joined; the first one's choice changes slowest
abbrev pub choices : {X : Type 0} → List (List X) → List (List X) → List (List X)
choices [] ds = []
choices (c ∷ cs) ds = map (λ d. c ++ d) ds ++ choices cs ds

-- the cubes of a tree: a tree that always holds has one empty cube, one that never does has none
abbrev pub cubes : Tree → List (List Literal)
cubes always = [] ∷ []
cubes never = []
cubes (one l) = (l ∷ []) ∷ []
cubes (both t u) = choices (cubes t) (cubes u)
cubes (either t u) = cubes t ++ cubes u

-- their number, by sums and products
abbrev pub count : Tree → ℕ
count always = 1
count never = 0
count (one l) = 1
count (both t u) = count t * count u
count (either t u) = count t + count u

abbrev pub cube : List Literal → Cube
cube ls = record { literals = ls }

-- the cubes of the assertions, in their order
abbrev pub cubes_of : List Term → List Cube
cubes_of ts = map cube (cubes (tree_of ts))

-- all its literals are true under the values
abbrev pub CubeTrue : Named → Cube → Type 0
CubeTrue values c = AreTrueLiterals values c.literals

-- some cube is true
abbrev pub SomeCubeTrue : Named → List Term → Type 0
SomeCubeTrue values ts = SomeOf (CubeTrue values) (cubes_of ts)

-- the same of a tree: what it is to be true under the values
abbrev pub TreeTrue : Named → Tree → Type 0
TreeTrue values always = ⊤
TreeTrue values never = ⊥
TreeTrue values (one l) = IsTrueLiteral values l
TreeTrue values (both t u) = TreeTrue values t × TreeTrue values u
TreeTrue values (either t u) = TreeTrue values t ⊎ TreeTrue values u
