-- A block is one cube.
use Rattle.std.proofs.Common.{◌≡◌, ℕ, [], ◌∷◌, true, map, refl, ap, ◌∙◌}
use Rattle.bool_cubes.specs.Cubes.{cubes, count, cube, cubes_of}
use Rattle.bool_cubes.specs.Refusing.{count_of}
use Rattle.bool_cubes.specs.Trees.{Tree, always, both, formula, tree_of}
use Rattle.generated_script.specs.declared.shape.Shape.{Shape as Block}
use Rattle.generated_script.specs.declared.shape.Shape.TheVariants.{Power, Odd, Halves, Escaped}
use Rattle.generated_terms.specs.Terms.{first, second, terms_of}
use Rattle.generated_cubes.specs.Blocks.{literals_of}
use Rattle.literal_forms.specs.Mirrors.{seen-raw}

-- the tree of both assertions
abbrev pub tree : Block → ℕ → Tree
tree block k = both (formula (first block k) true) (both (formula (second block k) true) always)

pub tree_is : (block : Block) (k : ℕ) → tree_of (terms_of block k) ≡ tree block k
tree_is block k = λ i. both (formula (seen-raw (first block k) i) true) (both (formula (seen-raw (second block k) i) true) always)

one_choice : (block : Block) (k : ℕ) → map cube (cubes (tree block k)) ≡ cube (literals_of block k) ∷ []
one_choice Power k = refl
one_choice Odd k = refl
one_choice Halves k = refl
one_choice Escaped k = refl

pub one_cube : (block : Block) (k : ℕ) → cubes_of (terms_of block k) ≡ cube (literals_of block k) ∷ []
one_cube block k = ap (λ (t : Tree). map cube (cubes t)) (tree_is block k) ∙ one_choice block k

one : (block : Block) (k : ℕ) → count (tree block k) ≡ 1
one Power k = refl
one Odd k = refl
one Halves k = refl
one Escaped k = refl

pub counted_one : (block : Block) (k : ℕ) → count_of (terms_of block k) ≡ 1
counted_one block k = ap count (tree_is block k) ∙ one block k
