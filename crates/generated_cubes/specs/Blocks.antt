-- The one cube of a block of a generated script, and that its numbers are small.
use Rattle.std.specs.Prelude.{◌≡◌, ℕ, ◌≤◌, true, List, [], ◌∷◌}
use Rattle.cube_bounds.specs.Bounds.{states, splits}
use Rattle.cube_bounds.specs.Sides.{IsSmall}
use Rattle.flat_cubes.specs.Flattening.{IsFlattening}
use Rattle.flat_cubes.specs.declared.flat.Flat.{Flat}
use Rattle.generated_script.specs.declared.shape.Shape.{Shape as Block}
use Rattle.generated_terms.specs.Terms.{first, second}
use Rattle.literal_forms.specs.Shapes.{Shape, raw}
use Rattle.literal_forms.specs.declared.literal.Literal.{Literal}

-- a term that is to be true
abbrev pub literal : Shape → Literal
literal s = record { atom = raw s; positive = true }

-- both assertions are literals
abbrev pub literals_of : Block → ℕ → List Literal
literals_of block k = literal (first block k) ∷ literal (second block k) ∷ []

-- they are straight: their flat cube has at most 151 states a machine, nothing to be cut, and a small box
pub record IsSmallBlock (block : Block) (k : ℕ) : Type 0 where
  pub flat : Flat
  pub flattening : IsFlattening (literals_of block k) flat
  pub few_states : states flat ≤ 151
  pub no_splits : splits flat ≡ 1
  pub small : IsSmall flat
