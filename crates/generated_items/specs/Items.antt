-- The s-expressions of a generated script.
use Rattle.std.specs.Prelude.{ℕ, zero, suc, ◌+◌, ◌%◌, List, [], ◌++◌, map}
use Rattle.generated_script.specs.Blocks.{shape_of}
use Rattle.generated_script.specs.Draws.{drawn, seeded, behind}
use Rattle.generated_script.specs.declared.shape.Shape.{Shape as Block}
use Rattle.sexpr_reader.specs.declared.sexpr.Sexpr.{Sexpr}
use Rattle.smt_names.specs.Form.{raw}
use Rattle.generated_items.specs.Forms.{block_forms}

-- what is drawn behind this number: the shape of a block, and its number
abbrev pub block_at : ℕ → Block
block_at s = shape_of (drawn s % 4)

abbrev pub number_at : ℕ → ℕ
number_at s = behind s % 50 + 1

abbrev pub block_items : Block → ℕ → List Sexpr
block_items block k = map raw (block_forms block k)

-- so many blocks, drawn behind this number
abbrev pub items_from : ℕ → ℕ → List Sexpr
items_from s zero = []
items_from s (suc n) = block_items (block_at s) (number_at s) ++ items_from (behind s) n

-- the generated script of a seed, with so many blocks
abbrev pub script_items : ℕ → ℕ → List Sexpr
script_items seed size = items_from (seeded seed) size
