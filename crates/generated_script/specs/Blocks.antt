-- The text of a generated script, block by block.
use Rattle.std.specs.Prelude.{ℕ, zero, suc, ◌+◌, ◌*◌, ◌%◌, List, [], ◌∷◌, ◌++◌, codes}
use Rattle.std.specs.Fmt.{decimal}
use Rattle.generated_script.specs.Draws.{drawn, seeded, behind}
use Rattle.generated_script.specs.declared.shape.Shape.{Shape}
use Rattle.generated_script.specs.declared.shape.Shape.TheVariants.{Power, Odd, Halves, Escaped}

-- a text of its own line
unfoldable pub line : List ℕ → List ℕ
line text = text ++ 10 ∷ []

-- a number in a line, between these texts
abbrev pub numbered : List ℕ → ℕ → List ℕ → List ℕ
numbered before n after = line (before ++ decimal n ++ after)

-- the shape of a block, by what is drawn first
abbrev pub shape_of : ℕ → Shape
shape_of zero = Power
shape_of (suc zero) = Odd
shape_of (suc (suc zero)) = Halves
shape_of (suc (suc (suc n))) = Escaped

-- that the word has this length
abbrev pub length_line : ℕ → List ℕ
length_line n = numbered (codes "(assert (= (str.len x) ") n (codes "))")

-- the two assertions of a block with this number
abbrev pub assertions : Shape → ℕ → List ℕ
assertions Power k = numbered (codes "(assert (str.in_re x ((_ re.^ ") k (codes ") (str.to_re \"ab\"))))") ++ length_line (2 * k)
assertions Odd k = line (codes "(assert (str.in_re x (re.* (str.to_re \"aa\"))))") ++ length_line (2 * k + 1)
assertions Halves k = line (codes "(assert (= x (str.++ y y)))") ++ length_line k
assertions Escaped k = line (codes "(assert (= x (str.replace_all y \"<\" \"&lt;\")))") ++ line (codes "(assert (str.contains x \"<\"))")

-- a level of its own, two constants, the assertions, and the question
abbrev pub block_text : Shape → ℕ → List ℕ
block_text shape k = line (codes "(push 1)") ++ line (codes "(declare-const x String)") ++ line (codes "(declare-const y String)")
    ++ assertions shape k ++ line (codes "(check-sat)") ++ line (codes "(pop 1)")

-- the block that is drawn behind this number: its shape first, then a number from 1 to 50
abbrev pub block : ℕ → List ℕ
block s = block_text (shape_of (drawn s % 4)) (behind s % 50 + 1)

-- so many blocks, drawn behind this number
abbrev pub blocks : ℕ → ℕ → List ℕ
blocks s zero = []
blocks s (suc n) = block s ++ blocks (behind s) n

-- the generated script of a seed, with so many blocks
abbrev pub script : ℕ → ℕ → List ℕ
script seed size = blocks (seeded seed) size
