-- The assertions of the blocks of a generated script, as terms, and which blocks have values.
use Rattle.std.specs.Prelude.{ℕ, pos, ◌+◌, ◌*◌, ◌%◌, nat_eq, Bool, true, false, List, [], ◌∷◌, codes}
use Rattle.generated_script.specs.declared.shape.Shape.{Shape as Block}
use Rattle.generated_script.specs.declared.shape.Shape.TheVariants.{Power, Odd, Halves, Escaped}
use Rattle.literal_forms.specs.Shapes.{Shape, number, text, constant, apply, member, end, ◌⨾◌, raw}
use Rattle.sv_terms.specs.declared.op.Op.TheVariants as op
use Rattle.sv_terms.specs.declared.regex.Regex.TheVariants as regex
use Rattle.sv_terms.specs.declared.sort.Sort.TheVariants as sort
use Rattle.sv_terms.specs.declared.term.Term.{Term}

-- the two constants of a block
abbrev pub x : Shape
x = constant (codes "x") sort.String

abbrev pub y : Shape
y = constant (codes "y") sort.String

-- that the word of x has this length
abbrev pub has_length : ℕ → Shape
has_length n = apply op.Equal (apply op.Length (x ⨾ end) ⨾ number (pos n) ⨾ end)

-- the first and the second assertion of a block with this number
abbrev pub first : Block → ℕ → Shape
first Power k = member x (regex.Loop (regex.Text (codes "ab")) k k)
first Odd k = member x (regex.Star (regex.Text (codes "aa")))
first Halves k = apply op.Equal (x ⨾ apply op.Concat (y ⨾ y ⨾ end) ⨾ end)
first Escaped k = apply op.Equal (x ⨾ apply op.ReplaceAll (y ⨾ text (codes "<") ⨾ text (codes "&lt;") ⨾ end) ⨾ end)

abbrev pub second : Block → ℕ → Shape
second Power k = has_length (2 * k)
second Odd k = has_length (2 * k + 1)
second Halves k = has_length k
second Escaped k = apply op.Contains (x ⨾ text (codes "<") ⨾ end)

abbrev pub terms_of : Block → ℕ → List Term
terms_of block k = raw (first block k) ∷ raw (second block k) ∷ []

-- whether a block with this number has values: a power does, and halves of an even length
abbrev pub has_values : Block → ℕ → Bool
has_values Power k = true
has_values Odd k = false
has_values Halves k = nat_eq (k % 2) 0
has_values Escaped k = false
