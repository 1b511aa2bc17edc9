-- The commands of a generated script as forms.
use Rattle.std.specs.Prelude.{ℕ, ◌+◌, ◌*◌, List, [], ◌∷◌, codes}
use Rattle.std.specs.Fmt.{decimal}
use Rattle.generated_script.specs.declared.shape.Shape.{Shape as Block}
use Rattle.generated_script.specs.declared.shape.Shape.TheVariants.{Power, Odd, Halves, Escaped}
use Rattle.sexpr_reader.specs.declared.kind.TokenKind.TheVariants as kind
use Rattle.smt_names.specs.Form.{Form, token, group, end, ◌⨾◌}

-- tokens
abbrev pub symbol : List ℕ → Form
symbol name = token kind.Symbol name

abbrev pub numeral : ℕ → Form
numeral n = token kind.Numeral (decimal n)

abbrev pub literal : List ℕ → Form
literal text = token kind.Literal text

abbrev pub x : Form
x = symbol (codes "x")

abbrev pub y : Form
y = symbol (codes "y")

abbrev pub asserted : Form → Form
asserted t = group (symbol (codes "assert") ⨾ t ⨾ end)

-- that the word of x has this length
abbrev pub has_length : ℕ → Form
has_length n = group (symbol (codes "=") ⨾ group (symbol (codes "str.len") ⨾ x ⨾ end) ⨾ numeral n ⨾ end)

-- the word so many times
abbrev pub power_of : ℕ → Form → Form
power_of n r = group (group (symbol (codes "_") ⨾ symbol (codes "re.^") ⨾ numeral n ⨾ end) ⨾ r ⨾ end)

abbrev pub language_of : List ℕ → Form
language_of text = group (symbol (codes "str.to_re") ⨾ literal text ⨾ end)

abbrev pub in_language : Form → Form
in_language r = group (symbol (codes "str.in_re") ⨾ x ⨾ r ⨾ end)

-- the first and the second assertion of a block with this number
abbrev pub first_form : Block → ℕ → Form
first_form Power k = in_language (power_of k (language_of (codes "\"ab\"")))
first_form Odd k = in_language (group (symbol (codes "re.*") ⨾ language_of (codes "\"aa\"") ⨾ end))
first_form Halves k = group (symbol (codes "=") ⨾ x ⨾ group (symbol (codes "str.++") ⨾ y ⨾ y ⨾ end) ⨾ end)
first_form Escaped k = group (symbol (codes "=") ⨾ x ⨾ group (symbol (codes "str.replace_all") ⨾ y ⨾ literal (codes "\"<\"") ⨾ literal (codes "\"&lt;\"") ⨾ end) ⨾ end)

abbrev pub second_form : Block → ℕ → Form
second_form Power k = has_length (2 * k)
second_form Odd k = has_length (2 * k + 1)
second_form Halves k = has_length k
second_form Escaped k = group (symbol (codes "str.contains") ⨾ x ⨾ literal (codes "\"<\"") ⨾ end)

abbrev pub pushed : Form
pushed = group (symbol (codes "push") ⨾ token kind.Numeral (codes "1") ⨾ end)

abbrev pub declared : Form → Form
declared name = group (symbol (codes "declare-const") ⨾ name ⨾ symbol (codes "String") ⨾ end)

abbrev pub asked : Form
asked = group (symbol (codes "check-sat") ⨾ end)

abbrev pub popped : Form
popped = group (symbol (codes "pop") ⨾ token kind.Numeral (codes "1") ⨾ end)

-- the commands of a block
abbrev pub block_forms : Block → ℕ → List Form
block_forms block k = pushed ∷ declared x ∷ declared y ∷ asserted (first_form block k) ∷ asserted (second_form block k) ∷ asked ∷ popped ∷ []
