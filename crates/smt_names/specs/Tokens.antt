-- What tokens stand for in commands and terms.
use Rattle.std.specs.Char.{is_ascii_hexdigit}
use Rattle.std.specs.List.{list_all}
use Rattle.std.specs.Map.{lookup}
use Rattle.std.specs.Str.Parse.{digits_value}
use Rattle.std.specs.Prelude.{ℕ, ◌+◌, ◌*◌, ◌-◌, ◌^◌, min, Bool, true, false, nat_le, ◌&&◌, List, [], ◌∷◌, length, take, drop, Option, Some, None, Result, Ok, Err, codes, if◌then◌else◌}
use Rattle.sexpr_reader.specs.declared.kind.TokenKind.TheVariants.{Numeral, Hexadecimal, Symbol, Quoted, Keyword, Literal}
use Rattle.sv_word.specs.declared.literal_fault.LiteralFault.{LiteralFault}
use Rattle.sv_word.specs.Literals.{lit}
use Rattle.sv_word.specs.Words.{greatest_character}
use Rattle.sv_terms.specs.Names.{symbol_name}
use Rattle.sv_terms.specs.declared.sort.Sort.{Sort}
use Rattle.smt_names.specs.declared.opening.Opening.{Opening}
use Rattle.smt_names.specs.declared.opening.Opening.TheVariants.{Let, Quantifier, Annotation, Identifier, Application}
use Rattle.smt_names.specs.Form.{Form, Forms, token, group}
use Rattle.smt_names.specs.Signature.{Name, same_name, sorts}

-- the name of a symbol; `abc` and `|abc|` are one
abbrev pub symbol : Form → Option Name
symbol (token Symbol text) = Some (symbol_name text)
symbol (token Quoted text) = Some (symbol_name text)
symbol _ = None

-- a word of the syntax is written without bars
abbrev pub word : Form → Option Name
word (token Symbol text) = Some text
word _ = None

-- the digits of a numeral
abbrev pub digits : Form → Option (List ℕ)
digits (token Numeral ds) = Some ds
digits _ = None

-- the number that digits write behind those that wrote n
abbrev pub value_from : ℕ → List ℕ → ℕ
value_from n [] = n
value_from n (d ∷ ds) = value_from (10 * n + (d - 48)) ds

-- the number that digits write
abbrev pub value : List ℕ → ℕ
value ds = value_from 0 ds

-- a keyword, colon included
abbrev pub keyword : Form → Option (List ℕ)
keyword (token Keyword k) = Some k
keyword _ = None

-- the text of a literal, quotes included
abbrev pub literal_text : Form → Option (List ℕ)
literal_text (token Literal text) = Some text
literal_text _ = None

-- the items of a list
abbrev pub listed : Form → Option Forms
listed (group fs) = Some fs
listed (token kind text) = None

-- `true` or `false`
abbrev pub truths : List (Name × Bool)
truths = (codes "true", true) ∷ (codes "false", false) ∷ []

abbrev pub truth_named : Option Name → Option Bool
truth_named (Some n) = lookup (same_name n) truths
truth_named None = None

abbrev pub truth : Form → Option Bool
truth f = truth_named (symbol f)

-- numbers end at 2^127 - 1
abbrev pub is_too_large : List ℕ → Bool
is_too_large ds = nat_le (2 ^ 127) (value ds)

-- a number of levels; one above 4,294,967,295 stands as that number
abbrev pub level : List ℕ → ℕ
level ds = min (value ds) 4294967295

abbrev pub read_word : Result (List ℕ) LiteralFault → Option (List ℕ)
read_word (Ok w) = Some w
read_word (Err f) = None

-- the word of a literal, which stands between its quotes
abbrev pub literal_word : List ℕ → Option (List ℕ)
literal_word text = read_word (lit (take (length text - 2) (drop 1 text)))

-- one to five hexadecimal digits that write a character
abbrev pub character_of : List ℕ → Option ℕ
character_of ds = if nat_le 1 (length ds) && nat_le (length ds) 5 && list_all is_ascii_hexdigit ds && nat_le (digits_value 16 ds) greatest_character then Some (digits_value 16 ds) else None

-- the character of a hexadecimal token
abbrev pub character_token : Form → Option ℕ
character_token (token Hexadecimal text) = character_of (drop 2 text)
character_token _ = None

-- what the first item of a list makes of it: a `let`, a quantifier, an annotated term, an identifier with indices, or an application
abbrev pub openings : List (Name × Opening)
openings = (codes "let", Let) ∷ (codes "forall", Quantifier) ∷ (codes "exists", Quantifier) ∷ (codes "!", Annotation) ∷ (codes "_", Identifier) ∷ []

abbrev pub or_application : Option Opening → Opening
or_application (Some o) = o
or_application None = Application

abbrev pub opened : Option Name → Opening
opened (Some w) = or_application (lookup (same_name w) openings)
opened None = Application

abbrev pub opening : Form → Opening
opening f = opened (word f)

-- one answer for each kind of term that a list may be
abbrev pub chosen : {A : Type 0} → Opening → A → A → A → A → A → A
chosen Let a b c d e = a
chosen Quantifier a b c d e = b
chosen Annotation a b c d e = c
chosen Identifier a b c d e = d
chosen Application a b c d e = e

abbrev pub is_identifier : Opening → Bool
is_identifier Identifier = true
is_identifier _ = false

-- where a sort stands: a symbol, or a list, which is a sort with arguments or indices
abbrev pub is_sort_form : Form → Bool
is_sort_form (token Symbol text) = true
is_sort_form (token Quoted text) = true
is_sort_form (token _ text) = false
is_sort_form (group fs) = true

abbrev pub sort_named : Option Name → Option Sort
sort_named (Some n) = lookup (same_name n) sorts
sort_named None = None

-- the sort that a form is, if it is known; none with arguments or indices is
abbrev pub sort_of : Form → Option Sort
sort_of f = sort_named (symbol f)
