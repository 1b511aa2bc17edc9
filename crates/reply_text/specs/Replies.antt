-- How the parts of replies are printed (SMT-LIB 2.6, sections 3.9 and 4.1).
use Rattle.std.specs.Prelude.{ℕ, suc, ℤ, pos, negsuc, Bool, true, false, List, [], ◌∷◌, ◌++◌, codes, if◌then◌else◌}
use Rattle.std.specs.Fmt.{decimal}
use Rattle.sexpr_reader.specs.Tokens.{is_symbol}
use Rattle.sexpr_reader.specs.declared.sexpr.Sexpr.{Sexpr}
use Rattle.sexpr_reader.specs.declared.sexpr.Sexpr.TheFolds.{fold-Sexpr}
use Rattle.sexpr_reader.specs.declared.sexpr.Sexpr.TheOpen.{Sexpr-F}
use Rattle.sv_terms.specs.declared.sort.Sort.{Sort}
use Rattle.sv_terms.specs.declared.sort.Sort.TheVariants as sort
use Rattle.sv_terms.specs.declared.value.Value.{Value}
use Rattle.sv_terms.specs.declared.value.Value.TheVariants as value
use Rattle.sv_word.specs.Literals.{printed}
use Rattle.reply_text.specs.declared.cause.Cause.{Cause}
use Rattle.reply_text.specs.declared.cause.Cause.TheVariants as cause
use Rattle.reply_text.specs.declared.cause.CubeCause.{CubeCause}
use Rattle.reply_text.specs.declared.cause.CubeCause.TheVariants as cube_cause
use Rattle.reply_text.specs.declared.error_kind.ErrorKind.{ErrorKind}
use Rattle.reply_text.specs.declared.error_kind.ErrorKind.TheVariants as error
use Rattle.reply_text.specs.declared.info.Info.{Info}
use Rattle.reply_text.specs.declared.info.Info.TheVariants as info

abbrev pub Text : Type 0
Text = List ℕ

-- one space between the texts
abbrev pub spaced : List Text → Text
spaced [] = []
spaced (t ∷ []) = t
spaced (t ∷ u ∷ us) = t ++ 32 ∷ spaced (u ∷ us)

-- between parentheses
abbrev pub enclosed : Text → Text
enclosed t = 40 ∷ t ++ 41 ∷ []

abbrev pub sexpr_layer : Sexpr-F Text → Text
sexpr_layer (Sexpr-F.Atom kind bytes) = bytes
sexpr_layer (Sexpr-F.List ts) = enclosed (spaced ts)

-- its tokens as they stood, one space between items
abbrev pub sexpr_text : Sexpr → Text
sexpr_text = fold-Sexpr Text sexpr_layer

-- bare where it is a simple symbol, else between bars
abbrev pub name_text : Text → Text
name_text n = if is_symbol n then n else 124 ∷ n ++ 124 ∷ []

abbrev pub sort_text : Sort → Text
sort_text sort.Bool = codes "Bool"
sort_text sort.Int = codes "Int"
sort_text sort.String = codes "String"
sort_text sort.RegLan = codes "RegLan"

abbrev pub truth_text : Bool → Text
truth_text true = codes "true"
truth_text false = codes "false"

-- a negative number is the negation of a numeral
abbrev pub number_text : ℤ → Text
number_text (pos n) = decimal n
number_text (negsuc n) = codes "(- " ++ decimal (suc n) ++ codes ")"

abbrev pub value_text : Value → Text
value_text (value.Truth b) = truth_text b
value_text (value.Number n) = number_text n
value_text (value.Text w) = printed w

abbrev pub line : Text → Text
line t = t ++ 10 ∷ []

-- the line of one constant
abbrev pub definition_text : Text × Sort × Value → Text
definition_text d = line (codes "  (define-fun " ++ name_text d.0 ++ codes " () " ++ sort_text d.1 ++ codes " " ++ value_text d.2 ++ codes ")")

abbrev pub pair_text : Sexpr × Value → Text
pair_text p = enclosed (sexpr_text p.0 ++ 32 ∷ value_text p.1)

-- the name of an entry, whatever comes with it
abbrev pub entry_text : {V : Type 0} → Text × V → Text
entry_text entry = name_text entry.0

-- the text, and a number behind it
abbrev pub numbered : Text → ℕ → Text
numbered t n = t ++ decimal n

-- a place is counted from 0 over the whole input
abbrev pub error_text : ErrorKind → Text
error_text error.Unknown = codes "unknown symbol"
error_text error.Sort = codes "sort"
error_text error.Arity = codes "arity"
error_text error.Declared = codes "declared"
error_text error.Number = codes "number"
error_text error.Reserved = codes "reserved"
error_text error.Shape = codes "shape"
error_text error.Transducer = codes "transducer"
error_text error.Index = codes "index"
error_text error.Size = codes "size"
error_text error.NoSuchLevel = codes "no such level"
error_text error.Levels = codes "levels"
error_text error.NoModel = codes "no model"
error_text error.NoReason = codes "no reason"
error_text error.NoCore = codes "no core"
error_text error.OpaqueValue = codes "opaque value"
error_text (error.SyntaxToken p) = numbered (codes "syntax token at ") p
error_text (error.SyntaxClose p) = numbered (codes "syntax close at ") p
error_text (error.SyntaxDepth p) = numbered (codes "syntax depth at ") p
error_text (error.SyntaxLiteral p) = numbered (codes "syntax literal at ") p
error_text error.Incomplete = codes "incomplete"

-- why a cube is open, in a word
abbrev pub cube_cause_text : CubeCause → Text
cube_cause_text cube_cause.Fragment = codes "fragment"
cube_cause_text cube_cause.Wide = codes "wide"
cube_cause_text cube_cause.States = codes "states"
cube_cause_text cube_cause.Splits = codes "splits"
cube_cause_text cube_cause.Length = codes "length"
cube_cause_text cube_cause.Branches = codes "branches"
cube_cause_text cube_cause.NumberRow = codes "number-row"
cube_cause_text cube_cause.NumberSum = codes "number-sum"

-- why there is no answer; a cube by its number, counted from 0
abbrev pub cause_text : Cause → Text
cause_text cause.Cubes = codes "cubes"
cause_text cause.NumberForm = codes "number-form"
cause_text (cause.Cube k word) = numbered (codes "(cube ") k ++ 32 ∷ cube_cause_text word ++ 41 ∷ []

abbrev pub info_text : Info → Text
info_text info.Name = codes ":name \"strsolve\""
info_text info.Version = codes ":version \"1\""
info_text info.ErrorBehavior = codes ":error-behavior continued-execution"
info_text (info.AssertionStackLevels n) = numbered (codes ":assertion-stack-levels ") n
info_text (info.ReasonUnknown c) = codes ":reason-unknown " ++ cause_text c
