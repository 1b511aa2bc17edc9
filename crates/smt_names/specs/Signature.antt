-- The signature: the functions of the theories Core, Ints and UnicodeStrings of SMT-LIB 2.6 with their names, their ranks and what an application of each is.
use Rattle.std.specs.Prelude.{ℕ, Bool, true, false, ◌||◌, nat_eq, List, [], ◌∷◌, ◌++◌, codes, is_some}
use Rattle.std.specs.Map.{lookup}
use Rattle.std.specs.Cmp.Lexicographic.{pointwise}
use Rattle.std.specs.List.{list_any}
use Rattle.sv_terms.specs.declared.op.Op.TheVariants as op
use Rattle.sv_terms.specs.declared.sort.Sort.{Sort}
use Rattle.sv_terms.specs.declared.sort.Sort.TheVariants.{Bool as B, Int as I, String as S, RegLan as R}
use Rattle.smt_names.specs.declared.function.Function.{Function}
use Rattle.smt_names.specs.declared.function.ArgumentSorts.{ArgumentSorts}
use Rattle.smt_names.specs.declared.function.ArgumentSorts.TheVariants.{Nothing, One, Two, Three, Each, Many, Alike, Choice}
use Rattle.smt_names.specs.declared.function.Interpretation.{Interpretation}
use Rattle.smt_names.specs.declared.function.Interpretation.TheVariants as is

abbrev pub Name : Type 0
Name = List ℕ

abbrev pub same_name : Name → Name → Bool
same_name = pointwise nat_eq

-- a function that takes such arguments, gives this sort, and has this sense
abbrev pub function : ArgumentSorts → Sort → Interpretation → Function
function takes gives sense = record { takes = takes; gives = gives; sense = sense }

abbrev pub Rows : Type 0
Rows = List (Name × Function)

-- the theory Core
abbrev pub core : Rows
core = (codes "true", function Nothing B (is.Truth true))
    ∷ (codes "false", function Nothing B (is.Truth false))
    ∷ (codes "not", function (One B) B (is.Meaning op.Not))
    ∷ (codes "and", function (Each B) B (is.Meaning op.And))
    ∷ (codes "or", function (Each B) B (is.Meaning op.Or))
    ∷ (codes "xor", function (Many B) B (is.Meaning op.Xor))
    ∷ (codes "=>", function (Many B) B (is.Meaning op.Implies))
    ∷ (codes "=", function Alike B (is.Equality op.Equal))
    ∷ (codes "distinct", function Alike B (is.Equality op.Distinct))
    ∷ (codes "ite", function Choice B is.Choice)
    ∷ []

-- the theory Ints
abbrev pub integers : Rows
integers = (codes "<=", function (Many I) B (is.Meaning op.LessEqual))
    ∷ (codes "<", function (Many I) B (is.Meaning op.Less))
    ∷ (codes ">=", function (Many I) B (is.Meaning op.GreaterEqual))
    ∷ (codes ">", function (Many I) B (is.Meaning op.Greater))
    ∷ (codes "+", function (Each I) I (is.Meaning op.Add))
    ∷ (codes "-", function (Each I) I (is.Meaning op.Subtract))
    ∷ (codes "*", function (Each I) I is.Product)
    ∷ (codes "div", function (Many I) I is.Opaque)
    ∷ (codes "mod", function (Two I I) I is.Opaque)
    ∷ (codes "abs", function (One I) I is.Opaque)
    ∷ []

-- the theory UnicodeStrings: words that have a meaning here
abbrev pub words : Rows
words = (codes "str.len", function (One S) I (is.Meaning op.Length))
    ∷ (codes "str.++", function (Each S) S (is.Meaning op.Concat))
    ∷ (codes "str.is_digit", function (One S) B (is.Meaning op.IsDigit))
    ∷ (codes "str.in_re", function (Two S R) B is.Membership)
    ∷ []

-- the theory UnicodeStrings: words in words
abbrev pub relations : Rows
relations = (codes "str.prefixof", function (Two S S) B (is.Meaning op.PrefixOf))
    ∷ (codes "str.suffixof", function (Two S S) B (is.Meaning op.SuffixOf))
    ∷ (codes "str.contains", function (Two S S) B (is.Meaning op.Contains))
    ∷ []

-- the theory UnicodeStrings: replacements; those by languages are read and sorted alone
abbrev pub replacements : Rows
replacements = (codes "str.replace", function (Three S S S) S (is.Replacement op.Replace))
    ∷ (codes "str.replace_all", function (Three S S S) S (is.Replacement op.ReplaceAll))
    ∷ (codes "str.replace_re", function (Three S R S) S is.Opaque)
    ∷ (codes "str.replace_re_all", function (Three S R S) S is.Opaque)
    ∷ []

-- the theory UnicodeStrings: places in words, which are read and sorted alone
abbrev pub places : Rows
places = (codes "str.at", function (Two S I) S is.Opaque)
    ∷ (codes "str.substr", function (Three S I I) S is.Opaque)
    ∷ (codes "str.indexof", function (Three S S I) I is.Opaque)
    ∷ []

-- the theory UnicodeStrings: the order of words, and conversions, which are read and sorted alone
abbrev pub conversions : Rows
conversions = (codes "str.<", function (Many S) B is.Opaque)
    ∷ (codes "str.<=", function (Many S) B is.Opaque)
    ∷ (codes "str.to_code", function (One S) I is.Opaque)
    ∷ (codes "str.to_int", function (One S) I is.Opaque)
    ∷ (codes "str.from_code", function (One I) S is.Opaque)
    ∷ (codes "str.from_int", function (One I) S is.Opaque)
    ∷ []

-- the theory UnicodeStrings: regular expressions
abbrev pub languages : Rows
languages = (codes "str.to_re", function (One S) R is.TextOf)
    ∷ (codes "re.none", function Nothing R is.Empty)
    ∷ (codes "re.all", function Nothing R is.All)
    ∷ (codes "re.allchar", function Nothing R is.AnyChar)
    ∷ (codes "re.++", function (Each R) R is.Concat)
    ∷ (codes "re.union", function (Each R) R is.Union)
    ∷ (codes "re.inter", function (Each R) R is.Inter)
    ∷ (codes "re.*", function (One R) R is.Star)
    ∷ (codes "re.+", function (One R) R is.Plus)
    ∷ (codes "re.opt", function (One R) R is.Opt)
    ∷ (codes "re.comp", function (One R) R is.Comp)
    ∷ (codes "re.diff", function (Many R) R is.Diff)
    ∷ (codes "re.range", function (Two S S) R is.Range)
    ∷ []

-- the functions whose names have no index
abbrev pub signature : Rows
signature = core ++ integers ++ words ++ relations ++ replacements ++ places ++ conversions ++ languages

-- those with indices: `(_ re.^ n)` is n times, `(_ re.loop i j)` i to j times, and `(_ char #xH)` the word of the character H
abbrev pub power : ℕ → Function
power n = function (One R) R (is.Loop n n)

abbrev pub loop : ℕ → ℕ → Function
loop i j = function (One R) R (is.Loop i j)

abbrev pub character : ℕ → Function
character c = function Nothing S (is.Character c)

abbrev pub stands_in : List Name → Name → Bool
stands_in names n = list_any (same_name n) names

-- the names of the functions with indices
abbrev pub indexed_names : List Name
indexed_names = codes "re.^" ∷ codes "re.loop" ∷ codes "char" ∷ []

-- the words that build terms
abbrev pub term_words : List Name
term_words = codes "!" ∷ codes "_" ∷ codes "as" ∷ codes "exists" ∷ codes "forall" ∷ codes "let" ∷ codes "match" ∷ codes "par" ∷ []

-- the names that can't be declared: those of the functions and those words
abbrev pub is_reserved : Name → Bool
is_reserved n = is_some (lookup (same_name n) signature) || (stands_in indexed_names n || stands_in term_words n)

-- the sorts, by their names
abbrev pub sorts : List (Name × Sort)
sorts = (codes "Bool", B) ∷ (codes "Int", I) ∷ (codes "String", S) ∷ (codes "RegLan", R) ∷ []
