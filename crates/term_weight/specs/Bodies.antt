-- What is known of a term or regular expression: its sort, whether it is a literal, and what it is once the parameters of a macro are put in.
use Rattle.std.specs.Prelude.{ℕ, Bool, true, false, nat_eq, ◌||◌, List, [], ◌∷◌, Option, Some, None}
use Rattle.std.specs.List.{list_any}
use Rattle.std.specs.Map.{lookup}
use Rattle.sv_terms.specs.declared.regex.Regex.{Regex}
use Rattle.sv_terms.specs.declared.regex.Regex.TheVariants as re
use Rattle.sv_terms.specs.declared.entry.Body.{Body}
use Rattle.sv_terms.specs.declared.entry.Body.TheVariants as body
use Rattle.sv_terms.specs.declared.op.Op.{Op}
use Rattle.sv_terms.specs.declared.op.Op.TheVariants as op
use Rattle.sv_terms.specs.declared.sort.Sort.{Sort}
use Rattle.sv_terms.specs.declared.sort.Sort.TheVariants as sort
use Rattle.sv_terms.specs.declared.term.Term.{Term}
use Rattle.sv_terms.specs.declared.term.Term.TheVariants as term
use Rattle.sv_terms.specs.declared.term.Term.TheOpen.{Term-F}
use Rattle.sv_terms.specs.declared.term.Term.TheFolds.{fold-Term}
use Rattle.sv_terms.specs.declared.transducer.Transducer.{Transducer}
use Rattle.sv_terms.specs.Sorting.{head_sort}
use Rattle.term_weight.specs.declared.weight.Factor.{Factor}
use Rattle.term_weight.specs.declared.weight.Factor.TheVariants.{Literal, Known, Unknown}
use Rattle.smt_names.specs.Signature.{Name, same_name}

-- the sort of a sorted term, or RegLan
abbrev pub body_sort : Body → Sort
body_sort (body.Term t) = head_sort t
body_sort (body.Language r) = sort.RegLan

abbrev pub layer_word : {X : Type 0} → Term-F X → Option (List ℕ)
layer_word (Term-F.Text w) = Some w
layer_word _ = None

-- the word of a literal
abbrev pub literal : Body → Option (List ℕ)
literal (body.Term t) = fold-Term (Option (List ℕ)) layer_word t
literal (body.Language r) = None

-- the term, where it is one
abbrev pub term_of : Body → Term
term_of (body.Term t) = t
term_of (body.Language r) = term.Opaque sort.RegLan

-- whether it is a regular expression without opaque parts
abbrev pub is_language : Body → Bool
is_language (body.Term t) = false
is_language (body.Language r) = true

abbrev pub regex_of : Body → Regex
regex_of (body.Term t) = re.Empty
regex_of (body.Language r) = r

abbrev pub opaque : Sort → Body
opaque s = body.Term (term.Opaque s)

-- whether a factor of a product holds an unknown
abbrev pub is_unknown : Factor → Bool
is_unknown Unknown = true
is_unknown _ = false

abbrev pub holds : Bool → Factor
holds true = Unknown
holds false = Known

-- a length is an unknown but that of a literal
abbrev pub applied_factor : Op → List Factor → Factor
applied_factor op.Length (Literal ∷ []) = Known
applied_factor op.Length fs = Unknown
applied_factor o fs = holds (list_any is_unknown fs)

-- an opaque part may stand for a constant or a place, and counts as an unknown
abbrev pub layer_factor : Term-F Factor → Factor
layer_factor (Term-F.Truth b) = Known
layer_factor (Term-F.Number n) = Known
layer_factor (Term-F.Text w) = Literal
layer_factor (Term-F.Constant n s) = Unknown
layer_factor (Term-F.Apply o fs) = applied_factor o fs
layer_factor (Term-F.InRe f r) = holds (is_unknown f)
layer_factor (Term-F.Related m f g) = holds (is_unknown f || is_unknown g)
layer_factor (Term-F.Opaque s) = Unknown

abbrev pub factor : Body → Factor
factor (body.Term t) = fold-Term Factor layer_factor t
factor (body.Language r) = Known

-- whether a declared constant stands in it, the length of a term that is no literal, or an opaque part
abbrev pub holds_unknown : Body → Bool
holds_unknown b = is_unknown (factor b)

-- In the body of a macro a parameter stands as a constant under a name that no symbol has, for none holds a backslash, which is 92. So it is never taken for a declared constant of the same name, which another macro's body may bring in.
abbrev pub parameter_name : Name → Name
parameter_name n = 92 ∷ n

-- whether it is such a name; no symbol of SMT-LIB holds a backslash (section 3.1)
abbrev pub is_escaped : Name → Bool
is_escaped [] = false
is_escaped (b ∷ n) = nat_eq b 92

abbrev pub or_constant : Name → Sort → Option Term → Term
or_constant n s (Some t) = t
or_constant n s None = term.Constant n s

abbrev pub put_in_layer : (Name → Option Term) → Term-F Term → Term
put_in_layer found (Term-F.Truth b) = term.Truth b
put_in_layer found (Term-F.Number n) = term.Number n
put_in_layer found (Term-F.Text w) = term.Text w
put_in_layer found (Term-F.Constant n s) = or_constant n s (found n)
put_in_layer found (Term-F.Apply o ts) = term.Apply o ts
put_in_layer found (Term-F.InRe t r) = term.InRe t r
put_in_layer found (Term-F.Related m t u) = term.Related m t u
put_in_layer found (Term-F.Opaque s) = term.Opaque s

-- the term with what is found by its name in the place of each constant, all at once
abbrev pub put_in : (Name → Option Term) → Term → Term
put_in found = fold-Term Term (put_in_layer found)

-- the arguments for the parameters of a macro
abbrev pub arguments_for : List (Name × Sort) → List Body → List (Name × Term)
arguments_for [] bs = []
arguments_for (p ∷ ps) [] = []
arguments_for (p ∷ ps) (b ∷ bs) = (p.0, term_of b) ∷ arguments_for ps bs

-- the body of a macro at its arguments
abbrev pub called : List (Name × Sort) → Body → List Body → Body
called parameters (body.Term t) bs = body.Term (put_in (λ n. lookup (same_name n) (arguments_for parameters bs)) t)
called parameters (body.Language r) bs = body.Language r

-- the pair of words that a transducer relates
abbrev pub related : Transducer → List Body → Body
related t (b ∷ c ∷ []) = body.Term (term.Related t (term_of b) (term_of c))
related t _ = opaque sort.Bool
