-- What `let`, quantifiers and macros bind.
use Rattle.std.specs.Prelude.{Bool, true, false, ◌&&◌, ◌||◌, List, [], ◌∷◌, ◌++◌, Option, Some, None, Result, Ok, is_some}
use Rattle.std.specs.List.{list_any}
use Rattle.std.specs.Option.{option_to_list}
use Rattle.sv_terms.specs.declared.sort.Sort.{Sort}
use Rattle.sv_terms.specs.declared.sort.Sort.TheVariants as sort
use Rattle.smt_names.specs.declared.check_fault.CheckFault.{CheckFault}
use Rattle.smt_names.specs.declared.check_fault.CheckFault.TheVariants as fault
use Rattle.smt_names.specs.Faults.{◌>>◌, need, refuse}
use Rattle.smt_names.specs.Form.{Form, Forms, end, ◌⨾◌, two, are_all}
use Rattle.smt_names.specs.Signature.{Name, same_name}
use Rattle.smt_names.specs.Tokens.{symbol, is_sort_form, sort_of}

abbrev pub first_symbol : Option (Form × Form) → Option Name
first_symbol (Some p) = symbol p.0
first_symbol None = None

-- the name that is bound first in a list of two
abbrev pub bound_name : Form → Option Name
bound_name f = first_symbol (two f)

-- a symbol and one form more: a binding of `let`
abbrev pub is_binding : Form → Bool
is_binding f = is_some (bound_name f)

abbrev pub second_is_sort : Option (Form × Form) → Bool
second_is_sort (Some p) = is_sort_form p.1
second_is_sort None = false

-- a symbol and its sort: a parameter, or a variable of a quantifier
abbrev pub is_variable : Form → Bool
is_variable f = is_binding f && second_is_sort (two f)

abbrev pub are_some : (Form → Bool) → Forms → Bool
are_some p end = false
are_some p (f ⨾ fs) = are_all p (f ⨾ fs)

abbrev pub bound_names : Forms → List Name
bound_names end = []
bound_names (b ⨾ bs) = option_to_list (bound_name b) ++ bound_names bs

-- whether a name stands twice
abbrev pub repeats : List Name → Bool
repeats [] = false
repeats (n ∷ ns) = list_any (λ m. same_name m n) ns || repeats ns

abbrev pub second_sort : Option (Form × Form) → Option Sort
second_sort (Some p) = sort_of p.1
second_sort None = None

-- the sort of a variable, where it is known
abbrev pub variable_sort : Form → Option Sort
variable_sort f = second_sort (two f)

abbrev pub variable_of : Option Name → Option Sort → List (Name × Sort)
variable_of (Some n) (Some s) = (n, s) ∷ []
variable_of _ _ = []

-- variables with their sorts
abbrev pub variables : Forms → List (Name × Sort)
variables end = []
variables (v ⨾ vs) = variable_of (bound_name v) (variable_sort v) ++ variables vs

-- each variable has a sort that is known
abbrev pub known_sort : Form → Result Unit CheckFault
known_sort v = need (is_some (variable_sort v)) fault.Unknown

abbrev pub is_language_sort : Option Sort → Bool
is_language_sort (Some sort.RegLan) = true
is_language_sort _ = false

-- no variable has sort RegLan
abbrev pub no_language : Form → Result Unit CheckFault
no_language v = refuse (is_language_sort (variable_sort v)) fault.Sort

abbrev pub each : (Form → Result Unit CheckFault) → Forms → Result Unit CheckFault
each look end = Ok tt
each look (f ⨾ fs) = look f >> each look fs
