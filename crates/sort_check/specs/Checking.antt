-- The command that an item is, or its first fault (SMT-LIB 2.6, section 3.9). What is looked for stands in this order, each over the whole item: its written form; declared names; sorts; numerals; the walk over its terms; the size of the terms; their sorts; the description of a transducer.
use Rattle.std.specs.Prelude.{◌≡◌, ℕ, Bool, true, false, ◌&&◌, ◌||◌, not, List, [], ◌∷◌, map, Option, Some, None, Result, Ok, Err, codes, if◌then◌else◌, is_some}
use Rattle.std.specs.List.{list_all}
use Rattle.std.specs.Map.{lookup}
use Rattle.sexpr_reader.specs.declared.sexpr.Sexpr.{Sexpr}
use Rattle.sv_terms.specs.Sorting.{same_sort}
use Rattle.sv_terms.specs.declared.entry.Body.{Body}
use Rattle.sv_terms.specs.declared.entry.Entry.TheVariants as entry
use Rattle.sv_terms.specs.declared.sort.Sort.{Sort}
use Rattle.sv_terms.specs.declared.sort.Sort.TheVariants as sort
use Rattle.sv_terms.specs.declared.term.Term.{Term}
use Rattle.smt_names.specs.declared.check_fault.CheckFault.{CheckFault}
use Rattle.smt_names.specs.declared.check_fault.CheckFault.TheVariants as fault
use Rattle.sort_check.specs.declared.commands.Command.{Command}
use Rattle.sort_check.specs.declared.commands.Command.TheVariants as command
use Rattle.item_passes.specs.declared.pass.Pass.TheVariants as pass
use Rattle.smt_names.specs.declared.verb.CommandName.{CommandName}
use Rattle.smt_names.specs.declared.verb.CommandName.TheVariants as verb
use Rattle.item_passes.specs.Binders.{is_variable, bound_names, repeats, variables}
use Rattle.smt_names.specs.Form.{are_all}
use Rattle.term_weight.specs.Bodies.{body_sort, term_of, parameter_name, is_escaped}
use Rattle.smt_names.specs.Faults.{and_then, ◌>>◌, need, refuse, or_fault, made_of}
use Rattle.smt_names.specs.Form.{Form, Forms, end, ◌⨾◌, two, seen, raws}
use Rattle.term_walk.specs.Meant.{Names, settled, settled_sorts, parameters_of}
use Rattle.item_passes.specs.Passes.{at_variables, looked, passed}
use Rattle.smt_names.specs.Signature.{Name, same_name, is_reserved}
use Rattle.smt_names.specs.Tokens.{symbol, word, digits, keyword, literal_text, listed, truth, is_too_large, level, is_sort_form, sort_of, opening, chosen}
use Rattle.smt_names.specs.Verbs.{verb_of}
use Rattle.transducer_form.specs.Descriptions.{described}
use Rattle.transducer_form.specs.Written.{DescriptionForm, description_form}

-- a command without parts
abbrev pub without_parts : Command → Forms → Result Command CheckFault
without_parts c end = Ok c
without_parts c _ = Err fault.Shape

abbrev pub set_logic : Forms → Result Command CheckFault
set_logic (n ⨾ end) = need (is_some (symbol n)) fault.Shape >> Ok command.Inform
set_logic _ = Err fault.Shape

-- a keyword, and anything
abbrev pub set_info : Forms → Result Command CheckFault
set_info end = Err fault.Shape
set_info (k ⨾ rest) = need (is_some (keyword k)) fault.Shape >> Ok command.Inform

abbrev pub option_set : Option Name → Option Bool → Command
option_set None b = command.Unsupported
option_set (Some k) None = command.Unsupported
option_set (Some k) (Some b) =
    if same_name k (codes ":print-success") then command.PrintSuccess b else
    if same_name k (codes ":produce-models") then command.Inform else
    if same_name k (codes ":produce-unsat-cores") then command.Inform else
    if same_name k (codes ":produce-proofs") then command.Inform else command.Unsupported

-- an option that is known, with a truth value; any other is unsupported
abbrev pub set_option : Forms → Result Command CheckFault
set_option (k ⨾ b ⨾ end) = Ok (option_set (keyword k) (truth b))
set_option _ = Ok command.Unsupported

-- a name that may be declared
abbrev pub free : Names → Name → Result Unit CheckFault
free symbols n = refuse (is_escaped n) fault.Shape >> refuse (is_reserved n) fault.Reserved >> refuse (is_some (lookup (same_name n) symbols)) fault.Declared

abbrev pub declared_as : Name → Sort → Result Command CheckFault
declared_as n s = refuse (same_sort sort.RegLan s) fault.Sort >> Ok (command.Declare n s)

-- a name and a sort
abbrev pub declaration : Names → Form → Form → Result Command CheckFault
declaration symbols n s = need (is_sort_form s) fault.Shape >> and_then (λ n. free symbols n >> and_then (declared_as n) (or_fault fault.Unknown (sort_of s))) (or_fault fault.Shape (symbol n))

abbrev pub declare_const : Names → Forms → Result Command CheckFault
declare_const symbols (n ⨾ s ⨾ end) = declaration symbols n s
declare_const symbols _ = Err fault.Shape

abbrev pub is_empty : Option Forms → Bool
is_empty (Some end) = true
is_empty _ = false

-- without parameters alone
abbrev pub declare_fun : Names → Forms → Result Command CheckFault
declare_fun symbols (n ⨾ ps ⨾ s ⨾ end) = need (is_empty (listed ps)) fault.Shape >> declaration symbols n s
declare_fun symbols _ = Err fault.Shape

-- the parameters as they stand in the body
abbrev pub parameters : Forms → List (Name × Sort)
parameters ps = map (λ p. (parameter_name p.0, p.1)) (variables ps)

abbrev pub defined : Name → Forms → Sort → List Body → Result Command CheckFault
defined n ps s (b ∷ []) = need (same_sort s (body_sort b)) fault.Sort >> Ok (command.Define n (entry.Macro (parameters ps) b))
defined n ps s _ = Err fault.Shape

-- what is looked for in a definition before its body is walked
abbrev pub passed_definition : Forms → Form → Form → Result Unit CheckFault
passed_definition ps s t =
    refuse (repeats (bound_names ps)) fault.Declared >> looked pass.Names t
    >> at_variables pass.Sorts ps >> need (is_some (sort_of s)) fault.Unknown >> looked pass.Sorts t
    >> at_variables pass.Languages ps >> looked pass.Languages t
    >> looked pass.Numbers t

-- the definition of a sort that is known
abbrev pub settled_definition : Names → Name → Forms → Form → Sort → Result Command CheckFault
settled_definition symbols n ps t s = and_then (defined n ps s) (settled symbols (parameters_of ps) (t ⨾ end))

-- a name, parameters, a sort and a body
abbrev pub definition : Names → Name → Forms → Form → Form → Result Command CheckFault
definition symbols n ps s t = free symbols n >> passed_definition ps s t >> and_then (settled_definition symbols n ps t) (or_fault fault.Unknown (sort_of s))

abbrev pub define_fun : Names → Forms → Result Command CheckFault
define_fun symbols (n ⨾ ps ⨾ s ⨾ t ⨾ end) = and_then (λ ps. need (are_all is_variable ps && is_sort_form s) fault.Shape >> and_then (λ n. definition symbols n ps s t) (or_fault fault.Shape (symbol n))) (or_fault fault.Shape (listed ps))
define_fun symbols _ = Err fault.Shape

-- the transducer of a description, under a name that may be declared
abbrev pub machine : Names → DescriptionForm → Name → Result Command CheckFault
machine symbols d n = free symbols n >> and_then (λ t. Ok (command.Define n (entry.Machine t))) (described d)

-- a name and the description of a transducer
abbrev pub define_transducer : Names → Forms → Result Command CheckFault
define_transducer symbols (n ⨾ states ⨾ start ⨾ edges ⨾ ends ⨾ end) = and_then (λ d. and_then (machine symbols d) (or_fault fault.Shape (symbol n))) (or_fault fault.Shape (description_form states start edges ends))
define_transducer symbols _ = Err fault.Shape

-- whether a form is the keyword `:named`
abbrev pub is_named_keyword : Option Name → Bool
is_named_keyword (Some k) = same_name k (codes ":named")
is_named_keyword None = false

abbrev pub is_named : Form → Bool
is_named f = is_named_keyword (keyword f)

-- what stands after the first `:named` among attributes
abbrev pub after_named : Forms → Option Forms
after_named end = None
after_named (k ⨾ rest) = if is_named k then Some rest else after_named rest

-- a symbol, and no other `:named` after it
abbrev pub label_of : Option Forms → Result (Option Name) CheckFault
label_of None = Ok None
label_of (Some end) = Err fault.Shape
label_of (Some (n ⨾ rest)) = refuse (is_some (after_named rest)) fault.Shape >> and_then (λ n. Ok (Some n)) (or_fault fault.Shape (symbol n))

-- the attributes in a list that is an annotated term
abbrev pub attributes : Option Forms → Forms
attributes (Some (w ⨾ t ⨾ rest)) = chosen (opening w) end end rest end end
attributes _ = end

-- the name that the attributes of an asserted term give it; those of terms within it give none
abbrev pub label : Form → Result (Option Name) CheckFault
label t = label_of (after_named (attributes (listed t)))

abbrev pub is_truth : Body → Bool
is_truth b = same_sort sort.Bool (body_sort b)

abbrev pub assertion_of : List Body → Result Term CheckFault
assertion_of (b ∷ []) = need (is_truth b) fault.Sort >> Ok (term_of b)
assertion_of _ = Err fault.Shape

-- a term of sort Bool
abbrev pub asserted : Names → Form → Result Term CheckFault
asserted symbols t = passed (t ⨾ end) >> and_then assertion_of (settled symbols [] (t ⨾ end))

-- a name may be declared, and isn't known in its own term
abbrev pub labelled : Names → Form → Option Name → Result Command CheckFault
labelled symbols t None = made_of command.Assert (asserted symbols t)
labelled symbols t (Some n) = free symbols n >> made_of (command.AssertNamed n) (asserted symbols t)

-- one term, which may have a name
abbrev pub assertion : Names → Forms → Result Command CheckFault
assertion symbols (t ⨾ end) = and_then (labelled symbols t) (label t)
assertion symbols _ = Err fault.Shape

abbrev pub is_not : Option Name → Bool
is_not (Some n) = same_name n (codes "not")
is_not None = false

-- `(not SYMBOL)`, taken apart
abbrev pub is_negated_symbol : Option (Form × Form) → Bool
is_negated_symbol (Some p) = is_not (symbol p.0) && is_some (symbol p.1)
is_negated_symbol None = false

-- a symbol, or a negated one
abbrev pub is_assumption : Form → Bool
is_assumption f = is_some (symbol f) || is_negated_symbol (two f)

abbrev pub assumed : List Body → Result Command CheckFault
assumed bs = need (list_all is_truth bs) fault.Sort >> Ok (command.CheckAssuming (map term_of bs))

-- assumptions, each of sort Bool; there may be none
abbrev pub assumptions : Names → Forms → Result Command CheckFault
assumptions symbols ts = need (are_all is_assumption ts) fault.Shape >> and_then assumed (settled symbols [] ts)

abbrev pub check_assuming : Names → Forms → Result Command CheckFault
check_assuming symbols (ts ⨾ end) = and_then (assumptions symbols) (or_fault fault.Shape (listed ts))
check_assuming symbols _ = Err fault.Shape

-- a number of levels
abbrev pub level_command : (ℕ → Command) → Option (List ℕ) → Result Command CheckFault
level_command make None = Err fault.Shape
level_command make (Some ds) = refuse (is_too_large ds) fault.Number >> Ok (make (level ds))

-- which is 1 where it isn't written
abbrev pub stepped : (ℕ → Command) → Forms → Result Command CheckFault
stepped make end = Ok (make 1)
stepped make (n ⨾ end) = level_command make (digits n)
stepped make _ = Err fault.Shape

abbrev pub has_values : Sort → Bool
has_values s = not (same_sort sort.RegLan s)

-- terms of these sorts, which stay as they were read
abbrev pub valued : Forms → List Sort → Result Command CheckFault
valued ts ss = need (list_all has_values ss) fault.Sort >> Ok (command.GetValue (raws ts))

-- one or more terms
abbrev pub values : Names → Forms → Result Command CheckFault
values symbols end = Err fault.Shape
values symbols (t ⨾ ts) = passed (t ⨾ ts) >> and_then (valued (t ⨾ ts)) (settled_sorts symbols [] (t ⨾ ts))

-- what is looked for in one term before it is walked
abbrev pub passed_term : Form → Result Unit CheckFault
passed_term t = looked pass.Names t >> looked pass.Sorts t >> looked pass.Languages t >> looked pass.Numbers t

abbrev pub asked : List Body → Result Term CheckFault
asked (b ∷ []) = need (has_values (body_sort b)) fault.Sort >> Ok (term_of b)
asked _ = Err fault.Shape

-- one of the terms whose values are asked for
abbrev pub asked_term : Names → Form → Result Term CheckFault
asked_term symbols t = passed_term t >> and_then asked (settled symbols [] (t ⨾ end))

-- an s-expression is such a term
abbrev pub IsAskable : Names → Sexpr → Type 0
IsAskable symbols s = (t : Term) × (asked_term symbols (seen s) ≡ Ok t)

abbrev pub get_value : Names → Forms → Result Command CheckFault
get_value symbols (ts ⨾ end) = and_then (values symbols) (or_fault fault.Shape (listed ts))
get_value symbols _ = Err fault.Shape

abbrev pub get_info : Forms → Result Command CheckFault
get_info (k ⨾ end) = and_then (λ k. Ok (command.GetInfo k)) (or_fault fault.Shape (keyword k))
get_info _ = Err fault.Shape

abbrev pub echo : Forms → Result Command CheckFault
echo (l ⨾ end) = and_then (λ l. Ok (command.Echo l)) (or_fault fault.Shape (literal_text l))
echo _ = Err fault.Shape

-- a command by its word
abbrev pub commanded : Names → Option CommandName → Forms → Result Command CheckFault
commanded symbols None parts = Ok command.Unsupported
commanded symbols (Some verb.SetLogic) parts = set_logic parts
commanded symbols (Some verb.SetInfo) parts = set_info parts
commanded symbols (Some verb.SetOption) parts = set_option parts
commanded symbols (Some verb.DeclareConst) parts = declare_const symbols parts
commanded symbols (Some verb.DeclareFun) parts = declare_fun symbols parts
commanded symbols (Some verb.DefineFun) parts = define_fun symbols parts
commanded symbols (Some verb.DefineTransducer) parts = define_transducer symbols parts
commanded symbols (Some verb.Assert) parts = assertion symbols parts
commanded symbols (Some verb.Push) parts = stepped command.Push parts
commanded symbols (Some verb.Pop) parts = stepped command.Pop parts
commanded symbols (Some verb.CheckSat) parts = without_parts command.CheckSat parts
commanded symbols (Some verb.CheckSatAssuming) parts = check_assuming symbols parts
commanded symbols (Some verb.GetModel) parts = without_parts command.GetModel parts
commanded symbols (Some verb.GetValue) parts = get_value symbols parts
commanded symbols (Some verb.GetUnsatCore) parts = without_parts command.GetCore parts
commanded symbols (Some verb.GetInfo) parts = get_info parts
commanded symbols (Some verb.Echo) parts = echo parts
commanded symbols (Some verb.Reset) parts = without_parts command.Reset parts
commanded symbols (Some verb.ResetAssertions) parts = without_parts command.ResetAssertions parts
commanded symbols (Some verb.Exit) parts = without_parts command.Exit parts

abbrev pub begun : Names → Forms → Result Command CheckFault
begun symbols end = Err fault.Shape
begun symbols (w ⨾ parts) = need (is_some (symbol w)) fault.Shape >> commanded symbols (verb_of (word w)) parts

-- a list that begins with a symbol; a word between bars is no command's
abbrev pub checked : Names → Form → Result Command CheckFault
checked symbols f = and_then (begun symbols) (or_fault fault.Shape (listed f))
