-- What a term means within a scope, or the first fault that it has (SMT-LIB 2.6, section 3.6; theories Core, Ints and UnicodeStrings).
use Rattle.std.specs.Prelude.{ℕ, pos, Bool, true, false, nat_eq, nat_le, nat_lt, List, [], ◌∷◌, ◌++◌, length, map, Option, Some, None, Result, Ok, Err, codes, if◌then◌else◌}
use Rattle.std.specs.List.{list_all}
use Rattle.std.specs.Map.{lookup}
use Rattle.sexpr_reader.specs.declared.kind.TokenKind.{TokenKind}
use Rattle.sexpr_reader.specs.declared.kind.TokenKind.TheVariants.{Numeral, Decimal, Hexadecimal, Binary, Symbol, Quoted, Keyword, Literal}
use Rattle.sv_terms.specs.Names.{symbol_name}
use Rattle.sv_terms.specs.Sorting.{same_sort}
use Rattle.sv_terms.specs.declared.entry.Body.{Body}
use Rattle.sv_terms.specs.declared.entry.Body.TheVariants as body
use Rattle.sv_terms.specs.declared.entry.Entry.{Entry}
use Rattle.sv_terms.specs.declared.entry.Entry.TheVariants as entry
use Rattle.sv_terms.specs.declared.sort.Sort.{Sort}
use Rattle.sv_terms.specs.declared.sort.Sort.TheVariants as sort
use Rattle.sv_terms.specs.declared.term.Term.TheVariants as term
use Rattle.sv_terms.specs.declared.transducer.Transducer.{Transducer}
use Rattle.sv_terms.specs.declared.limits.TheConstants.{MOST_TIMES}
use Rattle.smt_names.specs.declared.check_fault.CheckFault.{CheckFault}
use Rattle.smt_names.specs.declared.check_fault.CheckFault.TheVariants as fault
use Rattle.smt_names.specs.declared.function.Function.{Function}
use Rattle.smt_names.specs.declared.function.ArgumentSorts.TheVariants.{Nothing, Two}
use Rattle.item_passes.specs.Binders.{is_binding, is_variable, are_some, variables}
use Rattle.term_weight.specs.Bodies.{body_sort, opaque, called, related, parameter_name}
use Rattle.smt_names.specs.Faults.{and_then, ◌>>◌, need, refuse, or_fault, made_of}
use Rattle.smt_names.specs.Form.{Form, Forms, token, group, end, ◌⨾◌, count}
use Rattle.term_weight.specs.Ranks.{takes_count, takes_sorts, are_of, applied}
use Rattle.smt_names.specs.Signature.{Name, same_name, stands_in, signature, indexed_names, power, loop, character}
use Rattle.term_weight.specs.Sizes.{fits}
use Rattle.smt_names.specs.Tokens.{symbol, digits, value, is_too_large, literal_word, character_token, opening, is_identifier, chosen}

abbrev pub Scope : Type 0
Scope = List (Name × Body)

abbrev pub Names : Type 0
Names = List (Name × Entry)

-- what an identifier stands for where it is no variable: a function of the theories, a declared constant, a macro, or a transducer
pub data Head : Type 0 where
  theory : Function → Head
  constant : Name → Sort → Head
  macro : List (Name × Sort) → Body → Head
  machine : Transducer → Head

abbrev pub of_entry : Name → Entry → Head
of_entry n (entry.Constant s) = constant n s
of_entry n (entry.Macro parameters b) = macro parameters b
of_entry n (entry.Machine t) = machine t

abbrev pub or_else : {A : Type 0} → Option A → Option A → Option A
or_else (Some x) other = Some x
or_else None other = other

abbrev pub mapped : {A B : Type 0} → (A → B) → Option A → Option B
mapped f (Some x) = Some (f x)
mapped f None = None

-- a function of the theories, which no declared name hides, or what was declared; without its index a function that takes one is Index
abbrev pub named : Names → Name → Result Head CheckFault
named symbols n = refuse (stands_in indexed_names n) fault.Index >> or_fault fault.Unknown (or_else (mapped theory (lookup (same_name n) signature)) (mapped (of_entry n) (lookup (same_name n) symbols)))

-- an index is a numeral, and not too great
abbrev pub index_of : Option (List ℕ) → Result ℕ CheckFault
index_of None = Err fault.Index
index_of (Some ds) = refuse (is_too_large ds) fault.Number >> refuse (nat_lt MOST_TIMES (value ds)) fault.Index >> Ok (value ds)

-- the functions with indices; an index too many or too few is Index too
abbrev pub powered : Forms → Result Function CheckFault
powered (n ⨾ end) = and_then (λ n. Ok (power n)) (index_of (digits n))
powered _ = Err fault.Index

abbrev pub looped : Forms → Result Function CheckFault
looped (i ⨾ j ⨾ end) = and_then (λ i. and_then (λ j. Ok (loop i j)) (index_of (digits j))) (index_of (digits i))
looped _ = Err fault.Index

abbrev pub charred : Forms → Result Function CheckFault
charred (h ⨾ end) = and_then (λ c. Ok (character c)) (or_fault fault.Index (character_token h))
charred _ = Err fault.Index

-- a symbol that takes no index: unknown, or Index
abbrev pub unindexed : Result Head CheckFault → Result Function CheckFault
unindexed h = and_then (λ h. Err fault.Index) h

-- a function with these indices, by its name
abbrev pub indexed : Names → Option Name → Forms → Result Function CheckFault
indexed symbols None indices = Err fault.Shape
indexed symbols (Some n) indices =
    if same_name n (codes "re.^") then powered indices else
    if same_name n (codes "re.loop") then looped indices else
    if same_name n (codes "char") then charred indices else unindexed (named symbols n)

-- what stands behind `_`
abbrev pub identified : Names → Forms → Result Function CheckFault
identified symbols end = Err fault.Shape
identified symbols (n ⨾ indices) = indexed symbols (symbol n) indices

abbrev pub of_theory : Result Function CheckFault → Result Head CheckFault
of_theory f = and_then (λ f. Ok (theory f)) f

abbrev pub named_if : Names → Option Name → Result Head CheckFault
named_if symbols (Some n) = named symbols n
named_if symbols None = Err fault.Shape

-- what an application begins with: a symbol, or an identifier with indices
abbrev pub head : Names → Form → Result Head CheckFault
head symbols (token kind text) = named_if symbols (symbol (token kind text))
head symbols (group end) = Err fault.Shape
head symbols (group (u ⨾ fs)) = if is_identifier (opening u) then of_theory (identified symbols fs) else Err fault.Shape

-- whether so many arguments, and arguments of these sorts, are taken
abbrev pub head_count : Head → ℕ → Bool
head_count (theory f) n = takes_count f.takes n
head_count (constant name s) n = takes_count Nothing n
head_count (macro parameters b) n = nat_eq n (length parameters)
head_count (machine t) n = takes_count (Two sort.String sort.String) n

abbrev pub head_sorts : Head → List Sort → Bool
head_sorts (theory f) ss = takes_sorts f.takes ss
head_sorts (constant name s) ss = takes_sorts Nothing ss
head_sorts (macro parameters b) ss = are_of (map (λ p. p.1) parameters) ss
head_sorts (machine t) ss = takes_sorts (Two sort.String sort.String) ss

abbrev pub head_applied : Head → List Body → Body
head_applied (theory f) bs = applied f bs
head_applied (constant name s) bs = body.Term (term.Constant name s)
head_applied (macro parameters b) bs = called parameters b bs
head_applied (machine t) bs = related t bs

-- so many arguments: their number, their faults from the left, their sorts
abbrev pub application : Head → ℕ → Result (List Body) CheckFault → Result Body CheckFault
application h n arguments = need (head_count h n) fault.Arity >> and_then (λ bs. need (head_sorts h (map body_sort bs)) fault.Sort >> Ok (head_applied h bs)) arguments

-- an identifier by itself
abbrev pub alone : Result Head CheckFault → Result Body CheckFault
alone h = and_then (λ h. application h 0 (Ok [])) h

-- in parentheses stand one or more arguments
abbrev pub in_parentheses : Result Head CheckFault → ℕ → Result (List Body) CheckFault → Result Body CheckFault
in_parentheses h n arguments = and_then (λ h. need (nat_le 1 n) fault.Arity >> application h n arguments) h

-- what a scope says of a name, the latest first
abbrev pub latest : {A : Type 0} → Name → List (Name × A) → Option A
latest n [] = None
latest n (b ∷ bs) = or_else (latest n bs) (if same_name n b.0 then Some b.1 else None)

-- a variable, or else an identifier by itself
abbrev pub variable_or : Option Body → Result Body CheckFault → Result Body CheckFault
variable_or (Some b) other = Ok b
variable_or None other = other

abbrev pub meant_name : Names → Scope → Name → Result Body CheckFault
meant_name symbols scope n = variable_or (latest n scope) (alone (named symbols n))

abbrev pub meant_token : Names → Scope → TokenKind → List ℕ → Result Body CheckFault
meant_token symbols scope Numeral ds = refuse (is_too_large ds) fault.Number >> Ok (body.Term (term.Number (pos (value ds))))
meant_token symbols scope Literal text = or_fault fault.Shape (mapped (λ w. body.Term (term.Text w)) (literal_word text))
meant_token symbols scope Symbol text = meant_name symbols scope (symbol_name text)
meant_token symbols scope Quoted text = meant_name symbols scope (symbol_name text)
meant_token symbols scope Decimal text = Err fault.Unknown
meant_token symbols scope Hexadecimal text = Err fault.Unknown
meant_token symbols scope Binary text = Err fault.Unknown
meant_token symbols scope Keyword text = Err fault.Shape

-- the variables of a quantifier stand as constants
abbrev pub as_constants : (Name → Name) → List (Name × Sort) → Scope
as_constants rename vs = map (λ v. (v.0, body.Term (term.Constant (rename v.0) v.1))) vs

abbrev pub quantified_over : Forms → Scope
quantified_over vs = as_constants (λ n. n) (variables vs)

-- the name of a constant in the place of a variable, or of a parameter
abbrev pub renamed : Bool → Name → Name
renamed true n = parameter_name n
renamed false n = n

-- the parameters of a macro, as they stand in its body
abbrev pub parameters_of : Forms → Scope
parameters_of ps = as_constants parameter_name (variables ps)

-- a quantified term is read and sorted alone
abbrev pub quantified : Body → Result Body CheckFault
quantified b = need (same_sort sort.Bool (body_sort b)) fault.Sort >> Ok (opaque sort.Bool)

abbrev pub bind : Option Name → Body → Scope
bind (Some n) b = (n, b) ∷ []
bind None b = []

-- `fits` says which values of `let` aren't too large
module _ (fits : Body → Bool) (symbols : Names) where
  abbrev mutual
    -- the meaning of a term
    pub meant : Scope → Form → Result Body CheckFault
    meant scope (token kind text) = meant_token symbols scope kind text
    meant scope (group end) = Err fault.Shape
    meant scope (group (h ⨾ fs)) = chosen (opening h) (meant_let scope fs) (meant_quantifier scope fs) (meant_annotated scope fs) (alone (of_theory (identified symbols fs))) (in_parentheses (head symbols h) (count fs) (meant_all scope fs))

    -- each of them, from the left
    pub meant_all : Scope → Forms → Result (List Body) CheckFault
    meant_all scope end = Ok []
    meant_all scope (f ⨾ fs) = and_then (λ b. and_then (λ bs. Ok (b ∷ bs)) (meant_all scope fs)) (meant scope f)

    -- behind `let`: one or more bindings and a body; the values are meant outside, the body within
    pub meant_let : Scope → Forms → Result Body CheckFault
    meant_let scope (group bs ⨾ body ⨾ end) = need (are_some is_binding bs) fault.Shape >> and_then (λ bound. meant (scope ++ bound) body) (meant_values scope bs)
    meant_let scope _ = Err fault.Shape

    pub meant_values : Scope → Forms → Result Scope CheckFault
    meant_values scope end = Ok []
    meant_values scope (b ⨾ bs) = and_then (λ x. and_then (λ xs. Ok (x ++ xs)) (meant_values scope bs)) (meant_value scope b)

    pub meant_value : Scope → Form → Result Scope CheckFault
    meant_value scope (group (n ⨾ t ⨾ end)) = and_then (λ b. need (fits b) fault.Size >> Ok (bind (symbol n) b)) (meant scope t)
    meant_value scope _ = Err fault.Shape

    -- behind `forall` or `exists`: one or more variables and a body
    pub meant_quantifier : Scope → Forms → Result Body CheckFault
    meant_quantifier scope (group vs ⨾ body ⨾ end) = need (are_some is_variable vs) fault.Shape >> and_then quantified (meant (scope ++ quantified_over vs) body)
    meant_quantifier scope _ = Err fault.Shape

    -- behind `!`: an annotated term is the term
    pub meant_annotated : Scope → Forms → Result Body CheckFault
    meant_annotated scope end = Err fault.Shape
    meant_annotated scope (t ⨾ attributes) = meant scope t

-- a value of any size
abbrev pub any_size : Body → Bool
any_size b = true

-- what terms mean, and that neither they nor the values of `let` in them are too large
abbrev pub settled : Names → Scope → Forms → Result (List Body) CheckFault
settled symbols scope ts = and_then (λ bs. and_then (λ _. need (list_all fits bs) fault.Size >> Ok bs) (meant_all fits symbols scope ts)) (meant_all any_size symbols scope ts)

-- the sorts of what they mean, where they aren't too large
abbrev pub settled_sorts : Names → Scope → Forms → Result (List Sort) CheckFault
settled_sorts symbols scope ts = made_of (map body_sort) (settled symbols scope ts)
