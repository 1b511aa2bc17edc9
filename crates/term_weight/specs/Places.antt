-- What a name stands for by an index of names, and the name that a term is alone.
use Rattle.std.specs.Prelude.{ℕ, List, Option, Some, None}
use Rattle.std.specs.Map.{lookup}
use Rattle.std.specs.Option.{option_map}
use Rattle.sv_terms.specs.declared.entry.Body.{Body}
use Rattle.sv_terms.specs.declared.entry.Body.TheVariants as body
use Rattle.sv_terms.specs.declared.sort.Sort.{Sort}
use Rattle.sv_terms.specs.declared.term.Term.{Term}
use Rattle.sv_terms.specs.declared.term.Term.TheOpen.{Term-F}
use Rattle.sv_terms.specs.declared.term.Term.TheFolds.{fold-Term}
use Rattle.term_weight.specs.declared.weight.Weight.{Weight}
use Rattle.smt_names.specs.Signature.{Name, same_name}
use Rattle.term_weight.specs.Weights.{as_term, nth_if, place_of}

-- the place that an index of names gives a name
abbrev pub flat : Option (Option ℕ) → Option ℕ
flat (Some o) = o
flat None = None

abbrev pub shown : Name → List (Name × Option ℕ) → Option ℕ
shown n index = flat (lookup (same_name n) index)

abbrev pub weight_found : List (Name × Option ℕ) → List Weight → Name → Option Weight
weight_found index weights n = option_map as_term (nth_if weights (shown n index))

abbrev pub layer_name : {X : Type 0} → Term-F X → Option Name
layer_name (Term-F.Constant n s) = Some n
layer_name _ = None

-- the name of a constant that stands alone
abbrev pub name_alone : Term → Option Name
name_alone = fold-Term (Option Name) layer_name

abbrev pub named_by : (Name → Option ℕ) → Option Name → Option ℕ
named_by place None = None
named_by place (Some n) = place n

-- which parameter the body of a macro is, where it is one alone
abbrev pub parameter_alone : List (Name × Sort) → Body → Option ℕ
parameter_alone ps (body.Term t) = named_by (λ n. place_of n ps) (name_alone t)
parameter_alone ps (body.Language r) = None
