-- What is looked for in the whole of a term before it is walked: names that stand twice in a `let`, sorts that aren't known, variables of sort RegLan, numerals that are too large.
use Rattle.std.specs.Prelude.{ℕ, List, Option, Some, None, Result, Ok, if◌then◌else◌}
use Rattle.smt_names.specs.declared.check_fault.CheckFault.{CheckFault}
use Rattle.smt_names.specs.declared.check_fault.CheckFault.TheVariants as fault
use Rattle.item_passes.specs.declared.pass.Pass.{Pass}
use Rattle.item_passes.specs.declared.pass.Pass.TheVariants.{Names, Sorts, Languages, Numbers}
use Rattle.item_passes.specs.Binders.{is_binding, is_variable, are_some, bound_names, repeats, known_sort, no_language, each}
use Rattle.smt_names.specs.Faults.{◌>>◌, refuse}
use Rattle.smt_names.specs.Form.{Form, Forms, token, group, end, ◌⨾◌}
use Rattle.smt_names.specs.Tokens.{digits, is_too_large, opening, chosen}

abbrev pub small : Option (List ℕ) → Result Unit CheckFault
small (Some ds) = refuse (is_too_large ds) fault.Number
small None = Ok tt

-- a numeral, which stands for a number as a term and as an index
abbrev pub at_numeral : Pass → Form → Result Unit CheckFault
at_numeral Numbers f = small (digits f)
at_numeral _ f = Ok tt

-- the bindings of a `let`
abbrev pub at_bindings : Pass → Forms → Result Unit CheckFault
at_bindings Names bs = refuse (repeats (bound_names bs)) fault.Declared
at_bindings _ bs = Ok tt

-- parameters, or the variables of a quantifier
abbrev pub at_variables : Pass → Forms → Result Unit CheckFault
at_variables Sorts vs = each known_sort vs
at_variables Languages vs = each no_language vs
at_variables _ vs = Ok tt

-- the symbol and indices of an identifier
abbrev pub at_identifier : Pass → Forms → Result Unit CheckFault
at_identifier pass end = Ok tt
at_identifier pass (n ⨾ indices) = each (at_numeral pass) indices

-- of what an application begins with, a list alone is looked into
abbrev pub in_list : Form → Result Unit CheckFault → Result Unit CheckFault
in_list (group fs) answer = answer
in_list (token kind text) answer = Ok tt

module _ (pass : Pass) where
  abbrev mutual
    -- the first fault of a term and the terms in it, from the left
    pub looked : Form → Result Unit CheckFault
    looked (token kind text) = at_numeral pass (token kind text)
    looked (group end) = Ok tt
    looked (group (h ⨾ fs)) = chosen (opening h) (looked_let fs) (looked_quantifier fs) (looked_annotated fs) (at_identifier pass fs) (in_list h (looked h) >> looked_all fs)

    pub looked_all : Forms → Result Unit CheckFault
    looked_all end = Ok tt
    looked_all (f ⨾ fs) = looked f >> looked_all fs

    -- behind `let`; one that isn't in its written form is no term, and isn't looked into
    pub looked_let : Forms → Result Unit CheckFault
    looked_let (group bs ⨾ body ⨾ end) = if are_some is_binding bs then at_bindings pass bs >> looked_values bs >> looked body else Ok tt
    looked_let _ = Ok tt

    pub looked_values : Forms → Result Unit CheckFault
    looked_values end = Ok tt
    looked_values (b ⨾ bs) = looked_value b >> looked_values bs

    pub looked_value : Form → Result Unit CheckFault
    looked_value (group (n ⨾ t ⨾ end)) = looked t
    looked_value _ = Ok tt

    -- behind `forall` or `exists`, where the same holds
    pub looked_quantifier : Forms → Result Unit CheckFault
    looked_quantifier (group vs ⨾ body ⨾ end) = if are_some is_variable vs then at_variables pass vs >> looked body else Ok tt
    looked_quantifier _ = Ok tt

    -- behind `!`
    pub looked_annotated : Forms → Result Unit CheckFault
    looked_annotated end = Ok tt
    looked_annotated (t ⨾ attributes) = looked t

-- the four passes over terms, one after another
abbrev pub passed : Forms → Result Unit CheckFault
passed ts = looked_all Names ts >> looked_all Sorts ts >> looked_all Languages ts >> looked_all Numbers ts
