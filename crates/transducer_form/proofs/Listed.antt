-- Whether each form of a list passes a test.
use Rattle.std.proofs.Common.{◌≡◌, Bool, List, map}
use Rattle.std.specs.List.{list_all}
use Rattle.sexpr_reader.specs.declared.sexpr.Sexpr.{Sexpr}
use Rattle.smt_names.specs.Form.{Form, forms, seen, are_all}
use Rattle.smt_names.specs.Shapes.{are-listed}
use Rattle.transducer_form.specs.Written.{is_symbol, is_text, is_item, is_edge, is_end}

abbrev AreListed : (Form → Bool) → Type 0
AreListed test = (xs : List Sexpr) → are_all test (forms (map seen xs)) ≡ list_all (λ x. test (seen x)) xs

pub symbols-listed : AreListed is_symbol
symbols-listed = are-listed is_symbol

pub texts-listed : AreListed is_text
texts-listed = are-listed is_text

pub items-listed : AreListed is_item
items-listed = are-listed is_item

pub edges-listed : AreListed is_edge
edges-listed = are-listed is_edge

pub ends-listed : AreListed is_end
ends-listed = are-listed is_end

pub ruleset listed = (symbols-listed, texts-listed, items-listed, edges-listed, ends-listed)
