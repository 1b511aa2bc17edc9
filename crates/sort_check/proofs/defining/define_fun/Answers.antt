use Rattle.std.proofs.Common.{rules, map}
use Rattle.sort_check.proofs.Counted.{define_fun-few, define_fun-many}
use Rattle.sv_terms.specs.Names.{symbol_name}
use Rattle.smt_names.specs.Form.{forms, seen}
use Rattle.sort_check.proofs.Written.{four-seen, fun-defined, fun-none, fun-sort, fun-unnamed, fun-variables}
use Rattle.sort_check.proofs.defining.define_fun.Goals as goal
use Rattle.sort_check.proofs.defining.define_fun.Goals.{then-not-are_parameters-via-then-not-are_parameters, then-not-are_parameters-via-else-not-are_parameters+then-not-is_sort_form, in_default-via-then-parts-lt4, in_default-via-else-parts-lt4+else-parts-lt5}

pub returns-in_default : goal.returns-in_default
returns-in_default c = elim c.in_default.branch [ in_default-via-then-parts-lt4 w ↦ define_fun-few c.args.symbols.now c.args.parts.now (search rules) | in_default-via-else-parts-lt4+else-parts-lt5 w ↦ define_fun-many c.args.symbols.now c.args.parts.now (search rules) ]

pub returns-then-not-are_parameters : goal.returns-then-not-are_parameters
returns-then-not-are_parameters c = elim c.then-not-are_parameters.branch [
  | then-not-are_parameters-via-then-not-are_parameters w ↦
      fun-variables c.args.symbols.now (forms (map seen c.args.parts.now)) (seen c.name-item.result) (seen c.parameters-item.result) (seen c.sort-item.result) (seen c.body-item.result)
      (four-seen c.args.parts.now c.name-item.result c.parameters-item.result c.sort-item.result c.body-item.result c.in-len4.len_at_least c.in-len4.len_below c.name-item.is c.parameters-item.is c.sort-item.is c.body-item.is)
      (forms (map seen c.in-Some.parameters.now)) c.in-Some.ensures c.are_parameters.result c.are_parameters.ensures w.if-not-are_parameters.true
  | then-not-are_parameters-via-else-not-are_parameters+then-not-is_sort_form w ↦
      fun-sort c.args.symbols.now (forms (map seen c.args.parts.now)) (seen c.name-item.result) (seen c.parameters-item.result) (seen c.sort-item.result) (seen c.body-item.result)
      (four-seen c.args.parts.now c.name-item.result c.parameters-item.result c.sort-item.result c.body-item.result c.in-len4.len_at_least c.in-len4.len_below c.name-item.is c.parameters-item.is c.sort-item.is c.body-item.is)
      (forms (map seen c.in-Some.parameters.now)) c.in-Some.ensures c.are_parameters.result w.is_sort_form.result c.are_parameters.ensures w.if-not-are_parameters.false w.is_sort_form.ensures w.if-not-is_sort_form.true
]

pub returns-in-Some-symbol : goal.returns-in-Some-symbol
returns-in-Some-symbol c =
    fun-defined c.args.symbols.now (forms (map seen c.args.parts.now)) (seen c.name-item.result) (seen c.parameters-item.result) (seen c.sort-item.result) (seen c.body-item.result)
    (four-seen c.args.parts.now c.name-item.result c.parameters-item.result c.sort-item.result c.body-item.result c.in-len4.len_at_least c.in-len4.len_below c.name-item.is c.parameters-item.is c.sort-item.is c.body-item.is)
    (forms (map seen c.in-Some.parameters.now)) c.in-Some.ensures c.are_parameters.result c.is_sort_form.result c.are_parameters.ensures c.if-not-are_parameters.false c.is_sort_form.ensures (symbol_name c.in-Some-symbol.text.now) c.definition.result c.if-not-is_sort_form.false c.in-Some-symbol.ensures c.definition.ensures

pub returns-in-None-symbol : goal.returns-in-None-symbol
returns-in-None-symbol c =
    fun-unnamed c.args.symbols.now (forms (map seen c.args.parts.now)) (seen c.name-item.result) (seen c.parameters-item.result) (seen c.sort-item.result) (seen c.body-item.result)
    (four-seen c.args.parts.now c.name-item.result c.parameters-item.result c.sort-item.result c.body-item.result c.in-len4.len_at_least c.in-len4.len_below c.name-item.is c.parameters-item.is c.sort-item.is c.body-item.is)
    (forms (map seen c.in-Some.parameters.now)) c.in-Some.ensures c.are_parameters.result c.is_sort_form.result c.are_parameters.ensures c.if-not-are_parameters.false c.is_sort_form.ensures c.if-not-is_sort_form.false c.in-None-symbol.ensures

pub returns-in-None : goal.returns-in-None
returns-in-None c =
    fun-none c.args.symbols.now (forms (map seen c.args.parts.now)) (seen c.name-item.result) (seen c.parameters-item.result) (seen c.sort-item.result) (seen c.body-item.result)
    (four-seen c.args.parts.now c.name-item.result c.parameters-item.result c.sort-item.result c.body-item.result c.in-len4.len_at_least c.in-len4.len_below c.name-item.is c.parameters-item.is c.sort-item.is c.body-item.is)
    c.in-None.ensures
