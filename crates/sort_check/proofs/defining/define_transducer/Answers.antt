use Rattle.std.proofs.Common.{rules, map}
use Rattle.sort_check.proofs.Counted.{define_transducer-few, define_transducer-many}
use Rattle.sv_terms.specs.Names.{symbol_name}
use Rattle.smt_names.specs.Form.{forms, seen}
use Rattle.transducer_form.specs.Written.{description_seen}
use Rattle.sort_check.proofs.Written.{five-seen, machine-defined, machine-none, machine-unnamed}
use Rattle.sort_check.proofs.defining.define_transducer.Goals as goal
use Rattle.sort_check.proofs.defining.define_transducer.Goals.{in_default-via-then-parts-lt5, in_default-via-else-parts-lt5+else-parts-lt6}

pub returns-in_default : goal.returns-in_default
returns-in_default c = elim c.in_default.branch [ in_default-via-then-parts-lt5 w ↦ define_transducer-few c.args.symbols.now c.args.parts.now (search rules) | in_default-via-else-parts-lt5+else-parts-lt6 w ↦ define_transducer-many c.args.symbols.now c.args.parts.now (search rules) ]

pub returns-in-Some-symbol : goal.returns-in-Some-symbol
returns-in-Some-symbol c =
    machine-defined c.args.symbols.now (forms (map seen c.args.parts.now)) (seen c.name-item.result) (seen c.states-item.result) (seen c.start-item.result) (seen c.edges-item.result) (seen c.ends-item.result)
    (five-seen c.args.parts.now c.name-item.result c.states-item.result c.start-item.result c.edges-item.result c.ends-item.result c.in-len5.len_at_least c.in-len5.len_below c.name-item.is c.states-item.is c.start-item.is c.edges-item.is c.ends-item.is)
    (description_seen c.in-Some.description) c.in-Some.ensures (symbol_name c.in-Some-symbol.text.now) c.machine.result c.in-Some-symbol.ensures c.machine.ensures

pub returns-in-None-symbol : goal.returns-in-None-symbol
returns-in-None-symbol c =
    machine-unnamed c.args.symbols.now (forms (map seen c.args.parts.now)) (seen c.name-item.result) (seen c.states-item.result) (seen c.start-item.result) (seen c.edges-item.result) (seen c.ends-item.result)
    (five-seen c.args.parts.now c.name-item.result c.states-item.result c.start-item.result c.edges-item.result c.ends-item.result c.in-len5.len_at_least c.in-len5.len_below c.name-item.is c.states-item.is c.start-item.is c.edges-item.is c.ends-item.is)
    (description_seen c.in-Some.description) c.in-Some.ensures c.in-None-symbol.ensures

pub returns-in-None : goal.returns-in-None
returns-in-None c =
    machine-none c.args.symbols.now (forms (map seen c.args.parts.now)) (seen c.name-item.result) (seen c.states-item.result) (seen c.start-item.result) (seen c.edges-item.result) (seen c.ends-item.result)
    (five-seen c.args.parts.now c.name-item.result c.states-item.result c.start-item.result c.edges-item.result c.ends-item.result c.in-len5.len_at_least c.in-len5.len_below c.name-item.is c.states-item.is c.start-item.is c.edges-item.is c.ends-item.is)
    c.in-None.ensures
