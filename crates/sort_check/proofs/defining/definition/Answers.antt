use Rattle.std.proofs.Common.{map}
use Rattle.sv_terms.specs.Names.{symbol_name}
use Rattle.smt_names.specs.Form.{forms, seen}
use Rattle.sort_check.proofs.Answering.{defining}
use Rattle.sort_check.proofs.defining.definition.Goals as goal

pub returns-in-Some : goal.returns-in-Some
returns-in-Some c = defining c.args.symbols.now c.in_ok-name.name (symbol_name c.args.text.now) (forms (map seen c.args.parameters.now)) (seen c.args.sort.now) (seen c.args.body.now) c.in-Some.sort tt c.settle_definition.result c.in_ok-name.ensures.ok c.in_ok-pass_definition.ensures c.in-Some.ensures c.settle_definition.ensures
