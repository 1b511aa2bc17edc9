use Rattle.std.proofs.Common.{get_or}
use Rattle.std.proofs.lemmas.Option.{slice_get-get_or}
use Rattle.cube_search.proofs.NameLemmas.{names-begun, names-next, names-all}
use Rattle.cube_search.proofs.names.names_of.Goals as goal

pub loop-i-init : goal.loop-i-init
loop-i-init c = names-begun c.args.variables.now c.new-names.result c.new-names.ensures

pub loop-i-preserved : goal.loop-i-preserved
loop-i-preserved c =
    let vs = c.args.variables.now in
    names-next vs c.loop-i.i (get_or vs c.loop-i.i 0) c.loop-i.names c.add_name.new.names (slice_get-get_or vs c.loop-i.i 0 c.loop-i-test.true) c.loop-i.invariant c.in_ok-add_name.ensures

pub returns : goal.returns
returns c = names-all c.args.variables.now c.loop-i.i c.loop-i.names c.loop-i-test.false c.loop-i.invariant
