use Rattle.std.proofs.Common.{ap, ◌∙◌, arith}
use Rattle.std.proofs.lemmas.List.{take_all}
use Rattle.search_hits.specs.Regions.{greatest_states}
use Rattle.box_search.proofs.PlaceLemmas.{greatest-more}
use Rattle.box_search.proofs.places.greatest_states.Goals as goal

pub loop-machine-preserved : goal.loop-machine-preserved
loop-machine-preserved c =
    let more = greatest-more c.args.machines.now c.loop-machine.machine-index c.machine-item.result c.loop-machine-test.true c.machine-item.is in
    let before = c.loop-machine.invariant in
    let now = c.max-greatest.ensures in
    let from = c.from.ensures in
    let states = c.states.ensures in
    omega arith

pub returns : goal.returns
returns c = c.loop-machine.invariant ∙ ap greatest_states (take_all c.loop-machine.machine-index c.args.machines.now (omega (arith, c.loop-machine-test.false)))
