use Rattle.std.proofs.Common.{rules, arith}
use Rattle.transducer_core.proofs.LayerLemmas.{walking_edge, walking_back, walking_begun, walking_entry, walking_done, less_one}
use Rattle.transducer_core.proofs.finding.places_back.Goals as goal

pub loop-i-init : goal.loop-i-init
loop-i-init c = walking_begun c.args.transducer.now c.args.written.now c.args.read.now c.args.layers.now c.len-i.result c.args.at c.new-back.result c.len-i.ensures c.new-back.ensures c.requires.ended

pub entry_of-entry-requires : goal.entry_of-entry-requires
entry_of-entry-requires c = walking_entry c.args.transducer.now c.args.written.now c.args.read.now c.args.layers.now c.loop-i.i c.loop-i.place c.loop-i.back c.loop-i.invariant.1

pub loop-i-smaller : goal.loop-i-smaller
loop-i-smaller c = less_one c.loop-i.i c.loop-i-test.true

pub returns : goal.returns
returns c = walking_done c.args.transducer.now c.args.written.now c.args.read.now c.args.layers.now c.loop-i.i c.loop-i.place c.loop-i.back c.turn_round.result c.requires.searched c.loop-i-test.false c.loop-i.invariant.1 c.turn_round.ensures

pub overflow_cast-entry : goal.overflow_cast-entry
overflow_cast-entry c =
    let k = walking_edge c.args.transducer.now c.args.written.now c.args.read.now c.args.layers.now c.loop-i.i c.loop-i.place c.entry_of-entry.result.now c.requires.searched (omega (arith, c.loop-i-test.true)) c.loop-i.invariant.0 c.entry_of-entry.ensures in
    search (rules, k, c.requires.small)

pub loop-i-preserved : goal.loop-i-preserved
loop-i-preserved c =
    let l = c.loop-i.invariant.0 in (
      omega (arith, l),
      walking_back c.args.transducer.now c.args.written.now c.args.read.now c.args.layers.now c.loop-i.i c.loop-i.place c.loop-i.back c.push.new.self c.entry_of-entry.result.now c.requires.searched
          (omega (arith, c.loop-i-test.true)) l c.entry_of-entry.ensures c.loop-i.invariant.1 c.in_ok-push.ensures.ok,
    )
