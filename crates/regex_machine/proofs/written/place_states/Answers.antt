use Rattle.regex_machine.proofs.WovenLemmas.{placed-none, placed-more}
use Rattle.regex_machine.proofs.written.place_states.Goals as goal

pub loop-at-init : goal.loop-at-init
loop-at-init c = placed-none c.args.part.now c.args.rest.now c.args.states.now

pub loop-at-preserved : goal.loop-at-preserved
loop-at-preserved c =
    placed-more c.args.part.now c.loop-at.at c.args.base c.args.rest.now c.in_ok-onward.onward c.args.states.now c.loop-at.states c.push.new.self c.requires.base
    c.in_ok-push.ensures.ok c.in_ok-onward.ensures c.loop-at.invariant
