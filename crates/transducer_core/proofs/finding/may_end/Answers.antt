use Rattle.transducer_core.proofs.LayerLemmas.{item_found, item_missing, item_more}
use Rattle.transducer_core.proofs.finding.may_end.Goals as goal

pub returns-then-is_end : goal.returns-then-is_end
returns-then-is_end c = item_found c.args.ends.now (c.args.state, c.args.rest.now) c.loop-at.at c.end_at.result.now c.end_at.ensures (c.is_end.ensures.0 c.if-is_end.true)

pub loop-at-preserved : goal.loop-at-preserved
loop-at-preserved c = item_more c.args.ends.now (c.args.state, c.args.rest.now) c.loop-at.at c.end_at.result.now c.end_at.ensures
    (λ e. let yes = c.is_end.ensures.1 e in let no = c.if-is_end.false in cc) c.loop-at.invariant

pub returns : goal.returns
returns c = item_missing c.args.ends.now (c.args.state, c.args.rest.now) c.loop-at.at c.loop-at-test.false c.loop-at.invariant
