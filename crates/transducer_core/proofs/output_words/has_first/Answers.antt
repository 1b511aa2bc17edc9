use Rattle.transducer_core.proofs.LayerLemmas.{item_found, item_missing, item_more}
use Rattle.transducer_core.proofs.output_words.has_first.Goals as goal

pub returns-then-is_first : goal.returns-then-is_first
returns-then-is_first c = item_found c.args.firsts.now (c.args.c, c.args.to) c.loop-at.at c.first_at.result.now c.first_at.ensures (c.is_first.ensures.0 c.if-is_first.true)

pub loop-at-preserved : goal.loop-at-preserved
loop-at-preserved c = item_more c.args.firsts.now (c.args.c, c.args.to) c.loop-at.at c.first_at.result.now c.first_at.ensures
    (λ e. let yes = c.is_first.ensures.1 e in let no = c.if-is_first.false in cc) c.loop-at.invariant

pub returns : goal.returns
returns c = item_missing c.args.firsts.now (c.args.c, c.args.to) c.loop-at.at c.loop-at-test.false c.loop-at.invariant
