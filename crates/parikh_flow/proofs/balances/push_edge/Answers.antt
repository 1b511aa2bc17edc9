use Rattle.parikh_flow.proofs.BalanceLemmas.{added-loop, added-edge, second-below}
use Rattle.parikh_flow.proofs.balances.push_edge.Goals as goal

pub returns-then-edge : goal.returns-then-edge
returns-then-edge c = added-loop c.args.edge.now c.args.unknown c.args.forms.now.items c.args.forms.now.items c.args.forms.now.items c.requires.ascend c.if-edge.true

pub push_at-requires-2-clause-last : goal.push_at-requires-2-clause-last
push_at-requires-2-clause-last c =
    second-below c.args.edge.now c.args.unknown c.args.forms.now.items c.push_at.new.forms.items c.push_at.new.forms.items c.requires.ascend c.if-edge.false c.in_ok-push_at.ensures

pub returns : goal.returns
returns c =
    added-edge c.args.edge.now c.args.unknown c.args.forms.now.items c.push_at.new.forms.items c.push_at-2.new.forms.items c.requires.ascend c.if-edge.false c.in_ok-push_at.ensures c.in_ok-push_at-2.ensures
