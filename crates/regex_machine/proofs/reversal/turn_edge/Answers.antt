use Rattle.regex_machine.proofs.WordLemmas.{never, surely}
use Rattle.regex_machine.proofs.ReversedLemmas.{adds-back, adds-both}
use Rattle.regex_machine.proofs.reversal.turn_edge.Goals as goal

pub returns-then-not-leads_to_end-clause-edges : goal.returns-then-not-leads_to_end-clause-edges
returns-then-not-leads_to_end-clause-edges c =
    adds-back c.args.part.now.ends c.args.edge.now c.args.whole.now.edges c.add_edge.new.self.edges
    (never c.may_end-leads_to_end.result _ c.may_end-leads_to_end.ensures c.if-not-leads_to_end.true)
    (rw (c.in_ok-on.ensures, c.new-cost.ensures) at c.in_ok-add_edge.ensures.ok)

pub returns-clause-edges : goal.returns-clause-edges
returns-clause-edges c =
    adds-both c.args.part.now.ends c.args.edge.now c.args.whole.now.edges c.add_edge.new.self.edges c.add_edge-2.new.self.edges
    (surely c.may_end-leads_to_end.result _ c.may_end-leads_to_end.ensures c.if-not-leads_to_end.false)
    (rw (c.in_ok-on.ensures, c.new-cost.ensures) at c.in_ok-add_edge.ensures.ok)
    (rw (c.in_ok-first_on.ensures, c.new-nothing.ensures) at c.in_ok-add_edge-2.ensures.ok)
