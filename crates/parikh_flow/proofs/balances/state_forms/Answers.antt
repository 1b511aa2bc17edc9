use Rattle.std.proofs.Common.{◌∙◌, ◌+◌, length, List, subst}
use Rattle.machine_core.specs.declared.edge.Edge.{Edge}
use Rattle.machine_core.specs.declared.end.End.{End}
use Rattle.parikh_flow.specs.Rows.{terms_by, edge_balance, end_balance}
use Rattle.parikh_flow.specs.Building.{AreAdded, AreOpened}
use Rattle.parikh_flow.proofs.BalanceLemmas.{edge-states, end-states, state-forms, opened-ascend}
use Rattle.parikh_flow.proofs.balances.state_forms.Goals as goal

pub push_edges-requires-clause-states : goal.push_edges-requires-clause-states
push_edges-requires-clause-states c = edge-states c.args.machine.now c.edges.result.now (length c.in_ok-forms.forms.items) c.edges.ensures (c.in_ok-forms.ensures.size ∙ c.states.ensures)

pub push_edges-requires-clause-ascend : goal.push_edges-requires-clause-ascend
push_edges-requires-clause-ascend c = opened-ascend c.states.result c.args.base c.in_ok-forms.forms.items c.in_ok-forms.ensures

pub push_ends-requires-clause-states : goal.push_ends-requires-clause-states
push_ends-requires-clause-states c =
    end-states c.args.machine.now c.finals.result.now (length c.push_edges.new.forms.items) c.finals.ensures (c.in_ok-push_edges.ensures.size ∙ c.in_ok-forms.ensures.size ∙ c.states.ensures)

pub returns : goal.returns
returns c =
    let edges = subst (λ (l : List Edge). AreAdded (λ s. terms_by (edge_balance s) c.args.base l) (c.args.base + length l) c.in_ok-forms.forms.items c.push_edges.new.forms.items) c.edges.ensures c.in_ok-push_edges.ensures in
    let ends = subst (λ b. AreAdded (λ s. terms_by (end_balance s) b c.finals.result.now) (b + length c.finals.result.now) c.push_edges.new.forms.items c.push_ends.new.forms.items) c.end_base.ensures c.in_ok-push_ends.ensures in
    let ends' = subst (λ (l : List End). AreAdded (λ s. terms_by (end_balance s) (c.args.base + length c.args.machine.now.edges) l) (c.args.base + length c.args.machine.now.edges + length l) c.push_edges.new.forms.items c.push_ends.new.forms.items) c.finals.ensures ends in
    state-forms c.args.base c.args.machine.now c.in_ok-forms.forms.items c.push_edges.new.forms.items c.push_ends.new.forms.items (subst (λ n. AreOpened n c.in_ok-forms.forms.items) c.states.ensures c.in_ok-forms.ensures) edges ends'
