use Rattle.parikh_flow.proofs.RowLemmas.{costs-added, edges-wide, edges-room, edges-ascend, ends-wide, ends-room, ends-ascend}
use Rattle.std.proofs.Common.{◌∙◌, ◌<◌, ◌^◌, List, All, slice_index, subst}
use Rattle.machine_core.specs.declared.edge.Edge.{Edge}
use Rattle.machine_core.specs.declared.end.End.{End}
use Rattle.parikh_flow.proofs.rows.push_costs.Goals as goal

pub returns-clause-added : goal.returns-clause-added
returns-clause-added c =
    costs-added c.args.machine.now c.args.register c.args.base c.end_base.result c.edges.result.now c.finals.result.now c.as_slice.result.now c.as_slice-2.result.now c.args.form.now c.push_terms.new.form c.push_terms-2.new.form
    c.edges.ensures c.finals.ensures (c.as_slice.ensures ∙ c.in_ok-of_edges.ensures.costs) (c.as_slice-2.ensures ∙ c.in_ok-of_ends.ensures.costs) c.end_base.ensures c.in_ok-push_terms.ensures.added c.in_ok-push_terms-2.ensures.added

pub returns-clause-fit : goal.returns-clause-fit
returns-clause-fit c = record {
  edges = subst (λ (l : List Edge). All (λ e. slice_index e.cost c.args.register < 2 ^ 64) l) c.edges.ensures c.in_ok-of_edges.ensures.fit;
  ends = subst (λ (l : List End). All (λ e. slice_index e.cost c.args.register < 2 ^ 64) l) c.finals.ensures c.in_ok-of_ends.ensures.fit;
}

pub push_terms-requires-clause-ascends : goal.push_terms-requires-clause-ascends
push_terms-requires-clause-ascends c = c.requires.ascends

pub edge_costs-requires : goal.edge_costs-requires
edge_costs-requires c = edges-wide c.args.machine.now c.args.register c.args.base c.edges.result.now c.edges.ensures c.requires.register

pub end_costs-requires : goal.end_costs-requires
end_costs-requires c = ends-wide c.args.machine.now c.args.register c.args.base c.finals.result.now c.finals.ensures c.requires.register

pub push_terms-requires-clause-room : goal.push_terms-requires-clause-room
push_terms-requires-clause-room c =
    edges-room c.args.machine.now c.args.register c.args.base c.edges.result.now c.edges.ensures c.as_slice.result.now (c.as_slice.ensures ∙ c.in_ok-of_edges.ensures.costs) c.requires.room

pub push_terms-requires-2-clause-room : goal.push_terms-requires-2-clause-room
push_terms-requires-2-clause-room c =
    ends-room c.args.machine.now c.args.register c.args.base c.finals.result.now c.finals.ensures c.as_slice-2.result.now (c.as_slice-2.ensures ∙ c.in_ok-of_ends.ensures.costs)
    c.end_base.result c.end_base.ensures c.requires.room

pub push_terms-requires-2-clause-ascends : goal.push_terms-requires-2-clause-ascends
push_terms-requires-2-clause-ascends c =
    edges-ascend c.args.machine.now c.args.register c.args.base c.edges.result.now c.edges.ensures c.as_slice.result.now (c.as_slice.ensures ∙ c.in_ok-of_edges.ensures.costs)
    c.end_base.result c.push_terms.new.form c.end_base.ensures c.in_ok-push_terms.ensures.ascends

pub returns-clause-ascends : goal.returns-clause-ascends
returns-clause-ascends c =
    ends-ascend c.args.machine.now c.args.register c.args.base c.finals.result.now c.finals.ensures c.as_slice-2.result.now (c.as_slice-2.ensures ∙ c.in_ok-of_ends.ensures.costs)
    c.end_base.result c.end_base.ensures c.push_terms-2.new.form c.in_ok-push_terms-2.ensures.ascends
