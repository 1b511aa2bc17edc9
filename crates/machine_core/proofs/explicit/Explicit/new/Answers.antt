use Rattle.machine_core.proofs.FormedLemmas.{formed-none, indexed-none}
use Rattle.machine_core.proofs.explicit.Explicit.new.Goals as goal

pub invariant_of-graph : goal.invariant_of-graph
invariant_of-graph c = record {
  started = c.requires;
  formed = formed-none c.args.states c.args.registers _ _ c.new.ensures c.new-2.ensures;
}

pub invariant_of-result : goal.invariant_of-result
invariant_of-result c = indexed-none c.args.states _ _ _ _ c.new.ensures c.new-2.ensures c.in_ok-edge_places.ensures c.in_ok-end_places.ensures

pub returns-clause-edges : goal.returns-clause-edges
returns-clause-edges c = c.new.ensures

pub returns-clause-ends : goal.returns-clause-ends
returns-clause-ends c = c.new-2.ensures
