use Rattle.std.proofs.Common.{refl, sym, subst, List}
use Rattle.sv_linear.specs.declared.row.Row.{Row}
use Rattle.lia_branch.specs.Founds.{IsReadyTableau, IsSystemNode}
use Rattle.lia_branch.proofs.Branching.{ready_after, node_after, comes_to, past_in_pivot}
use Rattle.lia_branch.proofs.searching.visit.Goals as goal

pub returns-in_err-stop_of-clause-ready : goal.returns-in_err-stop_of-clause-ready
returns-in_err-stop_of-clause-ready g c =
    ready_after c.args.system.now c.args.tableau.now c.settle.new.tableau c.requires.ready c.settle.ensures.trail

pub returns-in-Err-clause-ready : goal.returns-in-Err-clause-ready
returns-in-Err-clause-ready g c =
    ready_after c.args.system.now c.args.tableau.now c.settle.new.tableau c.requires.ready c.settle.ensures.trail

pub returns-in-Divisor-clause-ready : goal.returns-in-Divisor-clause-ready
returns-in-Divisor-clause-ready g c =
    ready_after c.args.system.now c.args.tableau.now c.settle.new.tableau c.requires.ready c.settle.ensures.trail

pub returns-in-Conflict-clause-ready : goal.returns-in-Conflict-clause-ready
returns-in-Conflict-clause-ready g c =
    ready_after c.args.system.now c.args.tableau.now c.settle.new.tableau c.requires.ready c.settle.ensures.trail

pub returns-in-Point-clause-ready : goal.returns-in-Point-clause-ready
returns-in-Point-clause-ready g c =
    ready_after c.args.system.now c.args.tableau.now c.settle.new.tableau c.requires.ready c.settle.ensures.trail

pub returns-in-Err-clause-found : goal.returns-in-Err-clause-found
returns-in-Err-clause-found g c = λ node k b.
    c.in_ok-stop_of.ensures node (past_in_pivot node c.settle.new.tableau c.in-Err.fault (comes_to node c.args.tableau.now c.settle.new.tableau b c.settle.ensures.trail) c.in-Err.ensures.past)

pub divisor_leaf-requires-clause-ready : goal.divisor_leaf-requires-clause-ready
divisor_leaf-requires-clause-ready g c =
    subst (λ (rs : List Row). IsReadyTableau c.args.system.now rs c.settle.new.tableau) (sym c.rows.ensures) (ready_after c.args.system.now c.args.tableau.now c.settle.new.tableau c.requires.ready c.settle.ensures.trail)

pub conflict_leaf-requires-clause-ready : goal.conflict_leaf-requires-clause-ready
conflict_leaf-requires-clause-ready g c =
    subst (λ (rs : List Row). IsReadyTableau c.args.system.now rs c.settle.new.tableau) (sym c.rows-in-Conflict.ensures) (ready_after c.args.system.now c.args.tableau.now c.settle.new.tableau c.requires.ready c.settle.ensures.trail)

pub returns-in-Divisor-clause-found : goal.returns-in-Divisor-clause-found
returns-in-Divisor-clause-found g c = λ node k b.
    c.divisor_leaf.ensures node (subst (λ (rs : List Row). IsSystemNode c.args.system.now rs node) (sym c.rows.ensures) (node_after c.args.system.now c.args.tableau.now c.settle.new.tableau node k c.settle.ensures.trail)) (comes_to node c.args.tableau.now c.settle.new.tableau b c.settle.ensures.trail)

pub returns-in-Conflict-clause-found : goal.returns-in-Conflict-clause-found
returns-in-Conflict-clause-found g c = λ node k b.
    c.conflict_leaf.ensures node (subst (λ (rs : List Row). IsSystemNode c.args.system.now rs node) (sym c.rows-in-Conflict.ensures) (node_after c.args.system.now c.args.tableau.now c.settle.new.tableau node k c.settle.ensures.trail)) (comes_to node c.args.tableau.now c.settle.new.tableau b c.settle.ensures.trail)

pub visit_point-requires-clause-ready : goal.visit_point-requires-clause-ready
visit_point-requires-clause-ready g c =
    ready_after c.args.system.now c.args.tableau.now c.settle.new.tableau c.requires.ready c.settle.ensures.trail

pub visit_point-requires-clause-meets : goal.visit_point-requires-clause-meets
visit_point-requires-clause-meets g c = c.in-Point.ensures.meets refl

pub returns-in-Point-clause-found : goal.returns-in-Point-clause-found
returns-in-Point-clause-found g c = λ node k b.
    c.visit_point.ensures node (node_after c.args.system.now c.args.tableau.now c.settle.new.tableau node k c.settle.ensures.trail) (comes_to node c.args.tableau.now c.settle.new.tableau b c.settle.ensures.trail)
