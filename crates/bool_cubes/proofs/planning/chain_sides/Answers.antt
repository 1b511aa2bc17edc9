use Rattle.std.proofs.Common.{length, arith}
use Rattle.bool_cubes.proofs.Steps.{chain_none, chain_step}
use Rattle.bool_cubes.proofs.planning.chain_sides.Goals as goal

pub loop-i-init : goal.loop-i-init
loop-i-init c = chain_none c.args.plan.now.nodes c.settle.new.self.nodes c.in_ok-all.all c.args.op c.args.terms.now (length c.args.terms.now) (omega arith) c.in_ok-all.ensures

pub loop-i-preserved : goal.loop-i-preserved
loop-i-preserved c =
    chain_step c.args.plan.now.nodes c.loop-i.plan.nodes c.comparison.new.self.nodes c.and.new.self.nodes c.loop-i.all c.in_ok-next.next c.in_ok-all-2.all c.args.terms.now c.loop-i.i c.index-terms-i.result c.index-terms-i-in-loop-i.result
    (omega arith) (omega arith) c.index-terms-i.is c.index-terms-i-in-loop-i.is c.args.op c.loop-i.invariant c.in_ok-next.ensures c.in_ok-all-2.ensures.formula
