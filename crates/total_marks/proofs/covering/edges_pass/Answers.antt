use Rattle.std.proofs.Common.{◌+◌, subst}
use Rattle.machine_core.specs.declared.edge.Edge.{Edge}
use Rattle.total_marks.specs.Marks.{StepPasses, charge}
use Rattle.total_marks.proofs.MarkLemmas.{take-more, take-every}
use Rattle.total_marks.proofs.covering.edges_pass.Goals as goal

pub loop-edge-preserved : goal.loop-edge-preserved
loop-edge-preserved c =
    take-more (λ (d : Edge). StepPasses c.args.marks.now.words c.args.marks.now.width (c.args.base + d.from) (c.args.base + d.to) (charge d.cost)) c.args.edges.now c.loop-edge.edge-index c.edge-item.result c.loop-edge-test.true c.edge-item.is c.loop-edge.invariant
    (subst (StepPasses c.args.marks.now.words c.args.marks.now.width (c.args.base + c.edge-item.result.from) (c.args.base + c.edge-item.result.to)) c.charge.ensures (c.passes.ensures c.if-not-passes.false))

pub returns : goal.returns
returns c = λ all. take-every (λ (d : Edge). StepPasses c.args.marks.now.words c.args.marks.now.width (c.args.base + d.from) (c.args.base + d.to) (charge d.cost)) c.args.edges.now c.loop-edge.edge-index c.loop-edge-test.false c.loop-edge.invariant
