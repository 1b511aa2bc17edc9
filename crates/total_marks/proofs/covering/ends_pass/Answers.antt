use Rattle.std.proofs.Common.{◌+◌, subst}
use Rattle.machine_core.specs.declared.end.End.{End}
use Rattle.total_marks.specs.Marks.{StepPasses, charge}
use Rattle.total_marks.proofs.MarkLemmas.{take-more, take-every}
use Rattle.total_marks.proofs.covering.ends_pass.Goals as goal

pub loop-end-preserved : goal.loop-end-preserved
loop-end-preserved c =
    take-more (λ (d : End). StepPasses c.args.marks.now.words c.args.marks.now.width (c.args.base + d.at) c.args.next (charge d.cost)) c.args.ends.now c.loop-end.end-index c.end-item.result c.loop-end-test.true c.end-item.is c.loop-end.invariant
    (subst (StepPasses c.args.marks.now.words c.args.marks.now.width (c.args.base + c.end-item.result.at) c.args.next) c.charge.ensures (c.passes.ensures c.if-not-passes.false))

pub returns : goal.returns
returns c = λ all. take-every (λ (d : End). StepPasses c.args.marks.now.words c.args.marks.now.width (c.args.base + d.at) c.args.next (charge d.cost)) c.args.ends.now c.loop-end.end-index c.loop-end-test.false c.loop-end.invariant
