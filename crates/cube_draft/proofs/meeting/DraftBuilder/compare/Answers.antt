use Rattle.std.proofs.Common.{ap}
use Rattle.std.proofs.lemmas.Result.{on_ok_weaker}
use Rattle.literal_forms.specs.Shapes.{seen}
use Rattle.literal_forms.specs.declared.differences.Differences.{Differences}
use Rattle.cube_draft.proofs.Comparisons.{can_bound, compared_renumber, compared_row, subtract_memory}
use Rattle.cube_draft.proofs.meeting.DraftBuilder.compare.Goals as goal

pub bound_form-requires : goal.bound_form-requires
bound_form-requires c = can_bound (seen c.args.left.now) (seen c.args.right.now) c.subtract.new.unknowns.codes c.in-Ok.differences c.args.op c.args.positive c.bound_of-bound.result c.in-Ok.ensures.forms c.requires.fits c.bound_of-bound.ensures

pub renumber_form-requires : goal.renumber_form-requires
renumber_form-requires c = compared_renumber c.args.self.now (seen c.args.left.now) (seen c.args.right.now) c.args.op c.args.positive c.requires c.subtract.new.unknowns.codes c.in-Ok.differences c.bound_of-bound.result c.in_ok-form-in-Ok.form c.in-Ok.ensures.forms c.bound_of-bound.ensures c.in_ok-form-in-Ok.ensures

pub returns-in-Ok : goal.returns-in-Ok
returns-in-Ok c =
    on_ok_weaker c.push.result (λ pushed. compared_row c.args.self.now (seen c.args.left.now) (seen c.args.right.now) c.args.op c.args.positive c.requires c.subtract.new.unknowns.codes c.in-Ok.differences c.bound_of-bound.result c.in_ok-form-in-Ok.form c.in-Ok.ensures.forms c.bound_of-bound.ensures c.in_ok-form-in-Ok.ensures
    _ c.in_ok-form-in-Ok-2.form c.row_kind-kind.result c.in_ok-form-in-Ok-2.ensures c.row_kind-kind.ensures (ap (λ x. record c.args.self.now { rows = x }) pushed)) c.push.ensures.ok

pub memory-requires : goal.memory-requires
memory-requires c = subtract_memory Differences (seen c.args.left.now) (seen c.args.right.now) c.args.op c.args.positive c.in-Err.fault c.requires.fits c.in-Err.ensures.steps
