use Rattle.std.proofs.Common.{refl}
use Rattle.std.specs.Int.{w128}
use Rattle.std.proofs.lemmas.Int.{to_z-of_z}
use Rattle.sv_linear.specs.Combining.{FitsSymmetric}
use Rattle.sv_linear.specs.Forms.{entry}
use Rattle.sv_linear.proofs.Bounds.{symmetric_from, from_symmetric}
use Rattle.sv_linear.proofs.Refusals.{same_refusals}
use Rattle.sv_linear.proofs.form.Form.combine.Goals as goal

pub returns-clause-outside : goal.returns-clause-outside
returns-clause-outside c =
    let h = rw (to_z-of_z w128 c.args.by c.ranges.by, to_z-of_z w128 c.args.other_by c.ranges.other_by) at c.combine_from.ensures.outside in
    same_refusals _ (λ c'. FitsSymmetric c.args.by (entry c' c.args.self.now) c.args.other_by (entry c' c.args.other.now))
    (λ c'. symmetric_from _ c.args.by (entry c' c.args.self.now) c.args.other_by (entry c' c.args.other.now) refl)
    (λ c'. from_symmetric _ c.args.by (entry c' c.args.self.now) c.args.other_by (entry c' c.args.other.now) refl)
    c.combine_from.result h
