use Rattle.std.proofs.Common.{◌∙◌}
use Rattle.std.specs.Int.{w128}
use Rattle.std.proofs.lemmas.Int.{to_z-of_z}
use Rattle.sv_linear.specs.Forms.{form_value}
use Rattle.sv_linear.proofs.Homogeneous.{plus_none}
use Rattle.sv_linear.proofs.form.Form.scale.Goals as goal

pub returns-in-Ok-clause-value : goal.returns-in-Ok-clause-value
returns-in-Ok-clause-value c = λ x d.
    let v = rw (to_z-of_z w128 c.args.by c.ranges.by) at (c.in-Ok.ensures.value x d) in
    v ∙ plus_none c.args.by (form_value x d c.args.self.now) (form_value x d c.of_constant-zero.result)
