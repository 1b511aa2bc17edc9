use Rattle.std.specs.Int.{w128}
use Rattle.std.proofs.lemmas.Int.{to_z-of_z}
use Rattle.sv_linear.proofs.Ascending.{pushed_ascends}
use Rattle.sv_linear.proofs.Bounds.{not_zero_read}
use Rattle.sv_linear.proofs.form.Form.push.Goals as goal

pub invariant_of-self : goal.invariant_of-self
invariant_of-self c =
    let z = to_z-of_z w128 c.args.coefficient c.ranges.coefficient in
    record {
      ascending = pushed_ascends c.push.result _ _ c.args.unknown c.args.coefficient (rw z at c.push.ensures.ok) c.push.ensures.err c.args.self.now.ascending c.requires.last (not_zero_read _ c.ranges.coefficient c.requires.not_zero) c.ranges.unknown.fits;
    }
