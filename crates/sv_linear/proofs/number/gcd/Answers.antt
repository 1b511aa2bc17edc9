use Rattle.std.proofs.Common.{◌≡◌, unsigned_abs, ap, ◌∙◌, subst}
use Rattle.std.specs.Int.{w128, IsGcd}
use Rattle.std.proofs.lemmas.Int.{to_z-of_z}
use Rattle.sv_linear.proofs.number.gcd.Goals as goal

pub returns : goal.returns
returns c =
    let x : c.unsigned_abs.result ≡ unsigned_abs c.args.a = c.unsigned_abs.ensures.value ∙ ap unsigned_abs (to_z-of_z w128 c.args.a c.ranges.a) in
    let y : c.unsigned_abs-2.result ≡ unsigned_abs c.args.b = c.unsigned_abs-2.ensures.value ∙ ap unsigned_abs (to_z-of_z w128 c.args.b c.ranges.b) in
    subst (λ n. IsGcd (unsigned_abs c.args.a) n c.gcd_unsigned.result) y (subst (λ n. IsGcd n c.unsigned_abs-2.result c.gcd_unsigned.result) x c.gcd_unsigned.ensures)
