use Rattle.std.proofs.Common.{arith, ◌%◌, sym, subst}
use Rattle.std.specs.Int.{IsGcd}
use Rattle.std.proofs.lemmas.Nat.Gcd.{IsGcd-from_zero, IsGcd-from_mod, IsGcd-swap}
use Rattle.sv_linear.proofs.number.gcd_unsigned.Goals as goal

pub loop-y-preserved : goal.loop-y-preserved
loop-y-preserved c g h = c.loop-y.invariant g (IsGcd-from_mod _ _ g h)

pub returns : goal.returns
returns c = c.loop-y.invariant _ (IsGcd-from_zero _ _ (omega arith))

pub returns-then-a-eq1 : goal.returns-then-a-eq1
returns-then-a-eq1 c =
    let b = c.args.b in
    subst (λ n. IsGcd n b 1) (sym c.if-a-eq1.true) (IsGcd-swap b 1 1 (IsGcd-from_mod b 1 1 (IsGcd-from_zero 1 (b % 1) (omega arith))))
