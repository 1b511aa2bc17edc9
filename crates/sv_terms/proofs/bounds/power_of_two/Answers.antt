use Rattle.std.proofs.Common.{◌≤◌, ◌^◌, sym, arith}
use Rattle.sv_terms.specs.CutOff.{cut-above, power-more}
use Rattle.sv_terms.proofs.bounds.power_of_two.Goals as goal

pub returns-then-n-ge64 : goal.returns-then-n-ge64
returns-then-n-ge64 c =
    let h : 18446744073709551616 ≤ 2 ^ c.args.n = power-more 64 c.args.n c.if-n-ge64.true in
    sym (cut-above 18446744073709551615 (2 ^ c.args.n) (omega arith))
