use Rattle.std.proofs.Common.{◌≡◌, length, take, subst, arith}
use Rattle.std.proofs.lemmas.List.{take_more, length-take}
use Rattle.lia_tableau.specs.Verdicts.{HasVerdict}
use Rattle.lia_tableau.proofs.VerdictLists.{verdicts_more}
use Rattle.lia_tableau.proofs.verdict.verdicts_of.Goals as goal

pub loop-quantity-preserved : goal.loop-quantity-preserved
loop-quantity-preserved c =
    let i = c.loop-quantity.quantity in
    let lines = c.args.lines.now in
    let s = c.index-lines-quantity.result in
    let size : i ≡ length (take i lines) = omega (arith, length-take i lines, c.loop-quantity-test.true) in
    let told = subst (λ q. HasVerdict c.args.unknowns c.args.rows.now q s c.tell_verdict.result) size c.tell_verdict.ensures in
    let more = verdicts_more c.args.unknowns c.args.rows.now (take i lines) s c.loop-quantity.verdicts c.tell_verdict.result c.loop-quantity.invariant told in
    let ls = take_more lines i s c.loop-quantity-test.true in
    rw (c.in_ok-push.ensures.ok, ls, ← c.index-lines-quantity.is) more
