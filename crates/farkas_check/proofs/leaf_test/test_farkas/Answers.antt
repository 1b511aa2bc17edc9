use Rattle.std.proofs.Common.{◌≡◌, false, true, map, ◌∙◌, sym}
use Rattle.std.proofs.Common.{rules}
use Rattle.farkas_check.specs.Systems.{constraint_of}
use Rattle.farkas_check.specs.Closings.{Allowed}
use Rattle.farkas_check.proofs.LeafSums.{farkas_of, farkas_back}
use Rattle.farkas_check.proofs.leaf_test.test_farkas.Goals as goal

pub returns-then-is_above_zero : goal.returns-then-is_above_zero
returns-then-is_above_zero c =
    let a : Allowed 0 (map constraint_of c.args.rows.now) c.args.multipliers.now = search rules in
    let s = rw c.in-Some.is at c.in_ok-sum_of.ensures in
    let h = c.is_above_zero.ensures.0 c.if-is_above_zero.true in
    (farkas_of _ _ c.in-Some.sum a s h.0 h.1, s.fits)

pub returns : goal.returns
returns c = λ r.
    let s = rw c.in-Some.is at c.in_ok-sum_of.ensures in
    let t = c.is_above_zero.ensures.1 (farkas_back _ _ c.in-Some.sum s r) in
    let both : false ≡ true = sym c.if-is_above_zero.false ∙ t in
    absurd (cc)
