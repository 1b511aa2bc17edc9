use Rattle.std.proofs.lemmas.Result.{IfOk-weaker}
use Rattle.term_eval.proofs.Builds.{same-refl}
use Rattle.term_eval.proofs.Derives.{diff-short, diff-front, turn-next, turn-last, whole_tail}
use Rattle.term_eval.proofs.derivative.+derive.Goals as goal
use Rattle.std.proofs.Common.{◌+◌, sym, ◌∙◌, IsTrue, false}

pub derive-returns-in-empty : goal.derive-returns-in-empty
derive-returns-in-empty t c = diff-short _ _ _ _ c.in-Diff.is c.as_slice-in-Diff.ensures c.in-empty.len_below

pub derive-returns-in-Ok : goal.derive-returns-in-Ok
derive-returns-in-Ok t c =
    IfOk-weaker c.minus.result _ _ (λ d s. diff-front _ _ _ _ _ _ _ _ c.in-Diff.is c.as_slice-in-Diff.ensures c.in-len1-up.len_at_least c.r-item.is c.in_ok-a-in-len1-up.ensures c.in-Ok.ensures s) c.minus.ensures

pub derive_in_turn-returns-then-not-is_nullable : goal.derive_in_turn-returns-then-not-is_nullable
derive_in_turn-returns-then-not-is_nullable t c =
    turn-last _ _ _ _ _ _ _ _ _ _ _ c.loop-i-test.true c.index-rs-i.is (whole_tail c.args.rs.now (c.loop-i.i + 1)) c.loop-i.invariant c.in_ok-first.ensures (same-refl _) c.in_ok-d.ensures c.in_ok-add_part.ensures (λ h. let k : IsTrue false = sym c.if-not-is_nullable.true ∙ c.is_nullable.ensures.1 h in cc) c.one_of.ensures

pub derive_in_turn-loop-i-preserved : goal.derive_in_turn-loop-i-preserved
derive_in_turn-loop-i-preserved t c =
    turn-next _ _ _ _ _ _ _ _ _ _ c.loop-i-test.true c.index-rs-i.is (whole_tail c.args.rs.now (c.loop-i.i + 1)) c.loop-i.invariant c.in_ok-first.ensures (same-refl _) c.in_ok-d.ensures c.in_ok-add_part.ensures (c.is_nullable.ensures.0 c.if-not-is_nullable.false)
