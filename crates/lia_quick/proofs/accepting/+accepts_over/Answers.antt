use Rattle.std.proofs.Common.{rules, ◌+ℤ◌, pos, neg_ℤ, ◌++◌, ◌∷◌, [], List, map, IsTrue, FitsSigned, sym, subst, arith}
use Rattle.std.specs.Int.{w128}
use Rattle.std.proofs.lemmas.Int.{ints, to_z-of_z}
use Rattle.std.proofs.lemmas.Result.{IfOk-weaker}
use mir.Val.{SFits}
use Rattle.farkas_check.specs.Closings.{FarkasRule, DivisorRule}
use Rattle.farkas_check.specs.Fitting.{LeafFits}
use Rattle.farkas_check.specs.NodeLaws.{Told, split_closed, farkas_closed, divisor_closed}
use Rattle.farkas_check.specs.Systems.{Constraint, constraint_of}
use Rattle.farkas_check.specs.declared.net.Net.{Net}
use Rattle.lia_quick.proofs.accepting.+accepts_over.Goals as goal

pub accepts_over-returns-in-Farkas-clause-told : goal.accepts_over-returns-in-Farkas-clause-told
accepts_over-returns-in-Farkas-clause-told t c =
    let rows = map constraint_of c.args.rows.now in
    let ms = c.in-Farkas.multipliers in
    IfOk-weaker c.accepts_farkas.result (λ b. IsTrue b → FarkasRule rows ms × LeafFits rows ms) (λ b. IsTrue b → (nets : List Net) → Told nets rows c.args.tree.now)
    (λ b told is nets. subst (Told nets rows) (sym c.in-Farkas.is) (farkas_closed nets rows ms (told is)))
    (rw (c.as_slice.ensures, c.as_slice-in-Farkas.ensures) at c.accepts_farkas.ensures)

pub accepts_over-returns-in-Divisor-clause-told : goal.accepts_over-returns-in-Divisor-clause-told
accepts_over-returns-in-Divisor-clause-told t c =
    let rows = map constraint_of c.args.rows.now in
    let ms = c.in-Divisor.multipliers in
    let d = c.in-Divisor.divisor in
    let fd : SFits w128 d = search rules in
    IfOk-weaker c.accepts_divisor.result (λ b. IsTrue b → DivisorRule rows ms d × LeafFits rows ms) (λ b. IsTrue b → (nets : List Net) → Told nets rows c.args.tree.now)
    (λ b told is nets. subst (Told nets rows) (sym c.in-Divisor.is) (divisor_closed nets rows ms d (told is)))
    (rw (c.as_slice-in-Divisor.ensures, c.as_slice-in-Divisor-2.ensures, to_z-of_z w128 _ fd) at c.accepts_divisor.ensures)

pub accepts_over-returns-in_ok-row-in-Split-2-clause-told : goal.accepts_over-returns-in_ok-row-in-Split-2-clause-told
accepts_over-returns-in_ok-row-in-Split-2-clause-told t c =
    let rows = map constraint_of c.args.rows.now in
    let u = c.in-Split.unknown in
    let at = c.in-Split.at in
    let low = c.in-Split.low in
    let high = c.in-Split.high in
    let least = c.in_ok-row-in-Split-2.row in
    let fa : SFits w128 at = search rules in
    let minus : FitsSigned w128 (neg_ℤ at) = omega (arith, ints, fa, c.if-at.false) in
    let next : FitsSigned w128 (at +ℤ pos 1) = omega (arith, ints, fa, c.if-at-eq170141183460469231731687303715884105727.false) in
    let fx : SFits w128 (at +ℤ pos 1) = next in
    let is_most = rw (to_z-of_z w128 _ fa) at c.in_ok-row-in-Split.ensures.row in
    let is_least = rw (to_z-of_z w128 _ fa, to_z-of_z w128 _ fx) at c.in_ok-row-in-Split-2.ensures.row in
    let first = rw (c.get.ensures) at c.in_ok-accepts_side-in-Split.ensures.told in
    IfOk-weaker c.accepts_side-in-Split.result (λ b. IsTrue b → (nets : List Net) → Told nets (rows ++ constraint_of least ∷ []) high) (λ b. IsTrue b → (nets : List Net) → Told nets rows c.args.tree.now)
    (λ b second is nets. subst (Told nets rows) (sym c.in-Split.is)
    (split_closed nets rows u at low high
    (record {
      minus_fits = minus;
      next_fits = next;
      low_told = subst (λ (k : Constraint). Told nets (rows ++ k ∷ []) low) is_most (first c.if-not-branch.false nets);
      high_told = subst (λ (k : Constraint). Told nets (rows ++ k ∷ []) high) is_least (second is nets);
    })))
    (rw (c.get-in-Split.ensures, c.in_ok-accepts_side-in-Split.ensures.rows) at c.accepts_side-in-Split.ensures.told)
