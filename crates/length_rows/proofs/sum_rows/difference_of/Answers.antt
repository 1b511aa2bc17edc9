use Rattle.std.proofs.Common.{◌≡◌, ◌+◌, ◌-◌, ℕ, ℤ, pos, ◌+ℤ◌, ◌-ℤ◌, length, map, drop, get_or, subst, refl, arith}
use Rattle.std.specs.Prelude.{IfSome}
use Rattle.sv_linear.specs.Forms.{form_value}
use Rattle.sv_linear.specs.declared.form.Form.{Form}
use Rattle.sv_terms.specs.Meaning.{joined}
use Rattle.flat_cubes.specs.Satisfying.{word_at}
use Rattle.length_rows.proofs.WordLemmas.{piece-added}
use Rattle.length_rows.proofs.sum_rows.difference_of.Goals as goal

pub loop-at-preserved : goal.loop-at-preserved
loop-at-preserved c = λ x words has.
    piece-added x words c.args.base (x c.args.whole) (form_value x (pos 1) c.in-Some.sum) (form_value x (pos 1) c.loop-at.form) c.args.pieces.now (c.loop-at.at - 1) c.loop-at.at (get_or c.args.pieces.now (c.loop-at.at - 1) 0) has (omega arith) (omega arith) refl
    ((subst (λ o. IfSome o (λ (f : Form). (y : ℕ → ℤ) → form_value y (pos 1) f ≡ form_value y (pos 1) c.loop-at.form +ℤ y (c.args.base + get_or c.args.pieces.now (c.loop-at.at - 1) 0))) c.in-Some.is c.in_ok-with_length.ensures) x) (c.loop-at.invariant x words has)

pub returns : goal.returns
returns c = λ x words has. subst (λ k. form_value x (pos 1) c.loop-at.form ≡ pos (length (joined (map (word_at words) (drop k c.args.pieces.now)))) -ℤ x c.args.whole) (let e : c.loop-at.at ≡ 0 = omega arith in e) (c.loop-at.invariant x words has)
