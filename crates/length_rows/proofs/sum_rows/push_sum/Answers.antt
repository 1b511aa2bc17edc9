use Rattle.std.proofs.Common.{◌≡◌, ℕ, ℤ, List, pos, ◌-ℤ◌, length, map, subst}
use Rattle.std.specs.Prelude.{IfSome}
use Rattle.sv_terms.specs.Language.{Word}
use Rattle.sv_terms.specs.Meaning.{joined}
use Rattle.sv_linear.specs.Forms.{form_value}
use Rattle.sv_linear.specs.declared.form.Form.{Form}
use Rattle.sv_linear.specs.declared.row.RowKind.TheVariants.{Eq}
use Rattle.flat_cubes.specs.Satisfying.{word_at}
use Rattle.length_rows.specs.Lengths.{HasLengths}
use Rattle.length_rows.proofs.RowLemmas.{equation-met, push-met}
use Rattle.length_rows.proofs.sum_rows.push_sum.Goals as goal

pub returns-in_ok-push-in-Some : goal.returns-in_ok-push-in-Some
returns-in_ok-push-in-Some c = λ x words e has h.
    let value = subst (λ o. IfSome o (λ (f : Form). (x : ℕ → ℤ) (words : List Word) → HasLengths c.args.base x words → form_value x (pos 1) f ≡ pos (length (joined (map (word_at words) c.args.pieces.now))) -ℤ x c.args.whole)) c.in-Some.is c.in_ok-difference_of.ensures in
    push-met x c.args.rows.now c.push.new.self (record { form = c.in-Some.form; kind = Eq }) c.in_ok-push-in-Some.ensures.ok
    (equation-met x c.in-Some.form (length (joined (map (word_at words) c.args.pieces.now))) (x c.args.whole) (value x words has) e) h
