use Rattle.std.proofs.Common.{Err, rules, subst, sym, ◌≡◌}
use Rattle.literal_forms.specs.Linear.{linear, steps}
use Rattle.literal_forms.specs.Past.{IsPlainExactly, equality_steps}
use Rattle.literal_forms.specs.Shapes.{seen}
use Rattle.literal_forms.specs.declared.differences.Differences.{Differences}
use Rattle.literal_forms.proofs.Checked.{differences_made, err_plain, first_past, less_fault, more_fault, second_past}
use Rattle.literal_forms.proofs.differences.subtract.Goals as goal

pub returns-in_err-first-clause-steps : goal.returns-in_err-first-clause-steps
returns-in_err-first-clause-steps c =
    let e : c.from_residual.result ≡ Err c.in_err-first.field-0.0 = search rules in
    subst (IsPlainExactly {X = Differences} (equality_steps (seen c.args.left.now) (seen c.args.right.now))) (sym e)
    (err_plain Differences c.term_form.new.unknowns.codes (linear (seen c.args.left.now)) (steps (seen c.args.left.now)) (equality_steps (seen c.args.left.now) (seen c.args.right.now)) c.in_err-first.field-0.0 (first_past (seen c.args.left.now) (seen c.args.right.now)) c.in_err-first.ensures.form)

pub returns-in_err-second-clause-steps : goal.returns-in_err-second-clause-steps
returns-in_err-second-clause-steps c =
    let e : c.from_residual-in_err-second.result ≡ Err c.in_err-second.field-0.0 = search rules in
    subst (IsPlainExactly {X = Differences} (equality_steps (seen c.args.left.now) (seen c.args.right.now))) (sym e)
    (err_plain Differences c.term_form-2.new.unknowns.codes (linear (seen c.args.right.now)) (steps (seen c.args.right.now)) (equality_steps (seen c.args.left.now) (seen c.args.right.now)) c.in_err-second.field-0.0 (second_past (seen c.args.left.now) (seen c.args.right.now)) c.in_err-second.ensures.form)

pub returns-in_err-less-clause-steps : goal.returns-in_err-less-clause-steps
returns-in_err-less-clause-steps c =
    let e : c.from_residual-in_err-less.result ≡ Err c.in_err-less.field-0.0 = search rules in
    subst (IsPlainExactly {X = Differences} (equality_steps (seen c.args.left.now) (seen c.args.right.now))) (sym e)
    (less_fault Differences (seen c.args.left.now) (seen c.args.right.now) c.term_form.new.unknowns.codes c.term_form-2.new.unknowns.codes c.in_ok-first.first c.in_ok-second.second c.in_ok-second.ensures.more c.in_ok-first.ensures.form.1 c.in_ok-second.ensures.form.1 c.in_err-less.field-0.0 c.in_err-less.ensures)

pub returns-in_err-more-clause-steps : goal.returns-in_err-more-clause-steps
returns-in_err-more-clause-steps c =
    let e : c.from_residual-in_err-more.result ≡ Err c.in_err-more.field-0.0 = search rules in
    subst (IsPlainExactly {X = Differences} (equality_steps (seen c.args.left.now) (seen c.args.right.now))) (sym e)
    (more_fault Differences (seen c.args.left.now) (seen c.args.right.now) c.term_form.new.unknowns.codes c.term_form-2.new.unknowns.codes c.in_ok-first.first c.in_ok-second.second c.in_ok-second.ensures.more c.in_ok-first.ensures.form.1 c.in_ok-second.ensures.form.1 c.in_ok-less.less c.in_err-more.field-0.0 c.in_ok-less.ensures c.in_err-more.ensures)

pub returns-clause-steps : goal.returns-clause-steps
returns-clause-steps c =
    (differences_made (seen c.args.left.now) (seen c.args.right.now) c.term_form.new.unknowns.codes c.term_form-2.new.unknowns.codes c.in_ok-first.first c.in_ok-second.second c.in_ok-second.ensures.more c.in_ok-first.ensures.form.1 c.in_ok-second.ensures.form.1
    c.in_ok-less.less c.in_ok-more.more c.in_ok-first.ensures.form.0 c.in_ok-second.ensures.form.0 c.in_ok-less.ensures c.in_ok-more.ensures).0

pub returns-clause-forms : goal.returns-clause-forms
returns-clause-forms c =
    (differences_made (seen c.args.left.now) (seen c.args.right.now) c.term_form.new.unknowns.codes c.term_form-2.new.unknowns.codes c.in_ok-first.first c.in_ok-second.second c.in_ok-second.ensures.more c.in_ok-first.ensures.form.1 c.in_ok-second.ensures.form.1
    c.in_ok-less.less c.in_ok-more.more c.in_ok-first.ensures.form.0 c.in_ok-second.ensures.form.0 c.in_ok-less.ensures c.in_ok-more.ensures).1
