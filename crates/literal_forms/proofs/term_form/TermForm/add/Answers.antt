use Rattle.std.proofs.lemmas.Result.{err_from_is_err_and}
use Rattle.literal_forms.proofs.Formed.{added_err, added_formed, added_plain}
use Rattle.literal_forms.proofs.term_form.TermForm.add.Goals as goal

pub returns : goal.returns
returns c us a b n h k = (added_plain us a b c.args.self.now c.args.other.now h k c.in_ok-form.ensures.past, added_formed us a b c.args.self.now c.args.other.now c.in_ok-form.form c.both.result h k c.in_ok-form.ensures.value c.both.ensures)

pub returns-in_err-form : goal.returns-in_err-form
returns-in_err-form c us a b n h k =
    let exit = err_from_is_err_and c.from_residual.result c.from_residual.ensures.1 in
    rw (exit.1, exit.2) (added_err us a b c.args.self.now c.args.other.now n h k c.in_err-form.field-0.0 c.in_err-form.ensures.past)
