use Rattle.std.proofs.lemmas.Result.{err_from_is_err_and}
use Rattle.literal_forms.proofs.Formed.{less_failed, less_made}
use Rattle.literal_forms.proofs.term_form.TermForm.subtract.Goals as goal

pub returns : goal.returns
returns c us a b n h k = less_made us a b c.args.self.now c.args.other.now n h k c.in_ok-negative.negative c.add.result c.in_ok-negative.ensures c.add.ensures

pub returns-in_err-negative : goal.returns-in_err-negative
returns-in_err-negative c us a b n h k =
    let exit = err_from_is_err_and c.from_residual.result c.from_residual.ensures.1 in
    rw (exit.1, exit.2) (less_failed us a b c.args.self.now c.args.other.now n h k c.in_err-negative.field-0.0 c.in_err-negative.ensures)
