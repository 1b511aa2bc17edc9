use Rattle.literal_forms.proofs.Formed.{unknown_formed}
use Rattle.literal_forms.proofs.term_form.TermForm.unknown.Goals as goal

pub returns : goal.returns
returns c us u p l = unknown_formed us u c.args.number c.in_ok-form.form p l c.in_ok-form.ensures.coefficients c.in_ok-form.ensures.constant
