use Rattle.literal_forms.specs.Linear.{integer}
use Rattle.literal_forms.proofs.forms.integer_form.Goals as goal

pub returns : goal.returns
returns c = c.coded_form.ensures (integer c.args.name.now) c.in_ok-code.ensures
