use Rattle.literal_forms.specs.Linear.{other}
use Rattle.literal_forms.specs.Shapes.{seen}
use Rattle.literal_forms.proofs.forms.whole_form.Goals as goal

pub returns : goal.returns
returns c = c.coded_form.ensures (other (seen c.args.term.now)) c.in_ok-code.ensures
