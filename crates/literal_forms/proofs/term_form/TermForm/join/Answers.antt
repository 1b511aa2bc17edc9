use Rattle.std.proofs.Common.{subst, sym}
use Rattle.literal_forms.specs.Numbered.{IsFormOrPast, joint_of, joint_steps}
use Rattle.literal_forms.proofs.term_form.TermForm.join.Goals as goal

pub returns-in-Product : goal.returns-in-Product
returns-in-Product c us a b n h k = subst (λ j. IsFormOrPast us (joint_of j a b) (joint_steps j a b) c.multiply.result) (sym c.in-Product.is) (c.multiply.ensures us a b n h k)
