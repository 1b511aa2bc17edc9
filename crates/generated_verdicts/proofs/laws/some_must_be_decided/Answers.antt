use Rattle.generated_verdicts.proofs.Owed.{must_decide}
use Rattle.generated_verdicts.proofs.laws.some_must_be_decided.Goals as goal

pub returns : goal.returns
returns c = must_decide
