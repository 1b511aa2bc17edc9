use Rattle.generated_verdicts.proofs.Tabled.{tabled, all_counted}
use Rattle.generated_verdicts.proofs.laws.block_verdicts_are_known.Goals as goal

pub returns : goal.returns
returns c = record { verdict = tabled; all = all_counted }
