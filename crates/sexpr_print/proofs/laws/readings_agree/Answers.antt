use Rattle.sexpr_print.proofs.Whole.{one_goes_on, all_read}
use Rattle.sexpr_print.proofs.laws.readings_agree.Goals as goal

pub returns : goal.returns
returns c = record { further = one_goes_on; all = all_read }
