use Rattle.sexpr_print.proofs.Whole.{list_read, lines_read, lines_end}
use Rattle.sexpr_print.proofs.laws.printed_items_are_read.Goals as goal

pub returns : goal.returns
returns c = record { list = list_read; lines = lines_read; all = lines_end }
