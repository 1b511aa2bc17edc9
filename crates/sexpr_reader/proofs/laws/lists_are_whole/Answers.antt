use Rattle.sexpr_reader.proofs.Growing as growing
use Rattle.sexpr_reader.proofs.laws.lists_are_whole.Goals as goal

pub returns : goal.returns
returns c = growing.list_whole
