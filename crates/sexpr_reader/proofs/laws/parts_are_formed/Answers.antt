use Rattle.sexpr_reader.proofs.Formed.{formed_atom, formed_list}
use Rattle.sexpr_reader.proofs.laws.parts_are_formed.Goals as goal

pub returns : goal.returns
returns c = record { atom = formed_atom; list = formed_list }
