use Rattle.sexpr_reader.proofs.OneFault.{one_fault, no_fault_end}
use Rattle.sexpr_reader.proofs.OneReading as read
use Rattle.sexpr_reader.proofs.laws.reading_is_unique.Goals as goal

pub returns : goal.returns
returns c = record {
  items = λ ended bytes these those rest after h g. read.one_reading ended these those rest after bytes h g;
  fault = one_fault;
  done = no_fault_end;
}
