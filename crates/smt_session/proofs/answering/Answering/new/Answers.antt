use Rattle.smt_session.proofs.Counts.{nothing_waits}
use Rattle.smt_session.proofs.Turns.{nothing_written}
use Rattle.std.proofs.Common.{refl, []}
use Rattle.smt_session.proofs.answering.Answering.new.Goals as goal

pub returns-clause-waits : goal.returns-clause-waits
returns-clause-waits c = λ output. record {
  answering = record { items = []; stands = c.new.ensures.stands; written = nothing_written c.new-2.result c.new-3.result output c.new-2.ensures c.new-3.ensures; fed = refl };
  waits = nothing_waits;
}
