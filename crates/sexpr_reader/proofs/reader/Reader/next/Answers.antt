use Rattle.std.proofs.Common.{false}
use Rattle.sexpr_reader.proofs.Nexts.{answers_of}
use Rattle.sexpr_reader.proofs.reader.Reader.next.Goals as goal

pub returns : goal.returns
returns c = record { answers = λ bytes given s. answers_of c.read_on.new.self bytes given c.read_on.result (c.read_on.ensures.steps false bytes given s) c.read_on.ensures.all c.read_on.ensures.start }
