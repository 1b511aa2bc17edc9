use Rattle.sexpr_reader.proofs.Growing.{Begins-more, FaultAfter-more}
use Rattle.sexpr_reader.proofs.laws.more_bytes_may_follow.Goals as goal

pub returns : goal.returns
returns c = record {
  items = λ ended bytes more items rest h. Begins-more ended more bytes items rest h;
  fault = λ ended bytes more items fault h. FaultAfter-more ended more bytes items fault h;
}
