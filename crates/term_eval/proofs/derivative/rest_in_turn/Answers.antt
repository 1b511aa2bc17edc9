use Rattle.std.proofs.lemmas.Result.{IfOk-weaker}
use Rattle.term_eval.proofs.Derives.{short-turn, single-turn}
use Rattle.term_eval.proofs.derivative.rest_in_turn.Goals as goal

pub returns-in-empty : goal.returns-in-empty
returns-in-empty c = short-turn _ _ c.in-empty.len_below c.empty_word.ensures

pub returns-in-len1 : goal.returns-in-len1
returns-in-len1 c = IfOk-weaker c.copy.result _ _ (λ d same. single-turn _ _ d c.in-len1.len_at_least c.in-len1.len_below c.r-item.is same) c.copy.ensures
