use Rattle.cube_search.proofs.Crossing.{answer-send, answer-sync}
use Rattle.cube_search.proofs.answer.answer_crosses.Goals as goal

pub returns-clause-send : goal.returns-clause-send
returns-clause-send c = answer-send

pub returns-clause-sync : goal.returns-clause-sync
returns-clause-sync c = answer-sync
