use Rattle.std.proofs.Common.{◌≡◌, drop}
use Rattle.term_eval.specs.Evaluation.{steps_from}
use Rattle.term_eval.specs.Steps.{step_of}
use Rattle.term_eval.proofs.sums.FoldStep.take_all.Given as goal

-- the steps that are left, from what there is
abbrev pub invariant-loop-other : goal.invariant-loop-other
invariant-loop-other l = steps_from (step_of l.self) l.first l.others ≡ steps_from (step_of l.self) l.total (drop l.other-index l.others)
