use Rattle.std.proofs.Common.{◌∙◌, Ok, ap, sym, subst, IfOk, Result}
use Rattle.std.specs.Option.{unwrap_or}
use Rattle.std.specs.declared.alloc.AllocError.{AllocError}
use Rattle.leaf_solve.specs.Answers.{IsDecided}
use Rattle.leaf_solve.specs.Steps.{AnswersQuestion, HoldsNothing}
use Rattle.leaf_solve.specs.declared.leaf_answer.LeafAnswer.{LeafAnswer}
use Rattle.leaf_solve.specs.declared.leaf_answer.LeafAnswer.TheVariants.{Open}
use Rattle.leaf_solve.proofs.AnswerLemmas.{told-or, told-decided}
use Rattle.leaf_solve.proofs.rows.in_region.Goals as goal

pub returns-clause-answer : goal.returns-clause-answer
returns-clause-answer c =
    subst (λ (r : Result LeafAnswer AllocError). IfOk r (AnswersQuestion c.args.question.now)) (sym (c.unwrap_or.ensures ∙ ap (λ o. unwrap_or o (Ok (Open c.args.bounded c.args.evidence))) c.transpose-told.ensures))
    (told-or (HoldsNothing c.args.question.now) (AnswersQuestion c.args.question.now) c.search_region.result (Open c.args.bounded c.args.evidence) c.search_region.ensures.answer (λ none. record {
      inhabited = c.requires.inhabited;
      has_rows = c.requires.has_rows;
      not_small = none.0;
      none_in_region = none.1;
      is_system = c.requires.bounded;
      evidence_holds = c.requires.gave_up;
    }))

pub returns-clause-decided : goal.returns-clause-decided
returns-clause-decided c = λ small.
    subst (λ (r : Result LeafAnswer AllocError). IfOk r IsDecided) (sym (c.unwrap_or.ensures ∙ ap (λ o. unwrap_or o (Ok (Open c.args.bounded c.args.evidence))) c.transpose-told.ensures))
    (told-decided (HoldsNothing c.args.question.now) (AnswersQuestion c.args.question.now) c.search_region.result (Open c.args.bounded c.args.evidence) c.search_region.ensures.answer c.search_region.ensures.decided (λ none. let n = none.0 in cc))
