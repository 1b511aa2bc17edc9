use Rattle.term_weight.proofs.Telling.{tells-alike, total-Apply, total-InRe, total-Related}
use Rattle.term_weight.proofs.summary.of_term.Goals as goal

pub returns-in-Apply-clause-tells : goal.returns-in-Apply-clause-tells
returns-in-Apply-clause-tells c =
    tells-alike c.args.places.now c.args.parameters c.function.result _ _ (total-Apply c.args.places.now c.args.term.now c.sort.result c.in-Apply.op c.in-Apply.field-1 c.in-Apply.is c.sort.ensures) c.function.ensures.tells

pub returns-in-InRe-clause-tells : goal.returns-in-InRe-clause-tells
returns-in-InRe-clause-tells c =
    tells-alike c.args.places.now c.args.parameters c.function-in-InRe.result _ _ (total-InRe c.args.places.now c.args.term.now c.in-InRe.field-0 c.in-InRe.field-1 c.in-InRe.is) c.function-in-InRe.ensures.tells

pub returns-in-Related-clause-tells : goal.returns-in-Related-clause-tells
returns-in-Related-clause-tells c =
    tells-alike c.args.places.now c.args.parameters c.function-in-Related.result _ _ (total-Related c.args.places.now c.args.term.now c.in-Related.field-0 c.in-Related.field-1 c.in-Related.field-2 c.in-Related.is) c.function-in-Related.ensures.tells
