use Rattle.length_rows.proofs.WordLemmas.{whole-length}
use Rattle.length_rows.proofs.sum_rows.push_definition.Goals as goal

pub returns-in_ok-push_sum-in-Concat : goal.returns-in_ok-push_sum-in-Concat
returns-in_ok-push_sum-in-Concat c = λ x words d has h.
    c.in_ok-push_sum-in-Concat.ensures x words (whole-length x words c.args.base c.in-Some.whole c.args.definition.now c.in-Concat.pieces c.as_slice.result.now has c.in-Some.ensures.1 c.in-Concat.is c.as_slice.ensures d) has h
