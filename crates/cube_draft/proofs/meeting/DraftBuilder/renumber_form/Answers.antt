use Rattle.std.proofs.Common.{arith, rules}
use Rattle.std.proofs.lemmas.Int.{to_z-of_z}
use Rattle.std.specs.Int.{w128}
use Rattle.cube_draft.proofs.Inserted.{entry_nonzero, sum_step}
use Rattle.cube_draft.proofs.meeting.DraftBuilder.renumber_form.Goals as goal

pub put-requires-clause-some : goal.put-requires-clause-some
put-requires-clause-some c = entry_nonzero c.as_slice.result.now c.args.form.now.coefficients c.loop-i.i _ c.as_slice.ensures c.args.form.now.ascending (omega arith) (to_z-of_z w128 _ (search rules))

pub loop-i-preserved : goal.loop-i-preserved
loop-i-preserved c = record {
  ascending = c.in_ok-put.ensures.ascending;
  sums = λ n. sum_step c.args.self.now.numbers c.args.unknowns.now.codes n c.as_slice.result.now c.args.form.now.coefficients c.loop-i.i c.in_ok-number.number _ _ _ c.as_slice.ensures (omega arith) (to_z-of_z w128 _ (search rules)) c.in_ok-number.ensures (c.in_ok-put.ensures.put n) (c.loop-i.invariant.sums n);
}
