use Rattle.std.proofs.Common.{arith, subst, sym}
use Rattle.flat_cubes.specs.Satisfying.{MeetsParts, word_at}
use Rattle.flat_cubes.specs.declared.variable.Variable.{Variable}
use Rattle.length_rows.proofs.RowLemmas.{zip-at}
use Rattle.length_rows.proofs.part_rows.push_variables.Goals as goal

pub loop-at-preserved : goal.loop-at-preserved
loop-at-preserved c = λ x words z has h.
    c.in_ok-push_variable.ensures x (word_at words c.loop-at.at) (subst (λ (v : Variable). MeetsParts v (word_at words c.loop-at.at)) (sym c.index-variables-at.is) (zip-at c.args.variables.now words c.loop-at.at c.index-variables-at.result z (omega arith))) (has c.loop-at.at) (c.loop-at.invariant x words z has h)
