use Rattle.std.proofs.Common.{arith}
use Rattle.leaf_solve.proofs.RunLemmas.{characters-more}
use Rattle.leaf_solve.proofs.words.are_within.Goals as goal

pub returns-in_default : goal.returns-in_default
returns-in_default c =
    let more = characters-more c.args.runs.now c.loop-run.run-index c.run-item.result c.loop-run-test.true c.run-item.is in
    let all = more.1 in
    let now = c.loop-run.invariant in
    let past = c.in_default.ensures in
    let size = c.len.ensures in
    ((λ t. absurd (cc)), (λ le. absurd (omega arith)))

pub loop-run-preserved : goal.loop-run-preserved
loop-run-preserved c =
    let more = characters-more c.args.runs.now c.loop-run.run-index c.run-item.result c.loop-run-test.true c.run-item.is in
    let one = more.0 in
    let now = c.loop-run.invariant in
    let rest = c.in-Some.ensures in
    let size = c.len.ensures in
    omega arith
