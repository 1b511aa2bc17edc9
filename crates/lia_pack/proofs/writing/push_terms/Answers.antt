use Rattle.std.proofs.Common.{pos}
use Rattle.lia_pack.specs.Tables.{term_numbers}
use Rattle.lia_pack.proofs.Written.{written_at}
use Rattle.lia_pack.proofs.writing.push_terms.Goals as goal

pub loop-term-preserved : goal.loop-term-preserved
loop-term-preserved c =
    written_at term_numbers c.args.terms.now c.loop-term.term-index (0, pos 0) c.args.bytes.now c.loop-term.bytes c.push_term.new.bytes c.loop-term-test.true c.loop-term.invariant c.in_ok-push_term.ensures
