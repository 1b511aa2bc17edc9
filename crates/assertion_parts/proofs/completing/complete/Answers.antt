use Rattle.std.proofs.Common.{[], sym, subst, arith, take_all}
use Rattle.sv_terms.specs.Truth.{clear_of}
use Rattle.assertion_parts.specs.Filling.{FillsAll}
use Rattle.assertion_parts.proofs.Fillings.{clear-more, filled}
use Rattle.assertion_parts.proofs.completing.complete.Goals as goal

pub loop-term-preserved : goal.loop-term-preserved
loop-term-preserved c =
    clear-more c.args.given.now [] c.loop-term.full c.fill_clear.new.full c.args.terms.now c.loop-term.term-index c.term-item.result c.term-item.result c.loop-term-test.true (sym c.term-item.is) c.loop-term.invariant c.in_ok-fill_clear.ensures

pub returns : goal.returns
returns c =
    filled c.args.given.now (clear_of c.args.terms.now) c.loop-term.full
    (subst (λ l. FillsAll c.args.given.now (clear_of l) [] c.loop-term.full) (take_all c.loop-term.term-index c.args.terms.now (omega (arith, c.loop-term-test.false))) c.loop-term.invariant)
