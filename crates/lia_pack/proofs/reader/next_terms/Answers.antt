use Rattle.std.proofs.Common.{◌<◌, ◌^◌, sym, subst, arith}
use Rattle.lia_pack.specs.Tables.{term_numbers}
use Rattle.lia_pack.proofs.Reading.{IsRead, read_none, read_next, read_more, read_all}
use Rattle.lia_pack.proofs.reader.next_terms.Goals as goal

pub loop-init : goal.loop-init
loop-init c =
    let left = c.args.reader.now.left.now in
    subst (IsRead (λ t. t.0 < 2 ^ 32) term_numbers c.args.count left left 0) (sym c.new-terms.ensures) (read_none (λ t. t.0 < 2 ^ 32) term_numbers c.args.count left)

pub next_term-requires : goal.next_term-requires
next_term-requires c =
    read_next (λ t. t.0 < 2 ^ 32) term_numbers c.args.count c.args.reader.now.left.now c.loop.reader.left.now c.loop.counter c.loop.terms c.loop.invariant c.loop-test.true c.requires

pub loop-preserved : goal.loop-preserved
loop-preserved c =
    subst (IsRead (λ t. t.0 < 2 ^ 32) term_numbers c.args.count c.args.reader.now.left.now c.next_term.new.reader.left.now _) (sym c.in_ok-push.ensures.ok)
    (read_more (λ t. t.0 < 2 ^ 32) term_numbers c.args.count c.args.reader.now.left.now c.loop.reader.left.now c.next_term.new.reader.left.now c.loop.counter c.loop.terms c.next_term.result c.loop.invariant c.loop-test.true c.next_term.ensures)

pub returns : goal.returns
returns c = λ ts ns e a s.
    read_all (λ t. t.0 < 2 ^ 32) term_numbers c.args.count c.args.reader.now.left.now c.loop.reader.left.now c.loop.counter c.loop.terms c.loop.invariant (omega (arith, c.loop-test.false)) ts ns e a s
