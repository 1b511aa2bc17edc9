use Rattle.std.proofs.Common.{sym, subst, arith}
use Rattle.lia_pack.specs.Tables.{standing_numbers}
use Rattle.lia_pack.proofs.Reading.{IsRead, read_none, read_next, read_more, read_all, all_unit}
use Rattle.lia_pack.proofs.reader.next_lines.Goals as goal

pub loop-init : goal.loop-init
loop-init c =
    let left = c.args.reader.now.left.now in
    subst (IsRead (λ _. Unit {0}) standing_numbers c.args.count left left 0) (sym c.new-lines.ensures) (read_none (λ _. Unit {0}) standing_numbers c.args.count left)

pub next_standing-requires : goal.next_standing-requires
next_standing-requires c =
    let w = c.requires in
    let k = read_next (λ _. Unit {0}) standing_numbers c.args.count c.args.reader.now.left.now c.loop.reader.left.now c.loop.counter c.loop.lines c.loop.invariant c.loop-test.true (w.0, (w.1.0, (w.1.1.0, (all_unit w.0, w.1.1.1)))) in
    (k.0, (k.1.0, k.1.1.1))

pub loop-preserved : goal.loop-preserved
loop-preserved c =
    subst (IsRead (λ _. Unit {0}) standing_numbers c.args.count c.args.reader.now.left.now c.next_standing.new.reader.left.now _) (sym c.in_ok-push.ensures.ok)
    (read_more (λ _. Unit {0}) standing_numbers c.args.count c.args.reader.now.left.now c.loop.reader.left.now c.next_standing.new.reader.left.now c.loop.counter c.loop.lines c.in_ok-next_standing.field-0 c.loop.invariant c.loop-test.true (λ x ns q s. c.in_ok-next_standing.ensures x ns s))

pub returns : goal.returns
returns c = λ xs ns e s.
    read_all (λ _. Unit {0}) standing_numbers c.args.count c.args.reader.now.left.now c.loop.reader.left.now c.loop.counter c.loop.lines c.loop.invariant (omega (arith, c.loop-test.false)) xs ns e (all_unit xs) s
