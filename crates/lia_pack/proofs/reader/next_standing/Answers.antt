use Rattle.std.proofs.Common.{ap, sym, ◌∙◌, arith}
use Rattle.lia_tableau.specs.declared.standing.Standing.TheVariants.{Basic}
use Rattle.lia_pack.proofs.Unpacking.{standing_none, standing_row}
use Rattle.lia_pack.proofs.reader.next_standing.Goals as goal

pub returns-then-number-eq0 : goal.returns-then-number-eq0
returns-then-number-eq0 c = λ s ns say.
    standing_none s ns c.args.reader.now.left.now c.next_number-number.new.reader.left.now c.next_number-number.result (omega (arith, c.if-number-eq0.true)) c.next_number-number.ensures say

pub next_form-requires : goal.next_form-requires
next_form-requires c =
    let k = standing_row c.requires.0 c.requires.1.0 c.args.reader.now.left.now c.next_number-number.new.reader.left.now c.next_number-number.result (omega (arith, c.if-number-eq0.false)) c.next_number-number.ensures c.requires.1.1 in
    (k.0, (c.requires.1.0, (sym (c.kind_of_number.ensures k.0.kind k.1.1.0), k.1.1.1)))

pub returns : goal.returns
returns c = λ s ns say.
    let k = standing_row s ns c.args.reader.now.left.now c.next_number-number.new.reader.left.now c.next_number-number.result (omega (arith, c.if-number-eq0.false)) c.next_number-number.ensures say in
    let w = c.in_ok-next_form.ensures k.0 ns (sym (c.kind_of_number.ensures k.0.kind k.1.1.0)) k.1.1.1 in
    (ap Basic w.0 ∙ sym k.1.0, w.1)
