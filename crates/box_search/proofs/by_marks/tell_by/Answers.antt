use Rattle.std.proofs.Common.{◌≡◌, ◌-◌, ◌*◌, length, sym, ap, ◌∙◌, subst, arith}
use Rattle.total_marks.specs.Marks.{HasBit, row_of}
use Rattle.box_search.proofs.ReachLemmas.{no-marked-hit}
use Rattle.box_search.proofs.by_marks.tell_by.Goals as goal

pub returns-in_default-2 : goal.returns-in_default-2
returns-in_default-2 c =
    let layers = c.args.layers.now in
    let marks = c.args.marks.now in
    let states = c.args.size.states in
    let n = length layers.machines.now in
    let rows = c.requires.rows in
    let row : c.args.size.rows - 1 ≡ n * states = omega arith in
    let words : c.in-Some.words.now ≡ row_of marks.words marks.width (n * states) = c.in-Some.ensures.words ∙ ap (row_of marks.words marks.width) row in
    no-marked-hit layers.machines.now layers.integers layers.rows.now layers.region.now marks.words marks.width states c.args.side layers.registers c.requires.one c.requires.closed
    (λ total low high bit good. c.in_ok-total.ensures c.in_default-2.is total low high (subst (λ l. HasBit l total) (sym words) bit) good)
