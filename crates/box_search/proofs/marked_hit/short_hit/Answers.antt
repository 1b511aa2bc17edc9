use Rattle.std.proofs.Common.{sym, ◌∙◌}
use Rattle.box_search.proofs.TraceLemmas.{counted-hit}
use Rattle.box_search.proofs.marked_hit.short_hit.Goals as goal

pub returns : goal.returns
returns c =
    let layers = c.args.layers.now in
    counted-hit layers.machines.now layers.integers layers.rows.now layers.region.now c.args.side c.in_ok-hit_of.field-0.runs c.in_ok-hit_of.field-0.integers c.len.result c.requires.one
    (c.in_ok-hit_of.ensures.size ∙ sym c.len.ensures) (c.are_few.ensures c.if-not-are_few.false) (c.in_ok-hit_of.ensures.hit c.requires.some)
