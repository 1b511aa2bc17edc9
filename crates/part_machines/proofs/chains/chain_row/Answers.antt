use Rattle.std.proofs.Common.{◌+◌, ◌∷◌, ◌++◌, [], ap, ◌∙◌, arith}
use Rattle.part_machines.specs.Tables.{leg, row_of}
use Rattle.part_machines.proofs.chains.chain_row.Goals as goal

pub overflow_add-range : goal.overflow_add-range
overflow_add-range c = omega (arith, c.requires.range)

pub overflow_add-at : goal.overflow_add-at
overflow_add-at c = omega (arith, c.requires.next, c.ranges.lost.fits)

pub returns : goal.returns
returns c =
    let first = c.in_ok-push.ensures.ok ∙ ap (λ l. l ++ leg c.args.range.0 c.args.lost ∷ []) c.new-legs.ensures in
    ap (λ l. row_of l c.args.lost) (c.in_ok-push-2.ensures.ok ∙ ap (λ l. l ++ leg (c.args.range.1 + 1) (c.args.at + 1) ∷ []) first)
