use Rattle.std.proofs.Common.{get_or, ap, ◌∙◌, ◌*◌, min}
use Rattle.cube_bounds.proofs.Multiplied.{carried_once}
use Rattle.cube_bounds.proofs.carrying.carry.Goals as goal

pub returns-then-at-len : goal.returns-then-at-len
returns-then-at-len c ms e w = carried_once c.args.definition.now c.args.numbers.now c.multiply_used.new.numbers ms c.through_states.result c.saturating_mul-k.result w e c.through_states.ensures (c.saturating_mul-k.ensures ∙ ap (λ l. min (c.through_states.result * get_or l c.args.definition.now.variable 0) 18446744073709551615) c.as_slice.ensures) c.multiply_used.ensures
