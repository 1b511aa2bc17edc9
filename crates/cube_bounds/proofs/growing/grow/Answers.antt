use Rattle.std.proofs.Common.{◌∙◌}
use Rattle.cube_bounds.specs.Growth.{growth_by}
use Rattle.cube_bounds.proofs.Grown.{grown_here}
use Rattle.cube_bounds.proofs.growing.grow.Goals as goal

pub returns-then-at-len : goal.returns-then-at-len
returns-then-at-len c ms e =
    c.set.ensures ∙ grown_here c.args.numbers.now ms c.args.definition.now.variable c.growth_by-growth.result (growth_by ms c.args.definition.now.by) e (c.growth_by-growth.ensures ms (c.as_slice.ensures ∙ e))
