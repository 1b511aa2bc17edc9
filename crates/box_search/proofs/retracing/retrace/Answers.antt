use Rattle.std.proofs.Common.{sym, subst}
use Rattle.std.specs.Prelude.{IfSome}
use Rattle.box_layers.specs.Cuts.{IsRunOfAll}
use Rattle.box_search.proofs.TraceLemmas.{told-some}
use Rattle.box_search.proofs.retracing.retrace.Goals as goal

pub returns : goal.returns
returns c =
    subst (λ o. IfSome o (IsRunOfAll c.args.layers.now.machines.now c.args.layers.now.rows.now c.args.layers.now.region.now)) (sym c.then_some.ensures)
    (told-some (IsRunOfAll c.args.layers.now.machines.now c.args.layers.now.rows.now c.args.layers.now.region.now) c.in_ok-ends.ends c.follow.new.run c.in_ok-ends.ensures)
