use Rattle.std.proofs.Common.{◌≡◌, ◌+◌, suc, arith, map, [], ◌∷◌}
use Rattle.machine_core.specs.Costs.{add_costs}
use Rattle.box_layers.specs.Layers.{AreWithinGreatest}
use Rattle.box_layers.specs.Moving.{end_moves}
use Rattle.box_layers.proofs.MoveLemmas.{one-end-unpaid, end-pushed, nothing-pushed}
use Rattle.box_layers.proofs.moving.push_end.Goals as goal

pub returns-in_default : goal.returns-in_default
returns-in_default c =
    let none : AreWithinGreatest (add_costs c.args.at.now.spent c.args.cost.now) (map (λ s. s.1) c.args.sides.now) → ⊥ = rw (c.as_slice.ensures, c.as_slice-2.ensures, c.in_default.is) at c.in_ok-spent.ensures in
    nothing-pushed (map (λ s. s.1) c.args.sides.now) c.args.at.now c.args.all.now (end_moves (map (λ s. s.1) c.args.sides.now) c.args.on.now c.args.at.now (c.args.cost.now ∷ []))
    (one-end-unpaid (map (λ s. s.1) c.args.sides.now) c.args.at.now c.args.on.now c.args.cost.now none)

pub returns : goal.returns
returns c =
    end-pushed (map (λ s. s.1) c.args.sides.now) c.args.at.now c.args.on.now c.args.cost.now c.args.all.now c.push.new.self c.in_ok-on.on c.in_ok-paid.paid c.in-Some.spent _
    (rw (c.as_slice.ensures, c.as_slice-2.ensures, c.in-Some.is) at c.in_ok-spent.ensures) c.in_ok-on.ensures c.in_ok-paid.ensures (let e : c.args.at.now.machine + 1 ≡ suc c.args.at.now.machine = omega arith in e) c.in_ok-push.ensures.ok
