use Rattle.machine_meet.specs.Products.{meet_width}
use Rattle.machine_meet.proofs.MeetBounds.{meet-runs, meet-paths}
use Rattle.machine_meet.proofs.laws.costs_of_meets_are_bounded.Goals as goal

pub returns-clause-runs : goal.returns-clause-runs
returns-clause-runs g c register slopes bases h =
    let parts = c.args.meet.now.parts.now in
    meet-runs g.P.Machine.is_state g.P.Machine.steps_to (meet_width g.P.Machine.width parts) register g.P.Machine.ends_with parts slopes bases h

pub returns-clause-paths : goal.returns-clause-paths
returns-clause-paths g c register slopes bases h =
    let parts = c.args.meet.now.parts.now in
    meet-paths g.P.Machine.is_state g.P.Machine.steps_to (meet_width g.P.Machine.width parts) register g.P.Machine.width parts c.args.meet.now.agree slopes bases h
