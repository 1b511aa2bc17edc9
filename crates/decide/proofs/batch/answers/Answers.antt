use denote.Exit as exit
use denote.Param.Send.{IsSend, IsSync, Quiet-if, arg_sync, param_sync, view_sync, sendable}
use denote.Param.SendFields.{declared_sync}
use mir.Syntax.{named, of_param}
use Rattle.std.proofs.Crossing.{crosses}
use Rattle.std.specs.contracts.alloc.AllocError as fault
use Rattle.std.specs.contracts.result.Result as result
use Rattle.part_machines.specs.contracts.machines.Machines as machines
use Rattle.cube_search.specs.contracts.answer.CubeAnswer as answer
use Rattle.decide.specs.contracts.cube_job.CubeJob as job
use Rattle.decide.specs.contracts.cube_job.Shared as shared
use Rattle.decide.proofs.Crossing.{cube-sync, term-sync}
use Rattle.decide.proofs.batch.answers.Goals as goal

outcome-send : IsSend answer.the_row → IsSend (result.the_row answer.the_row fault.the_row)
outcome-send h = search (sendable, crosses) depth 20

pub run_jobs-requires-send-J-Out : goal.run_jobs-requires-send-J-Out
run_jobs-requires-send-J-Out g c κs within =
    let r : IsSend (result.the_row answer.the_row fault.the_row) = outcome-send c.answer_crosses.ensures.send in
    record { owned = r.owned; leaving = λ k. Quiet-if (k (of_param 3)) ((result.the_row answer.the_row fault.the_row).exit exit.yes) exit.unseen (r.leaving exit.yes) (λ x w. tt) }

pub run_jobs-requires-sync-J : goal.run_jobs-requires-sync-J
run_jobs-requires-sync-J g c κs within =
    let kept : IsSync machines.the_row = c.machines_cross.ensures.sync in
    let all : IsSync (shared.the_row record { mir = named 4; lft = κs.1.1.1.1.0 }) =
    declared_sync (shared.the_type record { mir = named 4; lft = κs.1.1.1.1.0 })
    (search (sendable, crosses) depth 20, (search (sendable, term-sync) depth 20, (search (sendable, kept) depth 20, tt))) in
    let inside : IsSync (job.TheInside.the_row record { mir = named 4; lft = κs.1.1.1.1.0 }) =
    declared_sync (job.TheInside.the_type record { mir = named 4; lft = κs.1.1.1.1.0 }) (search (sendable, all) depth 20, (cube-sync, tt)) in
    param_sync 1 _ (arg_sync _ exit.no (job.the_row record { mir = named 4; lft = κs.1.1.1.1.0 }) (view_sync (job.TheInside.the_row record { mir = named 4; lft = κs.1.1.1.1.0 }) _ _ _ _ inside))
