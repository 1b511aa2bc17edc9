use Rattle.std.proofs.Common.{◌≡◌, ◌++◌, take, length, vec_len}
use Rattle.std.specs.List.{AllZip}
use Rattle.par_phase.specs.Shares.{first_of}
use Rattle.par_phase.proofs.run.join_outcomes.Given as goal

abbrev pub invariant-loop-part : goal.invariant-loop-part
invariant-loop-part g l =
    AllZip g.J.Job.Yields (take (first_of (length l.jobs) (vec_len l.fn.parts) (length l.yielded)) l.jobs) l.all.items
    × (l.fn.parts.items ≡ l.yielded ++ l.part-iterator.rest.items)
