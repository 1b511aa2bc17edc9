use Rattle.std.proofs.Common.{◌≡◌, length}
use Rattle.std.specs.List.{AllByRecursion}
use Rattle.decide.specs.Batches.{AreJobsOf}
use Rattle.decide.specs.Jobs.{IsAskedCube}
use Rattle.decide.proofs.batch.next_batch.Given as goal

abbrev pub invariant-loop : goal.invariant-loop
invariant-loop l = AreJobsOf l.shared.terms.now l.jobs l.fn.cubes l.cubes × (length l.jobs ≡ l.counter) × AllByRecursion (IsAskedCube l.shared.terms.now) l.cubes
