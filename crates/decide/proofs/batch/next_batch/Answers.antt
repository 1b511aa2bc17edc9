use Rattle.std.proofs.Common.{◌+◌, [], ◌∷◌, length, length-append, inr, refl, sym, ap, ◌∙◌, subst, arith}
use Rattle.std.specs.List.{AllByRecursion}
use Rattle.decide.specs.Batches.{AreJobsOf}
use Rattle.decide.specs.Jobs.{IsAskedCube}
use Rattle.decide.proofs.Going.{one-more-job, is-none, is-some}
use Rattle.decide.proofs.batch.next_batch.Goals as goal

pub returns-in-None-clause-taken : goal.returns-in-None-clause-taken
returns-in-None-clause-taken c =
    let e = is-none c.loop.cubes c.next.new.self c.in_ok-next.field-0 c.in-None.is c.in_ok-next.ensures.next in
    subst (AreJobsOf c.args.shared.now.terms.now c.loop.jobs c.args.cubes.now) (e.0 ∙ sym e.1) c.loop.invariant.0

pub returns-in-None-clause-size : goal.returns-in-None-clause-size
returns-in-None-clause-size c =
    let e = is-none c.loop.cubes c.next.new.self c.in_ok-next.field-0 c.in-None.is c.in_ok-next.ensures.next in
    inr (e.1, omega (arith, c.loop.invariant.1, c.loop-test.true))

pub loop-preserved : goal.loop-preserved
loop-preserved c =
    let e = is-some c.loop.cubes c.next.new.self c.in_ok-next.field-0 c.in-Some.cube c.in-Some.is c.in_ok-next.ensures.next in
    let p = c.in_ok-push-in-Some.ensures.ok in (
      subst (λ js. AreJobsOf c.args.shared.now.terms.now js c.args.cubes.now c.next.new.self) (sym p)
          (one-more-job c.args.shared.now.terms.now c.loop.jobs (c.args.shared.now.terms.now, c.in-Some.cube) c.in-Some.cube c.args.cubes.now c.loop.cubes c.next.new.self c.loop.invariant.0 e refl refl),
      ap length p ∙ length-append c.loop.jobs ((c.args.shared.now.terms.now, c.in-Some.cube) ∷ []) ∙ ap (λ n. n + 1) c.loop.invariant.1,
      (subst (AllByRecursion (IsAskedCube c.args.shared.now.terms.now)) e c.loop.invariant.2).1,
    )
