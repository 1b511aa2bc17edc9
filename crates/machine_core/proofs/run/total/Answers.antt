use Rattle.std.proofs.Common.{◌≡◌, slice_index, ap, subst}
use Rattle.sv_list.specs.Lists.{ok-no_err}
use Rattle.machine_core.specs.Costs.{IsFirstPast}
use Rattle.machine_core.specs.Runs.{run_total}
use Rattle.machine_core.proofs.CostLemmas.{total-step, fits-step, total-done, first-past, memory-not-past}
use Rattle.machine_core.proofs.run.total.Goals as goal

pub returns-in-None-clause-past : goal.returns-in-None-clause-past
returns-in-None-clause-past g c register e =
    let i = c.loop-register.register in
    let same : i ≡ register = cc in
    subst (IsFirstPast (run_total c.args.run.now)) same (first-past c.args.run.now.costs c.args.run.now.last c.requires i
    (slice_index c.as_slice-last-items.result.now i) (ap (λ l. slice_index l i) c.as_slice-last-items.ensures) c.loop-register.invariant.fits
    (rw c.as_slice.ensures at c.in-None.ensures.past))

pub loop-register-preserved : goal.loop-register-preserved
loop-register-preserved g c =
    let i = c.loop-register.register in
    let n = slice_index c.as_slice-last-items.result.now i in
    let at = ap (λ l. slice_index l i) c.as_slice-last-items.ensures in
    let sum = rw c.as_slice.ensures at c.in-Some.ensures.sum in
    record {
      so_far = total-step c.args.run.now.costs c.args.run.now.last c.requires c.loop-register.sum c.push.new.self i c.in-Some.entry n
          (rw c.as_slice-last-items.ensures at c.loop-register-test.true) at c.loop-register.invariant.so_far sum c.in_ok-push-in-Some.ensures.ok;
      fits = fits-step c.args.run.now.costs c.args.run.now.last c.requires i c.in-Some.entry n at c.loop-register.invariant.fits sum c.in-Some.ensures.fits;
    }

pub returns-clause-sum : goal.returns-clause-sum
returns-clause-sum g c =
    total-done c.args.run.now.costs c.args.run.now.last c.requires c.loop-register.sum c.loop-register.register
    (rw c.as_slice-last-items.ensures at c.loop-register-test.false) c.loop-register.invariant.so_far

pub returns-clause-past : goal.returns-clause-past
returns-clause-past g c = λ register e. ok-no_err _ _ e

pub returns-in_err-push-in-Some-clause-past : goal.returns-in_err-push-in-Some-clause-past
returns-in_err-push-in-Some-clause-past g c = λ register e. memory-not-past register _ (rw e at c.from_residual.ensures.1)
