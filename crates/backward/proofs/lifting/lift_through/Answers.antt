use Rattle.std.proofs.Common.{◌≡◌, Some, slice_get, sym, subst}
use Rattle.sv_terms.specs.Transduction.{Pairs}
use Rattle.backward.specs.Families.{HasMachine}
use Rattle.backward.specs.Runs.{Runs, run_words}
use Rattle.backward.proofs.MadeLemmas.{passed-with, passed-same, reader-run, run-found, run-below, target-below, passed-back, passed-pairs}
use Rattle.backward.proofs.lifting.lift_through.Goals as goal

pub machine_at-target-requires : goal.machine_at-target-requires
machine_at-target-requires c = let p = c.requires.passed.1 in (p.target, subst (λ l. HasMachine l c.args.x p.target) (sym c.as_slice.ensures) p.machine)

pub machine_at-reader-requires : goal.machine_at-reader-requires
machine_at-reader-requires c = let p = c.requires.passed.1 in (p.reader, subst (λ l. HasMachine l c.args.v p.reader) (sym c.as_slice-2.ensures) p.reads)

pub run_at-run-requires : goal.run_at-run-requires
run_at-run-requires c =
    let hg = subst (λ l. HasMachine l c.args.x c.machine_at-target.result.now) c.as_slice.ensures c.machine_at-target.ensures in
    let hk = subst (λ l. HasMachine l c.args.v c.machine_at-reader.result.now) c.as_slice-2.ensures c.machine_at-reader.ensures in
    let found = reader-run (passed-with c.requires.passed.1 c.in-Through.is hg hk) c.args.runs c.requires.runs in
    (found.0, subst (λ (l : Runs). slice_get l c.args.v ≡ Some (Some found.0)) (sym c.as_slice-3.ensures) found.1)

pub lift_read-requires-clause-pre : goal.lift_read-requires-clause-pre
lift_read-requires-clause-pre c =
    let hg = subst (λ l. HasMachine l c.args.x c.machine_at-target.result.now) c.as_slice.ensures c.machine_at-target.ensures in
    let hk = subst (λ l. HasMachine l c.args.v c.machine_at-reader.result.now) c.as_slice-2.ensures c.machine_at-reader.ensures in
    (passed-with c.requires.passed.1 c.in-Through.is hg hk).pre_kept

pub lift_read-requires-clause-kept : goal.lift_read-requires-clause-kept
lift_read-requires-clause-kept c =
    let hg = subst (λ l. HasMachine l c.args.x c.machine_at-target.result.now) c.as_slice.ensures c.machine_at-target.ensures in
    let hk = subst (λ l. HasMachine l c.args.v c.machine_at-reader.result.now) c.as_slice-2.ensures c.machine_at-reader.ensures in
    (passed-with c.requires.passed.1 c.in-Through.is hg hk).kept

pub lift_read-requires-clause-run : goal.lift_read-requires-clause-run
lift_read-requires-clause-run c =
    let hg = subst (λ l. HasMachine l c.args.x c.machine_at-target.result.now) c.as_slice.ensures c.machine_at-target.ensures in
    let hk = subst (λ l. HasMachine l c.args.v c.machine_at-reader.result.now) c.as_slice-2.ensures c.machine_at-reader.ensures in
    run-found (passed-with c.requires.passed.1 c.in-Through.is hg hk) c.args.runs c.requires.runs c.run_at-run.result.now
    (subst (λ (l : Runs). slice_get l c.args.v ≡ Some (Some c.run_at-run.result.now)) c.as_slice-3.ensures c.run_at-run.ensures)

pub put_runs-requires-clause-first : goal.put_runs-requires-clause-first
put_runs-requires-clause-first c =
    let hg = subst (λ l. HasMachine l c.args.x c.machine_at-target.result.now) c.as_slice.ensures c.machine_at-target.ensures in
    let hk = subst (λ l. HasMachine l c.args.v c.machine_at-reader.result.now) c.as_slice-2.ensures c.machine_at-reader.ensures in
    run-below (passed-with c.requires.passed.1 c.in-Through.is hg hk) c.args.runs c.requires.runs

pub put_runs-requires-clause-second : goal.put_runs-requires-clause-second
put_runs-requires-clause-second c =
    let hg = subst (λ l. HasMachine l c.args.x c.machine_at-target.result.now) c.as_slice.ensures c.machine_at-target.ensures in
    let hk = subst (λ l. HasMachine l c.args.v c.machine_at-reader.result.now) c.as_slice-2.ensures c.machine_at-reader.ensures in
    target-below (passed-with c.requires.passed.1 c.in-Through.is hg hk) c.args.runs c.requires.runs

pub returns-clause-back : goal.returns-clause-back
returns-clause-back c =
    let hg = subst (λ l. HasMachine l c.args.x c.machine_at-target.result.now) c.as_slice.ensures c.machine_at-target.ensures in
    let hk = subst (λ l. HasMachine l c.args.v c.machine_at-reader.result.now) c.as_slice-2.ensures c.machine_at-reader.ensures in
    passed-back (passed-with c.requires.passed.1 c.in-Through.is hg hk) c.args.runs c.requires.runs c.run_at-run.result.now
    (subst (λ (l : Runs). slice_get l c.args.v ≡ Some (Some c.run_at-run.result.now)) c.as_slice-3.ensures c.run_at-run.ensures)
    c.in_ok-lifted.lifted c.in_ok-lifted.ensures c.put_runs.result c.put_runs.ensures

pub returns-clause-defined : goal.returns-clause-defined
returns-clause-defined c t passed =
    let hg = subst (λ l. HasMachine l c.args.x c.machine_at-target.result.now) c.as_slice.ensures c.machine_at-target.ensures in
    let hk = subst (λ l. HasMachine l c.args.v c.machine_at-reader.result.now) c.as_slice-2.ensures c.machine_at-reader.ensures in
    let new = c.put_runs.result in
    subst (λ u. Pairs u (run_words new c.args.v) (run_words new c.args.x)) (passed-same passed c.in-Through.is)
    (passed-pairs (passed-with c.requires.passed.1 c.in-Through.is hg hk) c.args.runs c.requires.runs c.run_at-run.result.now
    (subst (λ (l : Runs). slice_get l c.args.v ≡ Some (Some c.run_at-run.result.now)) c.as_slice-3.ensures c.run_at-run.ensures)
    c.in_ok-lifted.lifted c.in_ok-lifted.ensures new c.put_runs.ensures)
