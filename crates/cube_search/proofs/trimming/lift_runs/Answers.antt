use Rattle.std.proofs.Common.{◌+◌, sym, subst, arith, take}
use Rattle.cube_search.specs.Leaves.{AreLifted}
use Rattle.cube_search.proofs.TrimLemmas.{lifted-push, lifted-whole, run-at, runs-long}
use Rattle.cube_search.proofs.trimming.lift_runs.Goals as goal

pub bounds-trims-place : goal.bounds-trims-place
bounds-trims-place c =
    let long = runs-long c.args.trims.now c.args.runs.now c.requires in
    let lt = c.loop-place-test.true in
    omega (arith, long, lt)

pub lift-requires : goal.lift-requires
lift-requires c =
    let long = runs-long c.args.trims.now c.args.runs.now c.requires in
    let lt = c.loop-place-test.true in
    run-at c.args.trims.now c.args.runs.now c.requires c.loop-place.place c.index-trims-place.result c.index-runs-place.result (omega (arith, long, lt)) c.index-trims-place.is c.index-runs-place.is

pub loop-place-preserved : goal.loop-place-preserved
loop-place-preserved c =
    let trims = c.args.trims.now in
    let runs = c.args.runs.now in
    let at = c.loop-place.place in
    let long = runs-long trims runs c.requires in
    let lt = c.loop-place-test.true in
    subst (λ os. AreLifted (take (at + 1) trims) (take (at + 1) runs) os) (sym c.in_ok-push.ensures.ok)
    (lifted-push trims runs c.loop-place.lifted at c.index-trims-place.result c.index-runs-place.result c.in_ok-lift.field-0 (omega (arith, long, lt)) lt
    c.index-trims-place.is c.index-runs-place.is c.loop-place.invariant c.in_ok-lift.ensures)

pub returns : goal.returns
returns c =
    let auto = c.loop-place.auto.place-end in
    let past = c.loop-place-test.false in
    lifted-whole c.args.trims.now c.args.runs.now c.loop-place.lifted c.loop-place.place (omega (arith, auto, past)) (runs-long c.args.trims.now c.args.runs.now c.requires) c.loop-place.invariant
