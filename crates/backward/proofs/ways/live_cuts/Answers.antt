use Rattle.std.proofs.Common.{◌≡◌, suc, ◌-◌, ◌<◌, ◌∷◌, [], length, drop, get_or, Some, slice_get, sym, ap, ◌∙◌, subst, arith}
use Rattle.std.proofs.lemmas.Option.{slice_get-get_or}
use Rattle.sv_list.specs.Lists.{slice_get-contains}
use Rattle.backward.specs.Families.{Family, HasMachine}
use Rattle.backward.specs.Ways.{AreStarts, AreLive}
use Rattle.backward.proofs.WayLemmas.{HaveGoals, first-goals, ends-goals, live-none, live-more, row-live, next-goals, drop-at, drop-all, one-machine}
use Rattle.backward.proofs.ways.live_cuts.Goals as goal

pub machine_at-target-requires : goal.machine_at-target-requires
machine_at-target-requires c =
    let r = c.requires.machine in
    (r.0, subst (λ (l : Family). HasMachine l c.args.x r.0) (sym c.as_slice-machines.ensures) r.1)

pub loop-left-init : goal.loop-left-init
loop-left-init c =
    let ms = c.args.state.now.machines in
    let t = c.machine_at-target.result.now in
    let none = drop-all c.args.pieces.now in
    record {
      within = omega arith;
      goals = subst (λ l. HaveGoals ms t l c.in_ok-goals.goals) (sym none) (first-goals ms t c.in_ok-goals.goals (ends-goals t c.in_ok-goals.goals c.in_ok-goals.ensures));
      live = subst (λ l. AreLive ms t l c.new-rows.result) (sym none) (live-none ms t c.new-rows.result c.new-rows.ensures);
    }

pub machine_at-machine-requires : goal.machine_at-machine-requires
machine_at-machine-requires c =
    let ps = c.args.pieces.now in
    let at = c.loop-left.left - 1 in
    let some = c.loop-left-test.true in
    let within = c.loop-left.invariant.within in
    let lt : at < length ps = omega arith in
    let r = c.requires.pieces (get_or ps at 0) (slice_get-contains ps at (get_or ps at 0) (slice_get-get_or ps at 0 lt)) in
    (r.0, subst (λ (l : Family). HasMachine l (get_or ps at 0) r.0) (sym c.as_slice-machines.ensures) r.1)

pub loop-left-preserved : goal.loop-left-preserved
loop-left-preserved c =
    let ms = c.args.state.now.machines in
    let t = c.machine_at-target.result.now in
    let ps = c.args.pieces.now in
    let at = c.loop-left.left - 1 in
    let p = get_or ps at 0 in
    let k = c.machine_at-machine.result.now in
    let row = c.in_ok-row.row in
    let some = c.loop-left-test.true in
    let within = c.loop-left.invariant.within in
    let lt : at < length ps = omega arith in
    let next : c.loop-left.left ≡ suc at = omega arith in
    let has = subst (λ (l : Family). HasMachine l p k) c.as_slice-machines.ensures c.machine_at-machine.ensures in
    let split = drop-at ps at p (slice_get-get_or ps at 0 lt) in
    let goals = subst (λ n. HaveGoals ms t (drop n ps) c.loop-left.goals) next c.loop-left.invariant.goals in
    let starts = subst (λ g. AreStarts k t g row) c.as_slice.ensures c.in_ok-row.ensures in
    let lives = row-live ms t p k (drop (suc at) ps) c.loop-left.goals row has goals starts in
    record {
      within = omega arith;
      goals = subst (HaveGoals ms t (drop at ps)) (sym (c.in_ok-goals-2.ensures ∙ c.as_slice-in-loop-left.ensures))
          (subst (λ l. HaveGoals ms t l row) (sym split) (next-goals ms t p (drop (suc at) ps) row lives));
      live = subst (AreLive ms t (drop at ps)) (sym c.in_ok-insert.ensures.ok)
          (subst (λ l. AreLive ms t l (row ∷ c.loop-left.rows)) (sym split)
          (live-more ms t p (drop (suc at) ps) row c.loop-left.rows lives (subst (λ n. AreLive ms t (drop n ps) c.loop-left.rows) next c.loop-left.invariant.live)));
    }

pub returns : goal.returns
returns c = λ m there.
    let ms = c.args.state.now.machines in
    let t = c.machine_at-target.result.now in
    let ps = c.args.pieces.now in
    let done = c.loop-left-test.false in
    let none : c.loop-left.left ≡ 0 = omega arith in
    let found = subst (λ (l : Family). HasMachine l c.args.x t) c.as_slice-machines.ensures c.machine_at-target.ensures in
    subst (λ g. AreLive ms g ps c.loop-left.rows) (one-machine ms c.args.x t m found there) (subst (λ n. AreLive ms t (drop n ps) c.loop-left.rows) none c.loop-left.invariant.live)
