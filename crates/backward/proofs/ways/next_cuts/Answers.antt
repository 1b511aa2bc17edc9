use Rattle.std.proofs.Common.{length, get_or, slice_get, sym, subst}
use Rattle.std.proofs.lemmas.Option.{slice_get-get_or}
use Rattle.std.proofs.lemmas.Result.{IfOk-weaker}
use Rattle.sv_list.specs.Lists.{slice_get-contains}
use Rattle.backward.specs.Families.{Family, HasMachine}
use Rattle.backward.specs.Ways.{AreNext}
use Rattle.backward.proofs.WayLemmas.{next-marked, one-machine}
use Rattle.backward.proofs.ways.next_cuts.Goals as goal

pub machine_at-machine-requires : goal.machine_at-machine-requires
machine_at-machine-requires c =
    let ps = c.args.pieces.now in
    let at = length c.args.cuts.now in
    let r = c.requires.pieces (get_or ps at 0) (slice_get-contains ps at (get_or ps at 0) (slice_get-get_or ps at 0 c.requires.fewer)) in
    (r.0, subst (λ (l : Family). HasMachine l (get_or ps at 0) r.0) (sym c.as_slice-machines.ensures) r.1)

pub machine_at-target-requires : goal.machine_at-target-requires
machine_at-target-requires c =
    let r = c.requires.machine in
    (r.0, subst (λ (l : Family). HasMachine l c.args.x r.0) (sym c.as_slice-machines.ensures) r.1)

pub returns : goal.returns
returns c =
    let ms = c.args.state.now.machines in
    let ps = c.args.pieces.now in
    let cuts = c.args.cuts.now in
    let t = c.machine_at-target.result.now in
    let k = c.machine_at-machine.result.now in
    let p = get_or ps (length cuts) 0 in
    let found = subst (λ (l : Family). HasMachine l c.args.x t) c.as_slice-machines.ensures c.machine_at-target.ensures in
    let has = subst (λ (l : Family). HasMachine l p k) c.as_slice-machines.ensures c.machine_at-machine.ensures in
    IfOk-weaker c.stops_of.result _ _ (λ next stops m there.
    subst (λ g. AreNext ms g ps cuts next) (one-machine ms c.args.x t m found there)
    (next-marked ms t cuts ps p k c.start_at-from.result next (slice_get-get_or ps (length cuts) 0 c.requires.fewer) has c.start_at-from.ensures stops)) c.stops_of.ensures
