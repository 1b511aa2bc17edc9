use Rattle.std.proofs.Common.{◌∷◌, sym, ap, ◌∙◌, subst}
use Rattle.machine_core.specs.Costs.{zeros}
use Rattle.backward.specs.Back.{AreBack}
use Rattle.backward.specs.Families.{HasMachine, without}
use Rattle.backward.specs.Made.{AreMet}
use Rattle.backward.proofs.CutBackLemmas.{cut-with, taken-first, cut-below, cut-back, cut-joined}
use Rattle.backward.proofs.cut_lifting.lift_cut.Goals as goal

pub machine_at-target-requires : goal.machine_at-target-requires
machine_at-target-requires c = (c.requires.cut.target, subst (λ l. HasMachine l c.args.x c.requires.cut.target) (sym c.as_slice-machines.ensures) c.requires.cut.machine)

pub lift_pieces-requires : goal.lift_pieces-requires
lift_pieces-requires c =
    let ms = c.as_slice-machines.result.now in
    let x = c.args.x in
    let g = c.machine_at-target.result.now in
    let qs = c.as_slice.result.now in
    let ns = c.args.after.now.machines in
    let hg = subst (λ l. HasMachine l x g) c.as_slice-machines.ensures c.machine_at-target.ensures in
    let kept = cut-with c.requires.cut c.in-Cut.is hg in
    let met = subst (λ l. AreMet g (0 ∷ c.args.cuts.now) c.args.pieces.now (without l x) qs ns) (sym c.as_slice-machines.ensures)
    (subst (λ q. AreMet g (0 ∷ c.args.cuts.now) c.args.pieces.now (without c.args.before.now.machines x) q ns) (sym c.as_slice.ensures) kept) in
    let w = c.in_ok-whole.ensures in
    let first = taken-first ms x g c.args.cuts.now c.args.pieces.now qs ns met c.args.runs c.requires.runs c.in_ok-whole.whole w.word w.states w.costs (w.last ∙ ap zeros c.registers.ensures) in
    (c.args.runs, first)

pub set-requires : goal.set-requires
set-requires c =
    let ms = c.as_slice-machines.result.now in
    let x = c.args.x in
    let g = c.machine_at-target.result.now in
    let qs = c.as_slice.result.now in
    let ns = c.args.after.now.machines in
    let hg = subst (λ l. HasMachine l x g) c.as_slice-machines.ensures c.machine_at-target.ensures in
    let kept = cut-with c.requires.cut c.in-Cut.is hg in
    let met = subst (λ l. AreMet g (0 ∷ c.args.cuts.now) c.args.pieces.now (without l x) qs ns) (sym c.as_slice-machines.ensures)
    (subst (λ q. AreMet g (0 ∷ c.args.cuts.now) c.args.pieces.now (without c.args.before.now.machines x) q ns) (sym c.as_slice.ensures) kept) in
    let w = c.in_ok-whole.ensures in
    let first = taken-first ms x g c.args.cuts.now c.args.pieces.now qs ns met c.args.runs c.requires.runs c.in_ok-whole.whole w.word w.states w.costs (w.last ∙ ap zeros c.registers.ensures) in
    let b = c.in_ok-all.ensures c.args.runs first in
    cut-below ms x g c.machine_at-target.ensures c.args.cuts.now c.args.pieces.now qs ns met c.args.runs c.in_ok-all.all.runs c.in_ok-all.all.whole b

pub returns-clause-back : goal.returns-clause-back
returns-clause-back c =
    let ms = c.as_slice-machines.result.now in
    let x = c.args.x in
    let g = c.machine_at-target.result.now in
    let qs = c.as_slice.result.now in
    let ns = c.args.after.now.machines in
    let hg = subst (λ l. HasMachine l x g) c.as_slice-machines.ensures c.machine_at-target.ensures in
    let kept = cut-with c.requires.cut c.in-Cut.is hg in
    let met = subst (λ l. AreMet g (0 ∷ c.args.cuts.now) c.args.pieces.now (without l x) qs ns) (sym c.as_slice-machines.ensures)
    (subst (λ q. AreMet g (0 ∷ c.args.cuts.now) c.args.pieces.now (without c.args.before.now.machines x) q ns) (sym c.as_slice.ensures) kept) in
    let w = c.in_ok-whole.ensures in
    let first = taken-first ms x g c.args.cuts.now c.args.pieces.now qs ns met c.args.runs c.requires.runs c.in_ok-whole.whole w.word w.states w.costs (w.last ∙ ap zeros c.registers.ensures) in
    let b = c.in_ok-all.ensures c.args.runs first in
    subst (λ l. AreBack l x c.args.runs c.set.new.self) c.as_slice-machines.ensures
    (cut-back ms x g c.machine_at-target.ensures c.args.cuts.now c.args.pieces.now qs ns met c.args.runs c.in_ok-all.all.runs c.in_ok-all.all.whole b c.set.new.self c.set.ensures)

pub returns-clause-defined : goal.returns-clause-defined
returns-clause-defined c =
    let ms = c.as_slice-machines.result.now in
    let x = c.args.x in
    let g = c.machine_at-target.result.now in
    let qs = c.as_slice.result.now in
    let ns = c.args.after.now.machines in
    let hg = subst (λ l. HasMachine l x g) c.as_slice-machines.ensures c.machine_at-target.ensures in
    let kept = cut-with c.requires.cut c.in-Cut.is hg in
    let met = subst (λ l. AreMet g (0 ∷ c.args.cuts.now) c.args.pieces.now (without l x) qs ns) (sym c.as_slice-machines.ensures)
    (subst (λ q. AreMet g (0 ∷ c.args.cuts.now) c.args.pieces.now (without c.args.before.now.machines x) q ns) (sym c.as_slice.ensures) kept) in
    let w = c.in_ok-whole.ensures in
    let first = taken-first ms x g c.args.cuts.now c.args.pieces.now qs ns met c.args.runs c.requires.runs c.in_ok-whole.whole w.word w.states w.costs (w.last ∙ ap zeros c.registers.ensures) in
    let b = c.in_ok-all.ensures c.args.runs first in
    cut-joined ms x g c.machine_at-target.ensures c.args.cuts.now c.args.pieces.now qs ns met c.args.runs c.in_ok-all.all.runs c.in_ok-all.all.whole b c.set.new.self c.set.ensures
