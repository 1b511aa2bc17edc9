use Rattle.std.proofs.Common.{◌≡◌, ◌∙◌, ◌↔◌, List, length, map, All, Any, ap, sym, subst, arith}
use Rattle.sv_word.specs.Ranges.{IsInhabited}
use Rattle.std.proofs.lemmas.List.Elements.{All-contains}
use Rattle.machine_core.specs.declared.graph.Graph.{Graph}
use Rattle.machine_core.specs.declared.machine.Move.{Move}
use Rattle.sv_list.specs.Lists.{slice_get-contains}
use Rattle.machine_core.specs.Moves.{Moves}
use Rattle.box_layers.specs.declared.layer.Layer.{Layer}
use Rattle.box_layers.specs.Layers.{uppers_of, AreGoodTotals, LayerStep}
use Rattle.box_layers.specs.Moving.{AreLayerSteps, AreLayerEnds}
use Rattle.box_layers.proofs.ExactLemmas.{moves-exact, moves-some, moves-made}
use Rattle.box_layers.proofs.SideLemmas.{spent-length}
use Rattle.box_layers.proofs.layers.LayersMachine.moves.Goals as goal

pub machine_at-machine-requires : goal.machine_at-machine-requires
machine_at-machine-requires c = let le = c.requires.inside in omega arith

pub moves_within-requires-clause-state : goal.moves_within-requires-clause-state
moves_within-requires-clause-state c = c.requires.state c.machine_at-machine.result.now c.machine_at-machine.ensures

pub moves_within-requires-clause-spent : goal.moves_within-requires-clause-spent
moves_within-requires-clause-spent c =
    let wide = All-contains (λ (g : Graph). g.registers ≡ length c.args.self.now.region.now.registers) c.args.self.now.machines.now c.machine_at-machine.result.now c.args.self.now.registers (slice_get-contains c.args.self.now.machines.now c.args.at.now.machine c.machine_at-machine.result.now c.machine_at-machine.ensures) in
    spent-length c.args.self.now.machines.now c.args.self.now.region.now c.args.self.now.rows.now c.args.at.now c.requires ∙ sym wide

pub moves_within-requires-clause-sides : goal.moves_within-requires-clause-sides
moves_within-requires-clause-sides c = ap length c.as_slice-sides.ensures ∙ sym (spent-length c.args.self.now.machines.now c.args.self.now.region.now c.args.self.now.rows.now c.args.at.now c.requires)

pub moves_onward-requires-clause-state : goal.moves_onward-requires-clause-state
moves_onward-requires-clause-state c = c.requires.state c.machine_at-machine.result.now c.machine_at-machine.ensures

pub moves_onward-requires-clause-spent : goal.moves_onward-requires-clause-spent
moves_onward-requires-clause-spent c =
    let wide = All-contains (λ (g : Graph). g.registers ≡ length c.args.self.now.region.now.registers) c.args.self.now.machines.now c.machine_at-machine.result.now c.args.self.now.registers (slice_get-contains c.args.self.now.machines.now c.args.at.now.machine c.machine_at-machine.result.now c.machine_at-machine.ensures) in
    spent-length c.args.self.now.machines.now c.args.self.now.region.now c.args.self.now.rows.now c.args.at.now c.requires ∙ sym wide

pub moves_onward-requires-clause-sides : goal.moves_onward-requires-clause-sides
moves_onward-requires-clause-sides c = ap length c.as_slice-sides.ensures ∙ sym (spent-length c.args.self.now.machines.now c.args.self.now.region.now c.args.self.now.rows.now c.args.at.now c.requires)

pub returns-clause-exact : goal.returns-clause-exact
returns-clause-exact c = λ read cost to.
    let layers = c.args.self.now in
    let m = c.machine_at-machine.result.now in
    let uppers = uppers_of layers.region.now in
    let inner = subst (λ l. AreLayerSteps m (map (λ s. s.1) l) c.args.at.now c.in_ok-all.all) c.as_slice-sides.ensures c.in_ok-all.ensures in
    let last = subst (λ l. AreLayerEnds m (map (λ s. s.1) l) c.args.at.now c.in_ok-next.next) c.as_slice-sides.ensures c.in_ok-next.ensures in
    subst (λ (l : List (Move Layer)). LayerStep layers.machines.now uppers (AreGoodTotals layers.rows.now layers.region.now) c.args.at.now read cost to ↔ Any (Moves read cost to) l)
    (sym (c.in_ok-append.ensures.ok ∙ moves-made m uppers c.args.at.now c.in_ok-all.all c.in_ok-next.next inner last))
    (moves-exact layers.machines.now uppers (AreGoodTotals layers.rows.now layers.region.now) c.args.at.now m c.machine_at-machine.ensures inner.inner last.costs last.on inner.exact last.exact last.single read cost to)

pub returns-clause-inhabited : goal.returns-clause-inhabited
returns-clause-inhabited c =
    let m = c.machine_at-machine.result.now in
    let uppers = uppers_of c.args.self.now.region.now in
    let inner = subst (λ l. AreLayerSteps m (map (λ s. s.1) l) c.args.at.now c.in_ok-all.all) c.as_slice-sides.ensures c.in_ok-all.ensures in
    let last = subst (λ l. AreLayerEnds m (map (λ s. s.1) l) c.args.at.now c.in_ok-next.next) c.as_slice-sides.ensures c.in_ok-next.ensures in
    subst (All (λ (m : Move Layer). IsInhabited m.on)) (sym (c.in_ok-append.ensures.ok ∙ moves-made m uppers c.args.at.now c.in_ok-all.all c.in_ok-next.next inner last))
    (moves-some uppers last.on c.args.at.now inner.inner last.costs inner.inhabited last.inhabited)
