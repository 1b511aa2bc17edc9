use Rattle.std.proofs.Common.{◌<◌, ◌↔◌, length, Any, Contains, sym, subst}
use Rattle.std.proofs.lemmas.Result.{IfOk-weaker}
use Rattle.machine_core.specs.Moves.{Moves}
use Rattle.machine_core.specs.Places.{pick}
use Rattle.pre_image.specs.Indexed.{edge_source}
use Rattle.pre_image.specs.Leading.{Passes}
use Rattle.pre_image.proofs.EndLemmas.{all-moves, edge-fits}
use Rattle.pre_image.proofs.RowLemmas.{row-all, row-within}
use Rattle.pre_image.proofs.pre.PreMachine.moves.Goals as goal

pub moves_of-requires-clause-within : goal.moves_of-requires-clause-within
moves_of-requires-clause-within c i q e =
    let p = c.args.self.now in
    subst (λ l. q < length l) (sym c.as_slice-edges.ensures)
    (row-within edge_source c.args.at.now.0 p.through.now.edges c.row.result.now (p.indexed.edges_found c.args.at.now.0 c.row.result.now c.row.ensures) i q e)

pub moves_of-requires-clause-high : goal.moves_of-requires-clause-high
moves_of-requires-clause-high c e i =
    (c.args.self.now.formed.edge e (subst (λ l. Contains l e) c.as_slice-edges.ensures i)).high

pub moves_of-requires-clause-fits : goal.moves_of-requires-clause-fits
moves_of-requires-clause-fits c e i =
    let p = c.args.self.now in
    edge-fits p.through.now p.target.now p.fits e (subst (λ l. Contains l e) c.as_slice-edges.ensures i)

pub returns-clause-exact : goal.returns-clause-exact
returns-clause-exact c =
    let p = c.args.self.now in
    let at = c.args.at.now in
    IfOk-weaker c.moves_of.result _ _ (λ moves exact d cost to.
    let listed = subst (λ l. Any (Moves d cost to) moves ↔ Any (Passes p.target.now at d cost to) (pick l c.row.result.now)) c.as_slice-edges.ensures (exact d cost to) in
    let all = row-all edge_source at.0 (Passes p.target.now at d cost to) (λ x h. h.0) p.through.now.edges c.row.result.now (p.indexed.edges_found at.0 c.row.result.now c.row.ensures) _ listed in
    let pair = all-moves p.through.now p.target.now at d cost to in
    (λ s. all.1 (pair.0 s), λ a. pair.1 (all.0 a))) c.moves_of.ensures.exact
