use Rattle.std.proofs.Common.{◌≡◌, ◌+◌, suc, subst, arith}
use Rattle.replace_machines.specs.Edges.{AreEdges}
use Rattle.replace_machines.proofs.EdgeLemmas.{edges_more}
use Rattle.replace_machines.proofs.edges.held_edges.Goals as goal

pub loop-q-preserved : goal.loop-q-preserved
loop-q-preserved c =
    let q = c.loop-q.q in
    let one : suc q ≡ q + 1 = omega arith in
    subst (λ n. AreEdges c.args.pattern.now c.args.by.now c.args.after n c.add_row.new.edges) one
    (edges_more c.args.pattern.now c.args.by.now c.args.after q c.row_at.result.now c.loop-q.edges c.add_row.new.edges (c.requires.rows.row q c.row_at.result.now c.row_at.ensures) c.loop-q.invariant c.in_ok-add_row.ensures)
