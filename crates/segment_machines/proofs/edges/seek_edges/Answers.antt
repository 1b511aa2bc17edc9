use Rattle.std.proofs.Common.{◌∙◌, ◌++◌, ◌∷◌, [], List, length, ap, arith}
use Rattle.sv_terms.specs.declared.transducer.TransEdge.{TransEdge}
use Rattle.segment_machines.specs.Edges.{any_edge}
use Rattle.segment_machines.proofs.RowLemmas.{seek_absent, seek_found}
use Rattle.segment_machines.proofs.edges.seek_edges.Goals as goal

pub returns-then-after-limit : goal.returns-then-after-limit
returns-then-after-limit c =
    let size = c.len-after.ensures in
    let same = c.if-after-limit.true in
    let some = c.requires.filled in
    seek_absent c.args.pattern.now c.args.limit c.row_at.result.now c.in_ok-edges.edges
    (omega (arith, size, same, some))
    (c.in_ok-automaton.ensures.rows.row 0 c.row_at.result.now (rw c.as_slice-rows.ensures at c.row_at.ensures))
    c.in_ok-edges.ensures c.push.new.self (omega (arith, size, same))
    (c.in_ok-push.ensures.ok ∙ ap (λ (e : TransEdge). c.add_row.new.edges ++ e ∷ []) c.in_ok-any_edge.ensures ∙ ap (λ (es : List TransEdge). es ++ any_edge c.args.limit 0 c.args.limit ∷ []) c.in_ok-add_row.ensures)

pub returns : goal.returns
returns c =
    let size = c.len-after.ensures in
    let other = c.if-after-limit.false in
    let some = c.requires.filled in
    let least = c.requires.least in
    let p = c.args.pattern.now in
    let limit = c.args.limit in
    seek_found p limit c.row_at.result.now c.in_ok-edges.edges
    (omega (arith, some, least))
    (c.in_ok-automaton.ensures.rows.row 0 c.row_at.result.now (rw c.as_slice-rows.ensures at c.row_at.ensures))
    c.in_ok-edges.ensures c.push-2.new.self (omega (arith, size, other, least))
    (c.in_ok-push-2.ensures.ok ∙ ap (λ (e : TransEdge). c.push.new.self ++ e ∷ []) (c.in_ok-any_edge-2.ensures ∙ ap (λ n. any_edge n 2 n) size)
    ∙ ap (λ (es : List TransEdge). es ++ any_edge (length p) 2 (length p) ∷ [])
    (c.in_ok-push.ensures.ok ∙ ap (λ (e : TransEdge). c.add_row.new.edges ++ e ∷ []) c.in_ok-any_edge.ensures ∙ ap (λ (es : List TransEdge). es ++ any_edge limit 0 limit ∷ []) c.in_ok-add_row.ensures))
