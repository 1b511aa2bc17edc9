use Rattle.std.proofs.Common.{◌+◌, ◌++◌, take, drop, get_or, ap, ◌∙◌, arith}
use Rattle.lia_pack.specs.Shares.{joined}
use Rattle.lia_pack.proofs.Joining.{no_piece, joined_more, joined_all}
use Rattle.lia_pack.proofs.pieces.join_pieces.Goals as goal

pub loop-piece-preserved : goal.loop-piece-preserved
loop-piece-preserved c =
    let ps = c.args.pieces.now in
    let i = c.loop-piece.piece-index in
    let p = get_or ps i no_piece in
    let further = c.cut-in-loop-piece.result.1.now in
    let own = c.cut-in-loop-piece-2.result.0.now in
    let later = c.cut-in-loop-piece-2.result.1.now in
    ap (λ bytes. bytes ++ joined further (drop (i + 1) ps) later) (c.in_ok-extend_from_slice-2.ensures.items ∙ ap (λ bytes. bytes ++ own) c.in_ok-extend_from_slice.ensures.items)
    ∙ joined_more ps i no_piece c.loop-piece.bytes.items c.loop-piece.rest.now c.loop-piece.left.now c.cut-in-loop-piece.result.0.now further own later (joined c.args.below.now ps c.args.fresh.now) c.loop-piece-test.true
    (c.cut-in-loop-piece.ensures.front ∙ ap (take p.length) c.cut.ensures.back) (c.cut-in-loop-piece.ensures.back ∙ ap (drop p.length) c.cut.ensures.back) c.cut-in-loop-piece-2.ensures.front c.cut-in-loop-piece-2.ensures.back c.loop-piece.invariant

pub returns : goal.returns
returns c =
    c.from_vec.ensures ∙ c.in_ok-extend_from_slice-4.ensures.items ∙ ap (λ bytes. bytes ++ c.loop-piece.left.now) c.in_ok-extend_from_slice-3.ensures.items
    ∙ joined_all c.args.pieces.now c.loop-piece.piece-index c.loop-piece.bytes.items c.loop-piece.rest.now c.loop-piece.left.now (joined c.args.below.now c.args.pieces.now c.args.fresh.now) (omega (arith, c.loop-piece-test.false)) c.loop-piece.invariant
