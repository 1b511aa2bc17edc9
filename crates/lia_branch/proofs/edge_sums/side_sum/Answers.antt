use Rattle.std.proofs.Common.{rules, ◌≡◌, ◌<◌, ◌^◌, length, get_or, ap, sym, ◌∙◌, arith}
use Rattle.std.specs.Int.{w128}
use Rattle.std.proofs.lemmas.Int.{to_z-of_z}
use Rattle.std.proofs.lemmas.List.Elements.{All-get_or}
use mir.Val.{SFits}
use Rattle.lia_branch.specs.EdgeSums.{picks}
use Rattle.lia_branch.proofs.EdgeRows.{no_edge, summed_skip, summed_more, summed_done}
use Rattle.lia_branch.proofs.edge_sums.side_sum.Goals as goal
use Rattle.lia_branch.proofs.edge_sums.side_sum.Goals.{then-is_picked+in_ok-sum, else-is_picked}

pub loop-edge-preserved : goal.loop-edge-preserved
loop-edge-preserved c =
    let i = c.loop-edge.edge-index in
    let es = c.args.net.now.edges in
    let e = get_or es i no_edge in
    let same = c.as_slice-edge-items.ensures in
    let h : i < length es = omega (arith, c.loop-edge-test.true, ap length same) in
    let within = All-get_or (λ y. (y.«from» < c.args.net.now.states) × (y.to < c.args.net.now.states)) es i no_edge h c.requires.states in
    let p : c.is_picked.result ≡ picks c.args.side c.args.set.now e =
    (rw (c.as_slice.ensures.value, same) at c.is_picked.ensures) c.args.net.now.states c.args.set.now c.in_ok-marks.ensures.marks within.0 within.1 in
    elim c.if-is_picked.branch [
      | then-is_picked+in_ok-sum w ↦
          let fs : SFits w128 w.sign_of_side.result = search rules in
          rw (w.sum-is, w.next-is)
          (summed_more c.args.side c.args.set.now es c.loop-edge.sum _ c.loop-edge.next _ i c.loop-edge.invariant h (sym p ∙ w.if-is_picked.true)
          (rw (same, to_z-of_z w128 _ fs, w.sign_of_side.ensures) at w.in_ok-sum.ensures.value) w.in_ok-sum.ensures.small (rw same at w.in_ok-sum.ensures.ascends)
          w.next_of-next.ensures.bound (rw same at w.next_of-next.ensures.behind) (rw same at w.next_of-next.ensures.any))
      | else-is_picked w ↦ rw (w.sum-is, w.next-is) (summed_skip c.args.side c.args.set.now es c.loop-edge.sum c.loop-edge.next i c.loop-edge.invariant h (sym p ∙ w.if-is_picked.false))
    ]

pub returns : goal.returns
returns c =
    let same = c.as_slice-edge-items.ensures in
    let few : length c.as_slice-edge-items.result.now < 2 ^ 64 = search rules in
    let end = c.loop-edge.auto.edge-index-end in
    summed_done c.args.side c.args.unknowns c.args.net.now c.args.set.now c.loop-edge.sum c.loop-edge.next c.loop-edge.edge-index c.requires c.loop-edge.invariant
    (omega (arith, c.loop-edge-test.false, ap length same)) (omega (arith, few, end))
