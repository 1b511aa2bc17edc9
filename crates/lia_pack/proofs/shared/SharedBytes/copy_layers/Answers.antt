use Rattle.std.proofs.Common.{arith}
use Rattle.lia_pack.proofs.Layers.{copied_more}
use Rattle.lia_pack.proofs.shared.SharedBytes.copy_layers.Goals as goal

pub loop-layer-preserved : goal.loop-layer-preserved
loop-layer-preserved c =
    rw c.in_ok-push.ensures.ok (copied_more c.as_slice-layer-items.result.now c.loop-layer.layers c.layer-item.result (record { layer = c.in_ok-layer.layer }) c.loop-layer.layer-index (omega (arith, c.loop-layer-test.true)) c.layer-item.is c.in_ok-layer.ensures.cases c.loop-layer.invariant)
