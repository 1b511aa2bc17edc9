use Rattle.std.proofs.Common.{◌≡◌, ◌++◌, drop}
use Rattle.lia_pack.specs.Shares.{values}
use Rattle.lia_pack.proofs.shared.SharedBytes.copy_layers.Given as goal

abbrev pub invariant-loop-layer : goal.invariant-loop-layer
invariant-loop-layer l = values l.layers ++ values (drop l.layer-index l.layer-items) ≡ values l.layer-items
