use Rattle.std.proofs.Common.{◌≡◌, drop}
use Rattle.lia_pack.specs.Shares.{bytes_of, layered, values}
use Rattle.lia_pack.proofs.shared.SharedBytes.to_items.Given as goal

abbrev pub invariant-loop-layer : goal.invariant-loop-layer
invariant-loop-layer l = layered l.bytes (values (drop l.layer-index l.self.layers)) ≡ bytes_of l.self
