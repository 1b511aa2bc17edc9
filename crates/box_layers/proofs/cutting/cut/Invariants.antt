use Rattle.std.proofs.Common.{◌≡◌, length, slice_get, Some}
use Rattle.box_layers.specs.declared.layer.Layer.{Layer}
use Rattle.box_layers.proofs.CutLemmas.{IsCutting}
use Rattle.box_layers.proofs.cutting.cut.Given as goal

abbrev pub invariant-loop-place : goal.invariant-loop-place
invariant-loop-place l =
    (p : Layer) → slice_get l.run.states l.place ≡ Some p → IsCutting l.layers.machines.now (length l.layers.region.now.registers) p l.place l.runs l.current
