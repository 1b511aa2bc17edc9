use Rattle.std.proofs.Common.{◌≡◌, map, drop}
use Rattle.smt_names.specs.Form.{seen, forms}
use Rattle.item_passes.specs.Passes.{looked_all, looked_values}
use Rattle.item_passes.proofs.passes.+look.Given as goal

abbrev pub invariant-look_all-loop-item : goal.invariant-look_all-loop-item
invariant-look_all-loop-item l = looked_all l.pass (forms (map seen (drop l.item-index l.items))) ≡ looked_all l.pass (forms (map seen l.items))

abbrev pub invariant-look_values-loop-binding : goal.invariant-look_values-loop-binding
invariant-look_values-loop-binding l = looked_values l.pass (forms (map seen (drop l.binding-index l.bindings))) ≡ looked_values l.pass (forms (map seen l.bindings))
