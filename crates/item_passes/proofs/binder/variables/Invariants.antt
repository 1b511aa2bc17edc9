use Rattle.std.proofs.Common.{◌≡◌, ◌++◌, map, drop}
use Rattle.smt_names.specs.Form.{seen, forms}
use Rattle.item_passes.specs.Binders.{variables}
use Rattle.item_passes.proofs.binder.variables.Given as goal

abbrev pub invariant-loop-item : goal.invariant-loop-item
invariant-loop-item l = l.all ++ variables (forms (map seen (drop l.item-index l.items))) ≡ variables (forms (map seen l.items))
