use Rattle.std.proofs.Common.{◌≡◌, map, drop}
use Rattle.smt_names.specs.Form.{seen, forms}
use Rattle.item_passes.specs.Binders.{bound_names, repeats}
use Rattle.item_passes.proofs.Names.{later}
use Rattle.item_passes.proofs.binder.repeats.Given as goal

abbrev pub invariant-loop-item : goal.invariant-loop-item
invariant-loop-item l = later l.met.keys (bound_names (forms (map seen (drop l.item-index l.items)))) ≡ repeats (bound_names (forms (map seen l.items)))
