use Rattle.std.proofs.Common.{◌≡◌, map, drop}
use Rattle.smt_names.specs.Form.{seen, forms}
use Rattle.item_passes.specs.Binders.{each, known_sort}
use Rattle.item_passes.proofs.passes.known_sorts.Given as goal

abbrev pub invariant-loop-variable : goal.invariant-loop-variable
invariant-loop-variable l = each known_sort (forms (map seen (drop l.variable-index l.variables))) ≡ each known_sort (forms (map seen l.variables))
