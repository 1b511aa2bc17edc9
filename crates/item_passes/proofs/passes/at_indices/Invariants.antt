use Rattle.std.proofs.Common.{◌≡◌, map, drop}
use Rattle.smt_names.specs.Form.{seen, forms}
use Rattle.item_passes.specs.Binders.{each}
use Rattle.item_passes.specs.Passes.{at_numeral}
use Rattle.item_passes.proofs.passes.at_indices.Given as goal

abbrev pub invariant-loop-index : goal.invariant-loop-index
invariant-loop-index l = each (at_numeral l.pass) (forms (map seen (drop l.index-index l.indices))) ≡ each (at_numeral l.pass) (forms (map seen l.indices))
