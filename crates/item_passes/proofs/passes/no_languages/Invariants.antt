use Rattle.std.proofs.Common.{◌≡◌, map, drop}
use Rattle.smt_names.specs.Form.{seen, forms}
use Rattle.item_passes.specs.Binders.{each, no_language}
use Rattle.item_passes.proofs.passes.no_languages.Given as goal

abbrev pub invariant-loop-variable : goal.invariant-loop-variable
invariant-loop-variable l = each no_language (forms (map seen (drop l.variable-index l.variables))) ≡ each no_language (forms (map seen l.variables))
