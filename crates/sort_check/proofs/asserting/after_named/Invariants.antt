use Rattle.std.proofs.Common.{◌≡◌, map, drop}
use Rattle.smt_names.specs.Form.{seen, forms}
use Rattle.sort_check.specs.Checking.{after_named}
use Rattle.sort_check.proofs.asserting.after_named.Given as goal

abbrev pub invariant-loop-place : goal.invariant-loop-place
invariant-loop-place l = after_named (forms (map seen (drop l.place l.attributes))) ≡ after_named (forms (map seen l.attributes))
