use Rattle.std.proofs.Common.{◌≡◌, List, [], map, drop, Ok}
use Rattle.smt_names.specs.Form.{seen, forms}
use Rattle.sv_terms.specs.declared.entry.Body.{Body}
use Rattle.term_walk.specs.Meant.{settled}
use Rattle.sort_check.proofs.Assumed.{AreBuilt}
use Rattle.sort_check.proofs.asserting.assumed_terms.Given as goal

abbrev pub invariant-loop-item : goal.invariant-loop-item
invariant-loop-item l = (bodies : List Body) → settled l.fn.symbols [] (forms (map seen l.items)) ≡ Ok bodies → AreBuilt l.fn.symbols (drop l.item-index l.items) l.terms bodies
