use Rattle.std.proofs.Common.{rules, map}
use Rattle.smt_names.specs.Form.{forms, seen}
use Rattle.sort_check.proofs.Assumed.{assumptions-fault, assumptions-made, assumptions-memory, assumptions-sort}
use Rattle.sort_check.proofs.asserting.assumptions.Goals as goal

pub returns-in_err-sorts : goal.returns-in_err-sorts
returns-in_err-sorts c = assumptions-fault c.args.symbols.now (forms (map seen c.args.items.now)) (search rules) c.in_err-sorts.field-0.0 c.from_residual.result (search rules) c.in_err-sorts.ensures

pub returns-then-not-are_bool : goal.returns-then-not-are_bool
returns-then-not-are_bool c = assumptions-sort c.args.symbols.now (forms (map seen c.args.items.now)) (search rules) c.in_ok-sorts.sorts c.in_ok-sorts.ensures (search rules)

pub returns-in_err-terms : goal.returns-in_err-terms
returns-in_err-terms c = assumptions-memory c.args.symbols.now (forms (map seen c.args.items.now)) (search rules) c.in_ok-sorts.sorts c.in_ok-sorts.ensures c.in_err-terms.field-0.0 c.from_residual-in_err-terms.result (search rules) c.in_err-terms.ensures

pub returns : goal.returns
returns c = assumptions-made c.args.symbols.now (forms (map seen c.args.items.now)) (search rules) c.in_ok-sorts.sorts c.in_ok-sorts.ensures c.in_ok-terms.terms (search rules) c.in_ok-terms.ensures
