use Rattle.std.proofs.Common.{sym, ◌∙◌, rules, tests}
use Rattle.std.proofs.lemmas.Iterator.{YieldsList-from_slice}
use Rattle.std.proofs.lemmas.Iterator.Search.{all_from_yields_List}
use Rattle.smt_names.specs.Form.{seen}
use Rattle.smt_names.specs.Shapes.{are-listed}
use Rattle.sort_check.specs.Checking.{is_assumption}
use Rattle.sort_check.proofs.asserting.are_assumptions.Goals as goal

pub returns : goal.returns
returns c = all_from_yields_List (λ x. is_assumption (seen x)) _ _ _ c.all.ensures.ran (YieldsList-from_slice c.args.items.now cc) (λ x b q k. search (rules, tests)) ∙ sym (are-listed is_assumption c.args.items.now)
