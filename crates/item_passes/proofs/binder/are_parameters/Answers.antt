use Rattle.std.proofs.Common.{sym, ◌∙◌, rules, tests}
use Rattle.std.proofs.lemmas.Iterator.{YieldsList-from_slice}
use Rattle.std.proofs.lemmas.Iterator.Search.{all_from_yields_List}
use Rattle.smt_names.specs.Form.{seen}
use Rattle.smt_names.specs.Shapes.{are-listed}
use Rattle.item_passes.specs.Binders.{is_variable}
use Rattle.item_passes.proofs.binder.are_parameters.Goals as goal

pub returns : goal.returns
returns c = all_from_yields_List (λ x. is_variable (seen x)) _ _ _ c.all.ensures.ran (YieldsList-from_slice c.args.items.now cc) (λ x b q k. search (rules, tests)) ∙ sym (are-listed is_variable c.args.items.now)
