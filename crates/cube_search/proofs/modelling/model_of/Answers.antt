use Rattle.std.proofs.Common.{◌≡◌, ◌∙◌, [], nat_eq}
use Rattle.std.specs.Cmp.Lexicographic.{pointwise}
use Rattle.indexmap.specs.IndexMap.{insert_all}
use Rattle.cube_search.specs.Entries.{all_entries, number_entries, string_entries, truth_entries}
use Rattle.cube_search.proofs.ModelLemmas.{all-worded, named-by, only-in, set-in-turn}
use Rattle.cube_search.proofs.modelling.model_of.Goals as goal

made : (c : goal.In_ok-set_truths) → c.set_truths.new.model ≡ insert_all (pointwise nat_eq) [] (all_entries c.args.flat.now c.args.found.now)
made c =
    set-in-turn c.args.flat.now c.args.found.now c.set_strings.new.model c.set_numbers.new.model c.set_truths.new.model
    (c.in_ok-set_strings.ensures ∙ (λ i. insert_all (pointwise nat_eq) (c.new-model.ensures i) (string_entries (c.as_slice-2.ensures i) 0 (c.as_slice.ensures i))))
    (c.in_ok-set_numbers.ensures ∙ (λ i. insert_all (pointwise nat_eq) c.set_strings.new.model (number_entries (c.as_slice-3.ensures i) (c.as_slice-4.ensures i))))
    (c.in_ok-set_truths.ensures ∙ (λ i. insert_all (pointwise nat_eq) c.set_numbers.new.model (truth_entries (c.as_slice-5.ensures i))))

pub returns-clause-named : goal.returns-clause-named
returns-clause-named c = named-by c.args.flat.now c.args.found.now c.set_truths.new.model (made c) c.requires.apart c.requires.satisfies.rows.count

pub returns-clause-worded : goal.returns-clause-worded
returns-clause-worded c = all-worded c.args.flat.now c.args.found.now c.set_truths.new.model (made c) c.requires.satisfies

pub returns-clause-only : goal.returns-clause-only
returns-clause-only c = only-in c.args.flat.now c.args.found.now c.set_truths.new.model (made c) c.requires.satisfies.rows.count
