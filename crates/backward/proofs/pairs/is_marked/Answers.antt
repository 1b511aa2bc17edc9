use Rattle.std.proofs.Common.{[], sym, ap, ◌∙◌}
use Rattle.std.proofs.lemmas.Option.{get_or_from_slice_get}
use Rattle.std.specs.Option.{option_copied}
use Rattle.backward.specs.Ways.{is_set}
use Rattle.backward.proofs.WayLemmas.{get-none}
use Rattle.backward.proofs.pairs.is_marked.Goals as goal

pub returns-in-None : goal.returns-in-None
returns-in-None c = sym (ap (λ row. is_set row c.args.second) (get-none c.args.rows.now c.args.first [] (sym c.at.ensures ∙ ap (λ o. option_copied o) c.in-None.is)))

pub returns-in-Some : goal.returns-in-Some
returns-in-Some c =
    c.is_set.ensures ∙ ap (λ row. is_set row c.args.second) c.as_slice.ensures
    ∙ sym (ap (λ row. is_set row c.args.second) (get_or_from_slice_get c.args.rows.now c.args.first c.in-Some.row.now [] (sym c.at.ensures ∙ ap (λ o. option_copied o) c.in-Some.is)))
