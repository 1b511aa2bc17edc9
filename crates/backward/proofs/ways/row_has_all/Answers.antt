use Rattle.std.proofs.Common.{◌≡◌, [], true, sym, ap, ◌∙◌, get_or, subst}
use Rattle.std.proofs.lemmas.Option.{get_or_from_slice_get}
use Rattle.std.specs.Option.{option_copied}
use Rattle.backward.specs.Ways.{is_set}
use Rattle.backward.proofs.WayLemmas.{get-none}
use Rattle.backward.proofs.ways.row_has_all.Goals as goal

pub returns-in-None : goal.returns-in-None
returns-in-None c = λ e s h. ap (λ row. is_set row s) (get-none c.args.rows.now c.args.state [] (sym c.at.ensures ∙ ap (λ o. option_copied o) c.in-None.is))

pub returns-in-Some : goal.returns-in-Some
returns-in-Some c = λ e s h.
    ap (λ row. is_set row s) (get_or_from_slice_get c.args.rows.now c.args.state c.in-Some.row.now [] (sym c.at.ensures ∙ ap (λ o. option_copied o) c.in-Some.is))
    ∙ subst (λ row. is_set row s ≡ true) c.as_slice.ensures (c.has_all.ensures e s h)
