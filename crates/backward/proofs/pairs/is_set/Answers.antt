use Rattle.std.proofs.Common.{true, sym, ap, ◌∙◌}
use Rattle.std.proofs.lemmas.Option.{get_or_from_slice_get}
use Rattle.std.specs.Option.{option_copied}
use Rattle.backward.proofs.WayLemmas.{get-none}
use Rattle.backward.proofs.pairs.is_set.Goals as goal

pub returns-in-None : goal.returns-in-None
returns-in-None c = sym (get-none c.args.marks.now c.args.place true (sym c.at.ensures ∙ ap (λ o. option_copied o) c.in-None.is))

pub returns-in-Some : goal.returns-in-Some
returns-in-Some c = sym (get_or_from_slice_get c.args.marks.now c.args.place c.in-Some.mark.now true (sym c.at.ensures ∙ ap (λ o. option_copied o) c.in-Some.is))
