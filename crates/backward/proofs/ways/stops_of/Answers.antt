use Rattle.std.proofs.Common.{◌≡◌, true, IfSome, slice_get, sym, ap, ◌∙◌, subst}
use Rattle.std.proofs.lemmas.Result.{IfOk-weaker}
use Rattle.backward.specs.Ways.{is_marked, IsClosed}
use Rattle.backward.specs.declared.pairs.Way.TheVariants as way
use Rattle.backward.proofs.WayLemmas.{stops-marked}
use Rattle.backward.proofs.ways.stops_of.Goals as goal

pub returns-then-is_marked : goal.returns-then-is_marked
returns-then-is_marked c =
    let m = c.args.machine.now in
    let t = c.args.target.now in
    let rows = c.in-Some.rows in
    let closed = subst (λ o. IfSome o (λ rs. IsClosed way.Forward rs m.edges t.edges)) c.in-Some.is c.in_ok-rows-2.ensures in
    let first = subst (λ l. is_marked l 0 c.args.from ≡ true) c.as_slice.ensures (sym c.is_marked.ensures ∙ c.if-is_marked.true) in
    IfOk-weaker c.marks_at_ends.result _ _ (λ stops ends. stops-marked m t c.args.from stops rows closed first
    (λ i s e there marked. ends i s e (ap (λ l. slice_get l i) c.finals.ensures ∙ there) (subst (λ l. is_marked l e.at s ≡ true) (sym c.as_slice-then-is_marked.ensures) marked))) c.marks_at_ends.ensures
