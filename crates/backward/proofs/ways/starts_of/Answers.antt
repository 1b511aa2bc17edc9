use Rattle.std.proofs.Common.{◌≡◌, true, IfSome, slice_get, ap, ◌∙◌, subst}
use Rattle.std.proofs.lemmas.Result.{IfOk-weaker}
use Rattle.backward.specs.Ways.{is_marked, IsClosed}
use Rattle.backward.specs.declared.pairs.Way.TheVariants as way
use Rattle.backward.proofs.WayLemmas.{starts-marked}
use Rattle.backward.proofs.ways.starts_of.Goals as goal

pub returns-then-ends_have_all : goal.returns-then-ends_have_all
returns-then-ends_have_all c =
    let m = c.args.machine.now in
    let t = c.args.target.now in
    let rows = c.in-Some.rows in
    let closed = subst (λ o. IfSome o (λ rs. IsClosed way.Backward rs m.edges t.edges)) c.in-Some.is c.in_ok-rows-2.ensures in
    let ends = c.ends_have_all.ensures c.if-ends_have_all.true in
    IfOk-weaker c.first_row.result _ _ (λ row first. starts-marked m t c.args.goals.now row rows closed
    (λ i s e there goal. subst (λ l. is_marked l e.at s ≡ true) c.as_slice.ensures (ends i s e (ap (λ l. slice_get l i) c.finals.ensures ∙ there) goal))
    (λ s. first s ∙ ap (λ l. is_marked l 0 s) c.as_slice-then-ends_have_all.ensures)) c.first_row.ensures
