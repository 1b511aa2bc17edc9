use Rattle.std.proofs.Common.{ap, ◌∙◌, ◌++◌, ◌∷◌, [], slice_set, true, add-one}
use Rattle.farkas_check.specs.Cuts.{values_of}
use Rattle.parikh_flow.proofs.ReachLemmas.{reach-start, reach-done, listed-below, row-found}
use Rattle.parikh_flow.proofs.reaching.reached_states.Goals as goal

pub loop-at-init : goal.loop-at-init
loop-at-init c =
    reach-start (values_of c.args.point.now) c.args.net.now c.requires.start c.push.new.self c.set.new.self
    (c.in_ok-push.ensures.ok ∙ ap (λ l. l ++ c.args.net.now.start ∷ []) c.new-found.ensures)
    (c.set.ensures ∙ ap (λ l. slice_set l c.args.net.now.start true) (c.from_vec-seen.ensures ∙ c.in_ok-vec.ensures.items_if_clones_equal (λ _ e. e)))

pub row-row-requires : goal.row-row-requires
row-row-requires c =
    rw c.in_ok-index.ensures.rows
    (listed-below (values_of c.args.point.now) c.args.net.now c.loop-at.found c.as_slice-in-loop-at.result.now c.loop-at.seen c.loop-at.at c.as_slice-in-loop-at.ensures (rw c.len.ensures at c.loop-at-test.true) c.loop-at.invariant)

pub visit-requires-clause-search : goal.visit-requires-clause-search
visit-requires-clause-search c =
    let here = row-found c.args.net.now c.loop-at.found c.as_slice-in-loop-at.result.now c.row-row.result.now c.in_ok-index.index c.as_slice.result.now c.loop-at.at c.as_slice-in-loop-at.ensures c.as_slice.ensures
    (rw c.len.ensures at c.loop-at-test.true) c.in_ok-index.ensures.found c.row-row.ensures in
    (c.loop-at.at, here, c.loop-at.invariant)

pub returns-clause-exact : goal.returns-clause-exact
returns-clause-exact c = λ s lt. reach-done (values_of c.args.point.now) c.args.net.now c.loop-at.found c.loop-at.seen c.loop-at.at c.loop-at.invariant (rw c.len.ensures at c.loop-at-test.false) s

pub visit-requires-clause-within : goal.visit-requires-clause-within
visit-requires-clause-within c = c.requires

pub loop-at-preserved : goal.loop-at-preserved
loop-at-preserved c =
    let here = row-found c.args.net.now c.loop-at.found c.as_slice-in-loop-at.result.now c.row-row.result.now c.in_ok-index.index c.as_slice.result.now c.loop-at.at c.as_slice-in-loop-at.ensures c.as_slice.ensures
    (rw c.len.ensures at c.loop-at-test.true) c.in_ok-index.ensures.found c.row-row.ensures in
    rw add-one (c.in_ok-visit.ensures c.loop-at.at here c.loop-at.invariant)

pub returns-clause-size : goal.returns-clause-size
returns-clause-size c = c.loop-at.invariant.size

pub bounds-as_slice-at : goal.bounds-as_slice-at
bounds-as_slice-at c = rw c.as_slice-in-loop-at.ensures (rw c.len.ensures at c.loop-at-test.true)
