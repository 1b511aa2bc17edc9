use Rattle.std.proofs.Common.{ℕ, ◌↔◌, List, Any, subst, arith}
use Rattle.std.proofs.lemmas.List.{take_all}
use Rattle.machine_core.specs.Moves.{Moves}
use Rattle.machine_core.specs.Places.{pick}
use Rattle.pre_image.specs.Leading.{Passes}
use Rattle.pre_image.proofs.RowLemmas.{row-none, row-place, row-listed, row-step}
use Rattle.pre_image.proofs.pre.moves_of.Goals as goal

pub add_edge-requires-clause-high : goal.add_edge-requires-clause-high
add_edge-requires-clause-high c =
    c.requires.high c.index-edges-place.result
    (row-listed c.args.edges.now c.args.places.now c.loop-place.place-index c.index-edges-place.result c.requires.within c.loop-place-test.true c.index-edges-place.is)

pub add_edge-requires-clause-fits : goal.add_edge-requires-clause-fits
add_edge-requires-clause-fits c =
    c.requires.fits c.index-edges-place.result
    (row-listed c.args.edges.now c.args.places.now c.loop-place.place-index c.index-edges-place.result c.requires.within c.loop-place-test.true c.index-edges-place.is)

pub loop-place-preserved : goal.loop-place-preserved
loop-place-preserved c = record {
  exact = λ d cost to.
      row-step (Passes c.args.target.now c.args.at.now d cost to) c.args.edges.now c.args.places.now c.loop-place.place-index c.index-edges-place.result
      c.requires.within c.loop-place-test.true c.index-edges-place.is _ _ (c.loop-place.invariant.exact d cost to) (c.in_ok-add_edge.ensures.exact d cost to);
  inhabited = c.in_ok-add_edge.ensures.inhabited;
}

pub returns-clause-exact : goal.returns-clause-exact
returns-clause-exact c d cost to =
    subst (λ (l : List ℕ). Any (Moves d cost to) c.loop-place.all ↔ Any (Passes c.args.target.now c.args.at.now d cost to) (pick c.args.edges.now l))
    (take_all c.loop-place.place-index c.args.places.now c.loop-place-test.false) (c.loop-place.invariant.exact d cost to)

pub loop-place-init : goal.loop-place-init
loop-place-init c = record {
  exact = λ d cost to. row-none (Passes c.args.target.now c.args.at.now d cost to) (Moves d cost to) c.new-all.result c.new-all.ensures;
  inhabited = rw c.new-all.ensures (λ k x lt. absurd (omega arith));
}

pub offset_bounds-edges-place : goal.offset_bounds-edges-place
offset_bounds-edges-place c = let lt = row-place c.args.edges.now c.args.places.now c.loop-place.place-index c.requires.within c.loop-place-test.true in omega arith

pub bounds-edges-place : goal.bounds-edges-place
bounds-edges-place c = row-place c.args.edges.now c.args.places.now c.loop-place.place-index c.requires.within c.loop-place-test.true

pub add_edge-requires-clause-at : goal.add_edge-requires-clause-at
add_edge-requires-clause-at c = c.requires.at

pub add_edge-requires-clause-old : goal.add_edge-requires-clause-old
add_edge-requires-clause-old c = c.loop-place.invariant.inhabited

pub returns-clause-inhabited : goal.returns-clause-inhabited
returns-clause-inhabited c = c.loop-place.invariant.inhabited
