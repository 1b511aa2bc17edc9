use Rattle.std.proofs.Common.{[], ◌++◌, Contains, inl, inr, take, ap, sym, ◌∙◌, subst, arith}
use Rattle.std.specs.List.{flat_map}
use Rattle.std.proofs.lemmas.List.{flat_map_more, take_all}
use Rattle.std.proofs.lemmas.List.Elements.{Contains-append_cases}
use Rattle.std.proofs.lemmas.Option.{slice_get-get_or}
use Rattle.sv_list.specs.Lists.{Contains-none}
use Rattle.machine_core.specs.Places.{pick}
use Rattle.subset_machine.specs.Legs.{legs_of}
use Rattle.machine_core.specs.PlaceLaws.{pick-more}
use Rattle.subset_machine.proofs.leaving.take_apart.Goals as goal

pub loop-place-init : goal.loop-place-init
loop-place-init c = record {
  legs = c.in_ok-legs.ensures.items;
  ranges = λ s i. absurd (Contains-none s (subst (λ l. Contains l s) c.in_ok-legs.ensures.items i));
}

pub loop-place-preserved : goal.loop-place-preserved
loop-place-preserved c =
    let edges = c.args.edges.now in
    let i = c.loop-place.place-index in
    let e = c.index-edges-place.result in
    let before = pick edges (take i c.args.places.now) in
    let more = pick-more edges c.args.places.now i e c.requires c.loop-place-test.true c.index-edges-place.is in
    let pushed = c.in_ok-push_legs.ensures.legs in
    record {
      legs = pushed ∙ ap (λ l. l ++ legs_of e) c.loop-place.invariant.legs ∙ flat_map_more legs_of [] before e ∙ ap (flat_map legs_of) (sym more);
      ranges = λ s j. elim (Contains-append_cases c.loop-place.legs.items (legs_of e) s (subst (λ l. Contains l s) pushed j)) [
        | inl k ↦ c.loop-place.invariant.ranges s k
        | inr k ↦ c.push_legs.ensures.ranges s k
      ];
    }

pub returns-clause-ranges : goal.returns-clause-ranges
returns-clause-ranges c = c.loop-place.invariant.ranges

pub returns-clause-legs : goal.returns-clause-legs
returns-clause-legs c = c.loop-place.invariant.legs ∙ ap (λ l. flat_map legs_of (pick c.args.edges.now l)) (take_all c.loop-place.place-index c.args.places.now c.loop-place-test.false)

pub bounds-places-place-index : goal.bounds-places-place-index
bounds-places-place-index c = c.loop-place-test.true

pub bounds-edges-place : goal.bounds-edges-place
bounds-edges-place c = c.requires c.loop-place.place-index _ (slice_get-get_or c.args.places.now c.loop-place.place-index 0 c.loop-place-test.true)

pub offset_bounds-places-place-index : goal.offset_bounds-places-place-index
offset_bounds-places-place-index c = let test = c.loop-place-test.true in omega arith

pub offset_bounds-edges-place : goal.offset_bounds-edges-place
offset_bounds-edges-place c =
    let below = c.requires c.loop-place.place-index _ (slice_get-get_or c.args.places.now c.loop-place.place-index 0 c.loop-place-test.true) in
    omega arith
