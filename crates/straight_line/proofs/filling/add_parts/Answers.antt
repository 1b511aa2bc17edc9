use Rattle.std.proofs.Common.{◌≡◌, ◌∙◌, ◌<◌, ℕ, Bool, ap, arith, length, refl, subst, sym, get_or}
use Rattle.std.specs.Vec.Iter.{into_iter_items}
use Rattle.sv_list.specs.Lists.{split-step, split-end}
use Rattle.flat_cubes.specs.declared.variable.Own.{Own}
use Rattle.straight_line.specs.Filling.{parted, parted_all}
use Rattle.straight_line.proofs.Filled.{holds_next, parted_more}
use Rattle.straight_line.proofs.filling.add_parts.Goals as goal

pub loop-place-init : goal.loop-place-init
loop-place-init c = record {
  can = tt;
  finite = tt;
  split = sym (c.into_iter-place-iterator.ensures.into_iter_gives.0 ∙ c.into_vec-place-items.ensures);
  count = refl;
  parted = refl;
}

pub loop-place-preserved : goal.loop-place-preserved
loop-place-preserved c = record {
  can = tt;
  finite = tt;
  split = split-step c.args.parts c.loop-place.yielded (into_iter_items c.loop-place.place-iterator) (into_iter_items c.next.new.self) (c.in-Some.place, c.in-Some.part) c.loop-place.invariant.split c.in-Some.ensures.steps.0;
  count = c.add_part.ensures.count ∙ c.loop-place.invariant.count;
  parted = c.in_ok-add_part.ensures.parted ∙ ap (parted (get_or c.args.of.now c.in-Some.place 0) c.in-Some.part) c.loop-place.invariant.parted ∙ sym (parted_more c.args.of.now c.loop-place.yielded (c.in-Some.place, c.in-Some.part) c.args.variables.now.items);
}

pub bounds-of-place : goal.bounds-of-place
bounds-of-place c = (holds_next (λ (p : ℕ × (Own × Bool)). p.0 < length c.args.of.now) c.args.parts c.loop-place.yielded (into_iter_items c.loop-place.place-iterator) (into_iter_items c.next.new.self) (c.in-Some.place, c.in-Some.part) c.requires.parts c.loop-place.invariant.split c.in-Some.ensures.steps.0)

pub add_part-requires : goal.add_part-requires
add_part-requires c = subst (λ n. get_or c.args.of.now c.in-Some.place 0 < n) (sym c.loop-place.invariant.count) (c.requires.numbers c.in-Some.place (holds_next (λ (p : ℕ × (Own × Bool)). p.0 < length c.args.of.now) c.args.parts c.loop-place.yielded (into_iter_items c.loop-place.place-iterator) (into_iter_items c.next.new.self) (c.in-Some.place, c.in-Some.part) c.requires.parts c.loop-place.invariant.split c.in-Some.ensures.steps.0))

pub returns : goal.returns
returns c =
    let none : length (into_iter_items c.loop-place.place-iterator) ≡ 0 = omega (arith, c.loop-place.place-iterator.rest.ok, c.in-None.ensures.steps.0) in
    c.loop-place.invariant.parted ∙ ap (λ z. parted_all c.args.of.now z c.args.variables.now.items) (split-end c.args.parts c.loop-place.yielded (into_iter_items c.loop-place.place-iterator) c.loop-place.invariant.split none)
