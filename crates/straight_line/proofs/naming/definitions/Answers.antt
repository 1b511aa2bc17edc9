use Rattle.std.proofs.Common.{◌≡◌, ◌<◌, arith, length, ◌∙◌, ◌++◌, ◌∷◌, [], ℕ, List, ap, map, get_or, sym}
use Rattle.std.proofs.lemmas.List.{map_push}
use Rattle.std.specs.Vec.Iter.{into_iter_items}
use Rattle.sv_list.specs.Lists.{split-step, split-end}
use Rattle.flat_cubes.specs.Flattening.{renamed}
use Rattle.flat_cubes.specs.Straight.{AreBelow}
use Rattle.flat_cubes.specs.Using.{used}
use Rattle.flat_cubes.specs.declared.definition.By.{By}
use Rattle.flat_cubes.specs.declared.definition.Definition.{Definition}
use Rattle.straight_line.specs.Leading.{definition_by}
use Rattle.straight_line.proofs.Filled.{holds_next}
use Rattle.straight_line.proofs.naming.definitions.Goals as goal

added : (f : ℕ → ℕ) (ds new : List Definition) (es : List (ℕ × By)) (place : ℕ) (by named : By) → new ≡ ds ++ record { variable = f place; by = named } ∷ [] → ds ≡ map (definition_by f) es → named ≡ renamed f by → new ≡ map (definition_by f) (es ++ (place, by) ∷ [])
added f ds new es place by named n d b = n ∙ ap (λ z. ds ++ record { variable = f place; by = z } ∷ []) b ∙ ap (λ z. z ++ definition_by f (place, by) ∷ []) d ∙ sym (map_push (definition_by f) es (place, by))

pub loop-place-init : goal.loop-place-init
loop-place-init c = record {
  can = tt;
  finite = tt;
  split = sym (c.into_iter-place-iterator.ensures.into_iter_gives.0 ∙ c.into_vec-place-items.ensures);
  all = c.new-definitions.ensures;
}

pub loop-place-preserved : goal.loop-place-preserved
loop-place-preserved c = record {
  can = tt;
  finite = tt;
  split = split-step c.args.met c.loop-place.yielded (into_iter_items c.loop-place.place-iterator) (into_iter_items c.next.new.self) (c.in-Some.place, c.in-Some.by) c.loop-place.invariant.split c.in-Some.ensures.steps.0;
  all = added (λ i. get_or c.args.of.now i 0) c.loop-place.definitions c.push.new.self c.loop-place.yielded c.in-Some.place c.in-Some.by c.in_ok-by.by c.in_ok-push.ensures.ok c.loop-place.invariant.all c.in_ok-by.ensures;
}

pub rename-requires : goal.rename-requires
rename-requires c = (holds_next (λ (e : ℕ × By). (e.0 < length c.args.of.now) × AreBelow (length c.args.of.now) (used e.1)) c.args.met c.loop-place.yielded (into_iter_items c.loop-place.place-iterator) (into_iter_items c.next.new.self) (c.in-Some.place, c.in-Some.by) c.requires c.loop-place.invariant.split c.in-Some.ensures.steps.0).1

pub bounds-of-place : goal.bounds-of-place
bounds-of-place c = (holds_next (λ (e : ℕ × By). (e.0 < length c.args.of.now) × AreBelow (length c.args.of.now) (used e.1)) c.args.met c.loop-place.yielded (into_iter_items c.loop-place.place-iterator) (into_iter_items c.next.new.self) (c.in-Some.place, c.in-Some.by) c.requires c.loop-place.invariant.split c.in-Some.ensures.steps.0).0

pub returns : goal.returns
returns c =
    let none : length (into_iter_items c.loop-place.place-iterator) ≡ 0 = omega (arith, c.loop-place.place-iterator.rest.ok, c.in-None.ensures.steps.0) in
    c.loop-place.invariant.all ∙ ap (map (definition_by (λ i. get_or c.args.of.now i 0))) (split-end c.args.met c.loop-place.yielded (into_iter_items c.loop-place.place-iterator) c.loop-place.invariant.split none)
