use Rattle.std.proofs.Common.{◌≡◌, length, map, ap, sym, ◌∙◌, arith}
use Rattle.std.specs.Vec.Iter.{into_iter_items}
use Rattle.sv_list.specs.Lists.{split-step, split-end}
use Rattle.machine_meet.specs.Joins.{listed}
use Rattle.machine_meet.proofs.PushLemmas.{mapped-more}
use Rattle.machine_meet.proofs.product.to_lists.Goals as goal

pub loop-step-init : goal.loop-step-init
loop-step-init g c = record {
  can = tt;
  finite = tt;
  split = sym (c.into_iter-step-iterator.ensures.into_iter_gives.0 ∙ c.into_vec-step-items.ensures);
  all = c.from_vec-all.ensures ∙ c.in_ok-room.ensures.items;
}

pub loop-step-preserved : goal.loop-step-preserved
loop-step-preserved g c = record {
  can = tt;
  finite = tt;
  split = split-step _ _ _ _ c.in-Some.step c.loop-step.invariant.split c.in-Some.ensures.steps.0;
  all = mapped-more listed c.loop-step.yielded c.loop-step.all c.push.new.self c.in-Some.step c.loop-step.invariant.all (rw c.in_ok-to.ensures at c.in_ok-push.ensures.ok);
}

pub returns : goal.returns
returns g c =
    let rest = into_iter_items c.loop-step.step-iterator in
    let none : length rest ≡ 0 = omega (arith, c.loop-step.step-iterator.rest.ok, c.in-None.ensures.steps.0) in
    c.loop-step.invariant.all ∙ ap (map listed) (split-end c.args.moves c.loop-step.yielded rest c.loop-step.invariant.split none)
