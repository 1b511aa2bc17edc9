use Rattle.std.proofs.Common.{◌+◌, ◌<◌, ◌^◌, [], sym, ◌∙◌, arith}
use Rattle.sv_list.specs.Lists.{in-split, split-step}
use Rattle.regex_machine.specs.Woven.{counted}
use Rattle.regex_machine.proofs.StepLemmas.{mapped-more}
use Rattle.regex_machine.proofs.written.count_from.Goals as goal

pub overflow_add-base : goal.overflow_add-base
overflow_add-base c =
    let below : c.args.base + c.in-Some.step.to < 2 ^ 32 = c.requires c.in-Some.step (in-split _ _ _ _ c.in-Some.step c.loop-step.invariant.split c.in-Some.ensures.steps.0) in
    omega arith

pub loop-step-init : goal.loop-step-init
loop-step-init c = record {
  can = tt;
  finite = tt;
  split = sym (c.into_iter-step-iterator.ensures.into_iter_gives.0 ∙ c.into_vec-step-items.ensures);
  all = c.from_vec-all.ensures ∙ c.in_ok-room.ensures.items;
}

pub loop-step-preserved : goal.loop-step-preserved
loop-step-preserved c = record {
  can = tt;
  finite = tt;
  split = split-step _ _ _ _ c.in-Some.step c.loop-step.invariant.split c.in-Some.ensures.steps.0;
  all = mapped-more (counted c.args.base) [] c.loop-step.yielded c.loop-step.all c.push.new.self c.in-Some.step c.loop-step.invariant.all c.in_ok-push.ensures.ok;
}
