use Rattle.std.proofs.Common.{sym, ◌∙◌, append-nil}
use Rattle.sv_list.specs.Lists.{split-step}
use Rattle.regex_machine.specs.Stepped.{led}
use Rattle.regex_machine.proofs.StepLemmas.{mapped-more}
use Rattle.regex_machine.proofs.stepping.lead.Goals as goal

pub loop-step-init : goal.loop-step-init
loop-step-init c = record {
  can = tt;
  finite = tt;
  split = sym (c.into_iter-step-iterator.ensures.into_iter_gives.0 ∙ c.into_vec-step-items.ensures);
  all = sym (append-nil c.reserve.new.self);
}

pub loop-step-preserved : goal.loop-step-preserved
loop-step-preserved c = record {
  can = tt;
  finite = tt;
  split = split-step _ _ _ _ c.in-Some.step c.loop-step.invariant.split c.in-Some.ensures.steps.0;
  all = mapped-more (led c.args.part) c.reserve.new.self c.loop-step.yielded c.loop-step.all c.push.new.self c.in-Some.step c.loop-step.invariant.all c.in_ok-push.ensures.ok;
}
