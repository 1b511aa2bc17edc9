use Rattle.std.proofs.Common.{rules}
use Rattle.sv_list.specs.Lists.{split-step, in-split}
use Rattle.machine_core.proofs.JoinedLemmas.{joined-none, joined-more}
use Rattle.machine_core.proofs.joined.join_sorted.Goals as goal

pub loop-step-init : goal.loop-step-init
loop-step-init c = record {
  can = tt;
  finite = tt;
  split = search rules;
  joined = rw c.new-joined.ensures joined-none;
}

pub add_move-requires : goal.add_move-requires
add_move-requires c = record {
  old = c.loop-step.invariant.joined.inhabited;
  inhabited = c.requires c.in-Some.step (in-split _ _ _ _ c.in-Some.step c.loop-step.invariant.split c.in-Some.ensures.steps.0);
}

pub loop-step-preserved : goal.loop-step-preserved
loop-step-preserved c = record {
  can = tt;
  finite = tt;
  split = split-step _ _ _ _ c.in-Some.step c.loop-step.invariant.split c.in-Some.ensures.steps.0;
  joined = joined-more c.loop-step.yielded c.loop-step.joined c.add_move.new.moves c.in-Some.step c.loop-step.invariant.joined c.in_ok-add_move.ensures.exact c.in_ok-add_move.ensures.inhabited;
}
