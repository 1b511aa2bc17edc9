use Rattle.std.proofs.Common.{[], ap, arith}
use Rattle.machine_core.specs.declared.end.End.{End}
use Rattle.parikh_flow.specs.Rows.{end_balance}
use Rattle.parikh_flow.proofs.FormLemmas.{added-none}
use Rattle.parikh_flow.proofs.BalanceLemmas.{added-nothing, added-more, added-all, added-end}
use Rattle.parikh_flow.proofs.balances.push_ends.Goals as goal

pub loop-end-preserved : goal.loop-end-preserved
loop-end-preserved c = record {
  next = (let e = c.loop-end.invariant.next in omega arith);
  added = added-more end_balance c.args.base c.loop-end.end-index c.loop-end.unknown c.args.ends.now c.end-item.result c.args.forms.now.items c.loop-end.forms.items c.push_at.new.forms.items
      c.loop-end-test.true c.end-item.is c.loop-end.invariant.next c.loop-end.invariant.added
      (added-end c.end-item.result c.loop-end.unknown c.loop-end.forms.items c.push_at.new.forms.items c.loop-end.invariant.added.ascend c.in_ok-push_at.ensures);
}

pub loop-end-init : goal.loop-end-init
loop-end-init c = record {
  next = omega arith;
  added = added-nothing (λ s. []) c.args.base c.args.base c.args.forms.now.items (omega arith) c.requires.ascend (λ s f. added-none f);
}

pub push_at-requires-clause-at : goal.push_at-requires-clause-at
push_at-requires-clause-at c =
    let at = c.requires.states c.loop-end.end-index c.end-item.result c.loop-end-test.true in
    let is = ap (λ (e : End). e.at) c.end-item.is in
    let size = c.loop-end.invariant.added.size in
    omega arith

pub push_at-requires-clause-last : goal.push_at-requires-clause-last
push_at-requires-clause-last c = λ f e. c.loop-end.invariant.added.ascend c.end-item.result.at f e

pub returns : goal.returns
returns c =
    added-all end_balance c.args.base c.loop-end.end-index c.loop-end.unknown c.args.ends.now c.args.forms.now.items c.loop-end.forms.items
    c.loop-end-test.false c.loop-end.auto.end-index-end c.loop-end.invariant.next c.loop-end.invariant.added
