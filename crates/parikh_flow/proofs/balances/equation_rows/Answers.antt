use Rattle.std.proofs.Common.{◌≡◌, length, arith}
use Rattle.std.specs.Vec.Iter.{into_iter_items}
use Rattle.parikh_flow.proofs.BalanceLemmas.{rows-end, rows-step, rows-more}
use Rattle.parikh_flow.proofs.balances.equation_rows.Goals as goal

pub loop-form-preserved : goal.loop-form-preserved
loop-form-preserved c = record {
  can = tt;
  finite = tt;
  split = rows-step c.args.forms.items c.loop-form.yielded (into_iter_items c.loop-form.form-iterator) (into_iter_items c.next.new.self) c.in-Some.form c.loop-form.invariant.split c.in-Some.ensures.steps.0;
  rows = rows-more c.loop-form.yielded c.in-Some.form c.loop-form.rows c.push.new.self c.loop-form.invariant.rows c.in_ok-push.ensures.ok;
}

pub returns : goal.returns
returns c =
    let none : length (into_iter_items c.loop-form.form-iterator) ≡ 0 = omega (arith, c.loop-form.form-iterator.rest.ok, c.in-None.ensures.steps.0) in
    rows-end c.args.forms.items c.loop-form.yielded (into_iter_items c.loop-form.form-iterator) c.loop-form.rows c.loop-form.invariant.split none c.loop-form.invariant.rows
