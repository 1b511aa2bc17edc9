use Rattle.std.proofs.Common.{Err, rules, subst, sym, ◌≡◌}
use Rattle.literal_forms.specs.Past.{IsPlainExactly, comparison_steps, equality_steps}
use Rattle.literal_forms.specs.Shapes.{seen}
use Rattle.literal_forms.specs.declared.differences.Differences.{Differences}
use Rattle.literal_forms.proofs.Checked.{equality_past, less_one_fault, more_one_fault, order_plain}
use Rattle.literal_forms.specs.PastLaws.{err_kept}
use Rattle.literal_forms.proofs.differences.order.Goals as goal

pub returns-in_err-both : goal.returns-in_err-both
returns-in_err-both c =
    let e : c.from_residual.result ≡ Err c.in_err-both.field-0.0 = search rules in
    subst (IsPlainExactly {X = Unit {0}} (comparison_steps (seen c.args.left.now) (seen c.args.right.now))) (sym e)
    (err_kept Differences (Unit {0}) (equality_steps (seen c.args.left.now) (seen c.args.right.now)) (comparison_steps (seen c.args.left.now) (seen c.args.right.now)) c.in_err-both.field-0.0 (equality_past (seen c.args.left.now) (seen c.args.right.now)) c.in_err-both.ensures.steps)

pub returns-in_err-check_successor : goal.returns-in_err-check_successor
returns-in_err-check_successor c =
    let e : c.from_residual-in_err-check_successor.result ≡ Err c.in_err-check_successor.field-0.0 = search rules in
    subst (IsPlainExactly {X = Unit {0}} (comparison_steps (seen c.args.left.now) (seen c.args.right.now))) (sym e)
    (less_one_fault (Unit {0}) (seen c.args.left.now) (seen c.args.right.now) c.subtract.new.unknowns.codes c.in_ok-both.both c.in_ok-both.ensures.forms c.in_err-check_successor.field-0.0 c.in_err-check_successor.ensures)

pub returns-in_err-check_successor-2 : goal.returns-in_err-check_successor-2
returns-in_err-check_successor-2 c =
    let e : c.from_residual-in_err-check_successor-2.result ≡ Err c.in_err-check_successor-2.field-0.0 = search rules in
    subst (IsPlainExactly {X = Unit {0}} (comparison_steps (seen c.args.left.now) (seen c.args.right.now))) (sym e)
    (more_one_fault (Unit {0}) (seen c.args.left.now) (seen c.args.right.now) c.subtract.new.unknowns.codes c.in_ok-both.both c.in_ok-both.ensures.forms c.in_err-check_successor-2.field-0.0 c.in_err-check_successor-2.ensures)

pub returns : goal.returns
returns c =
    order_plain (seen c.args.left.now) (seen c.args.right.now) c.subtract.new.unknowns.codes c.in_ok-both.both c.in_ok-both.ensures.forms c.in_ok-both.ensures.steps c.in_ok-check_successor.ensures c.in_ok-check_successor-2.ensures
