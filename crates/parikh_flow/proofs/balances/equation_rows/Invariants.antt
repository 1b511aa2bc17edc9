use Rattle.std.proofs.Common.{◌≡◌, ◌++◌, map}
use Rattle.std.specs.Vec.Iter.{into_iter_items}
use Rattle.parikh_flow.specs.Building.{equation_row}
use Rattle.parikh_flow.proofs.balances.equation_rows.Given as goal

abbrev pub invariant-loop-form : goal.invariant-loop-form
invariant-loop-form l = record {
  can : goal.iterator-loop-form.can_next l.form-iterator;
  finite : goal.iterator-loop-form.is_finite l.form-iterator;
  split : l.fn.forms.items ≡ l.yielded ++ into_iter_items l.form-iterator;
  rows : l.rows ≡ map equation_row l.yielded;
}
