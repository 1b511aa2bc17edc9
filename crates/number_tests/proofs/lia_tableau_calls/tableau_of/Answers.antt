use Rattle.std.proofs.Common.{◌≡◌, ◌∷◌, [], Some, None, length, length-append, slice_get, ap, sym, ◌∙◌, arith}
use Rattle.number_tests.proofs.LiaTableauRows.{each_pushed}
use Rattle.number_tests.proofs.lia_tableau_calls.tableau_of.Goals as goal
use Rattle.sv_linear.specs.Rows.{IsRowWithin}

pub loop-entries-init : goal.loop-entries-init
loop-entries-init c = record {
  size = ap length c.new-rows.ensures;
  each = λ i r g. let e : Some r ≡ None = sym g ∙ ap (λ l. slice_get l i) c.new-rows.ensures in absurd (cc);
}

pub loop-entries-preserved : goal.loop-entries-preserved
loop-entries-preserved c = record {
  size = omega (arith, ap length c.in_ok-push.ensures.ok, length-append c.loop-entries.rows (c.in_ok-row_of.field-0 ∷ []), c.loop-entries.invariant.size);
  each = rw c.in_ok-push.ensures.ok (each_pushed (IsRowWithin 2) c.loop-entries.rows c.in_ok-row_of.field-0 c.loop-entries.invariant.each c.in_ok-row_of.ensures);
}

pub new-requires : goal.new-requires
new-requires c = rw c.as_slice.ensures c.loop-entries.invariant.each
