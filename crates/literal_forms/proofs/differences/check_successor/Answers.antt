use Rattle.std.proofs.Common.{Err, rules, subst, sym, ◌≡◌, pos, [], ◌∷◌}
use Rattle.literal_forms.specs.Linear.{added, addition, of_number}
use Rattle.literal_forms.specs.Past.{IsPlainExactly}
use Rattle.literal_forms.proofs.Checked.{err_plain}
use Rattle.literal_forms.proofs.differences.check_successor.Goals as goal

pub returns-in_err-_sum : goal.returns-in_err-_sum
returns-in_err-_sum c us a m f =
    let steps = addition a (of_number (pos 1)) ∷ [] in
    let e : c.from_residual.result ≡ Err c.in_err-_sum.field-0.0 = search rules in
    subst (IsPlainExactly {X = Unit {0}} steps) (sym e)
    (err_plain (Unit {0}) us (added a (of_number (pos 1))) steps steps c.in_err-_sum.field-0.0 (λ l r h. h) (c.in_err-_sum.ensures us a (of_number (pos 1)) m f (c.number-one.ensures us)))

pub returns : goal.returns
returns c us a m f = (c.in_ok-_sum.ensures us a (of_number (pos 1)) m f (c.number-one.ensures us)).0
