use Rattle.std.proofs.Common.{Err, IfOk, Ok, Result, subst, sym}
use Rattle.literal_forms.specs.Linear.{less, minus_one, scaled}
use Rattle.literal_forms.specs.Numbered.{IsNumbered}
use Rattle.literal_forms.specs.declared.term_form.TermForm.{TermForm}
use Rattle.cube_draft.specs.Comparing.{IsBoundBy, IsPlus, form_by}
use Rattle.cube_draft.proofs.comparison.bound_form.Goals as goal

-- what holds of a form where this does, of an answer
answered : {E : Type 0} (P Q : TermForm → Type 0) (r : Result TermForm E) → ((f : TermForm) → P f → Q f) → IfOk r P → IfOk r Q
answered P Q (Ok f) k h = k f h
answered P Q (Err e) k h = h

pub returns-in-Below : goal.returns-in-Below
returns-in-Below c =
    answered (IsPlus c.args.differences.less) (IsBoundBy c.args.differences c.args.bound) c.plus_one.result
    (λ f p. record { each = λ us l r d. subst (λ b. IsNumbered us (form_by b (less l r)) f) (sym c.in-Below.is) (p.each us (less l r) d.numbered d.first) }) c.plus_one.ensures

pub returns-in-Above : goal.returns-in-Above
returns-in-Above c =
    answered (IsPlus c.args.differences.more) (IsBoundBy c.args.differences c.args.bound) c.plus_one-in-Above.result
    (λ f p. record { each = λ us l r d. subst (λ b. IsNumbered us (form_by b (less l r)) f) (sym c.in-Above.is) (p.each us (scaled (less l r) minus_one) d.numbered d.second) }) c.plus_one-in-Above.ensures

pub returns-in-Never : goal.returns-in-Never
returns-in-Never c = record { each = λ us l r d. subst (λ b. IsNumbered us (form_by b (less l r)) c.number.result) (sym c.in-Never.is) (c.number.ensures us) }
