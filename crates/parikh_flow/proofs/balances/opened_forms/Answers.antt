use Rattle.std.proofs.Common.{rules, ℤ, to_z, of_z, SFits, ◌≡◌, ◌∙◌, ◌++◌, ◌∷◌, ◌+◌, inl, inr, [], ℕ, List, Some, ap, length, length-append, refl, subst, sym}
use Rattle.std.proofs.lemmas.Int.{to_z-of_z}
use Rattle.std.specs.Int.{w128}
use Rattle.std.specs.Prelude.{slice_get}
use Rattle.sv_list.specs.Lists.{slice_get-push_cases}
use Rattle.sv_linear.specs.declared.form.Form.{Form}
use Rattle.parikh_flow.specs.Building.{AreOpened}
use Rattle.sv_linear.specs.Points.{unit}
use Rattle.parikh_flow.proofs.balances.opened_forms.Goals as goal

kept : (z : ℤ) → SFits w128 z → to_z w128 (of_z w128 z) ≡ z
kept z h = to_z-of_z w128 z h

none-there : {X : Type 0} (s : ℕ) (x : X) → slice_get [] s ≡ Some x → ⊥
none-there s x e = cc

opened-none : AreOpened 0 []
opened-none = record { size = refl; each = λ s f h. absurd (none-there s f h) }

opened-more : (n : ℕ) (forms new : List Form) (g : Form) → AreOpened n forms → new ≡ forms ++ g ∷ [] → g.coefficients ≡ [] → g.constant ≡ unit n 0 → AreOpened (n + 1) new
opened-more n forms new g o is co ct = record {
  size = ap length is ∙ length-append forms (g ∷ []) ∙ ap (λ k. k + 1) o.size;
  each = λ s f h. elim (slice_get-push_cases forms g s f (sym (ap (λ z. slice_get z s) is) ∙ h)) [
    | inl k ↦ o.each s f k
    | inr k ↦ subst (λ z. (z.coefficients ≡ []) × (z.constant ≡ unit s 0)) k.1 (co, ct ∙ ap (λ z. unit z 0) (sym (k.0 ∙ o.size)))
  ];
}

pub loop-state-init : goal.loop-state-init
loop-state-init c = subst (AreOpened 0) (sym c.new-forms.ensures.items) opened-none

pub loop-state-preserved : goal.loop-state-preserved
loop-state-preserved c = opened-more c.loop-state.state c.loop-state.forms.items c.push.new.self.items c.of_constant.result c.loop-state.invariant c.in_ok-push.ensures.items c.of_constant.ensures.coefficients (c.of_constant.ensures.constant ∙ kept c.entry_count.result (search rules) ∙ c.entry_count.ensures)
