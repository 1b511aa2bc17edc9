-- When two terms of one form are one: where their parts are.
use Rattle.std.proofs.Common.{◌≡◌, sym, ap, ◌∙◌, Bool, false, IsTrue, List, ℕ}
use Rattle.std.specs.Prelude.{◌↔◌}
use Rattle.sv_terms.specs.declared.regex.Regex.{Regex}
use Rattle.sv_terms.specs.declared.term.Term.{Term, roll-Term}
use Rattle.sv_terms.specs.declared.term.Term.TheVariants as v
use Rattle.sv_terms.specs.declared.term.Term.TheOpen.{Term-F}
use Rattle.sv_terms.specs.declared.term.Term.TheViews.{out-Term, out-roll-Term}

opened : (x y : Term-F Term) (r s : Term) → roll-Term x ≡ r → roll-Term y ≡ s → r ≡ s → x ≡ y
opened x y r s p q e = sym (out-roll-Term x) ∙ ap out-Term (p ∙ e ∙ sym q) ∙ out-roll-Term y

one_text : (a b : List ℕ) → v.Text a ≡ v.Text b → a ≡ b
one_text a b e = let k = opened (Term-F.Text a) (Term-F.Text b) _ _ (v.rolls-Text a) (v.rolls-Text b) e in cc

pub same-Text : (q : Bool) (x y : Term) (a b : List ℕ) → x ≡ v.Text a → y ≡ v.Text b → IsTrue q ↔ (a ≡ b) → IsTrue q ↔ (x ≡ y)
same-Text q x y a b p k h = (λ t. p ∙ ap v.Text (h.0 t) ∙ sym k, λ e. h.1 (one_text a b (sym p ∙ e ∙ k)))

one_word : (a b : Term) (r s : Regex) → v.InRe a r ≡ v.InRe b s → a ≡ b
one_word a b r s e = let k = opened (Term-F.InRe a r) (Term-F.InRe b s) _ _ (v.rolls-InRe a r) (v.rolls-InRe b s) e in cc

one_language : (a b : Term) (r s : Regex) → v.InRe a r ≡ v.InRe b s → r ≡ s
one_language a b r s e = let k = opened (Term-F.InRe a r) (Term-F.InRe b s) _ _ (v.rolls-InRe a r) (v.rolls-InRe b s) e in cc

pub same-language : (q : Bool) (x y a b : Term) (r s : Regex) → x ≡ v.InRe a r → y ≡ v.InRe b s → a ≡ b → IsTrue q ↔ (r ≡ s) → IsTrue q ↔ (x ≡ y)
same-language q x y a b r s p k w h = (λ t. p ∙ (λ i. v.InRe (w i) (h.0 t i)) ∙ sym k, λ e. h.1 (one_language a b r s (sym p ∙ e ∙ k)))

pub other-word : (q : Bool) (x y a b : Term) (r s : Regex) → x ≡ v.InRe a r → y ≡ v.InRe b s → q ≡ false → IsTrue q ↔ (a ≡ b) → IsTrue q ↔ (x ≡ y)
other-word q x y a b r s p k n h = (λ t. absurd (cc), λ e. h.1 (one_word a b r s (sym p ∙ e ∙ k)))
