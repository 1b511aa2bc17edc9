-- Two values of which one has a form and the other hasn't.
use Rattle.std.proofs.Common.{◌≡◌, sym, ◌∙◌, false, IsTrue}
use Rattle.std.specs.Prelude.{◌↔◌}

pub differ : {A : Type 0} (x y form : A) → x ≡ form → (y ≡ form → ⊥) → IsTrue false ↔ (x ≡ y)
differ x y form p n = (λ f. absurd (cc), λ e. absurd (n (sym e ∙ p)))
