-- Two machines that read a word together.
use Rattle.std.proofs.Common.{◌≡◌, ℕ, List, [], ◌∷◌, length, refl, sym, ap, ◌∙◌}
use Rattle.sv_word.specs.Words.{IsWord}
use Rattle.machine_core.specs.Costs.{add_costs, zeros}
use Rattle.machine_core.specs.CostLaws.{add_costs-zeros}
use Rattle.machine_core.specs.Language.{RunsFrom}
use Rattle.machine_meet.specs.Products.{AllRead}

module _ {P S : Type 0} (ends : P → S → List ℕ → Type 0) (steps : P → S → ℕ → List ℕ → S → Type 0) (first : P → S) (width : ℕ) (p q : P)
    (wide : (word cost : List ℕ) → RunsFrom (ends q) (steps q) (first q) word cost → length cost ≡ width) where
  pub both-out : (word cost : List ℕ) → AllRead ends steps first width (p ∷ q ∷ []) word cost
      → (a b : List ℕ) × RunsFrom (ends p) (steps p) (first p) word a × RunsFrom (ends q) (steps q) (first q) word b × (add_costs a b ≡ cost)
  both-out word cost h =
      let r = h.3 in
      let free = sym (add_costs-zeros r.0 width (wide word r.0 r.2)) ∙ ap (add_costs r.0) (sym r.3.1) ∙ r.4 in
      (h.0, r.0, h.2, r.2, ap (add_costs h.0) free ∙ h.4)

  pub both-in : (word cost : List ℕ) → IsWord word
      → (a b : List ℕ) × RunsFrom (ends p) (steps p) (first p) word a × RunsFrom (ends q) (steps q) (first q) word b × (add_costs a b ≡ cost)
      → AllRead ends steps first width (p ∷ q ∷ []) word cost
  both-in word cost is h = (h.0, h.1, h.2, (h.1, zeros width, h.3, (is, refl), add_costs-zeros h.1 width (wide word h.1 h.3)), h.4)
