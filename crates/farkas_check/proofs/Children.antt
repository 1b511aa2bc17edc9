-- The rows of a node's child, as the program keeps them and as the definition has them.
use Rattle.std.proofs.Common.{◌≡◌, ℕ, false, ℤ, List, [], ◌∷◌, ◌++◌, ap, sym, ◌∙◌, subst, append_assoc}
use Rattle.farkas_check.specs.Systems.{Constraint}
use Rattle.farkas_check.specs.NodeLaws.{Told}
use Rattle.farkas_check.specs.declared.net.Net.{Net}
use Rattle.farkas_check.specs.declared.tree.Tree.{Tree}

pub to_child : (nets : List Net) (sys above : List Constraint) (c d : Constraint) (now tree : Tree) → c ≡ d → now ≡ tree →
    Told nets (sys ++ (above ++ c ∷ [])) now → Told nets ((sys ++ above) ++ d ∷ []) tree
to_child nets sys above c d now tree e f t =
    let rows : sys ++ (above ++ c ∷ []) ≡ (sys ++ above) ++ d ∷ [] = sym (append_assoc sys above (c ∷ [])) ∙ ap (λ w. (sys ++ above) ++ w ∷ []) e in
    subst (λ (r : List Constraint). Told nets r tree) rows (subst (λ (w : Tree). Told nets (sys ++ (above ++ c ∷ [])) w) f t)

pub from_child : (nets : List Net) (sys above : List Constraint) (c d : Constraint) (now tree : Tree) → c ≡ d → now ≡ tree →
    Told nets ((sys ++ above) ++ d ∷ []) tree → Told nets (sys ++ (above ++ c ∷ [])) now
from_child nets sys above c d now tree e f t =
    let rows : sys ++ (above ++ c ∷ []) ≡ (sys ++ above) ++ d ∷ [] = sym (append_assoc sys above (c ∷ [])) ∙ ap (λ w. (sys ++ above) ++ w ∷ []) e in
    subst (λ (w : Tree). Told nets (sys ++ (above ++ c ∷ [])) w) (sym f) (subst (λ (r : List Constraint). Told nets r tree) (sym rows) t)

pub with_constant : (terms : List (ℕ × ℤ)) (a b : ℤ) → a ≡ b →
    (let c : Constraint = record { terms = terms; constant = a; equal = false } in c) ≡ (let d : Constraint = record { terms = terms; constant = b; equal = false } in d)
with_constant terms a b e = ap (λ z. let c : Constraint = record { terms = terms; constant = z; equal = false } in c) e
