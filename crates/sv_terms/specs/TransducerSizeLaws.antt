-- How much a transducer writes at most.
use Rattle.std.specs.Prelude.{◌≡◌, ℕ, zero, suc, ℤ, pos, ◌+ℤ◌, ◌+◌, ◌*◌, ◌≤◌, List, [], ◌∷◌, length, Contains, Option, Some, None}
use Rattle.std.proofs.Common.{refl, sym, ap, ◌∙◌, arith}
use Rattle.std.proofs.lemmas.List.{length-append}
use Rattle.std.proofs.lemmas.Option.{same_Some}
use Rattle.sv_terms.specs.Language.{Word}
use Rattle.sv_terms.specs.Transduction.{character, item_at, written_at, WritesWithin}
use Rattle.sv_terms.specs.TransductionLaws.{then_some, owes_within}
use Rattle.sv_terms.specs.TransducerSizes.{items_size, edges_most, ends_most}
use Rattle.sv_terms.specs.declared.transducer.Item.{Item}
use Rattle.sv_terms.specs.declared.transducer.Item.TheVariants as item
use Rattle.sv_terms.specs.declared.transducer.TransEdge.{TransEdge}
use Rattle.sv_terms.specs.declared.transducer.Transducer.{Transducer}

one_character : (c : ℕ) (k : ℤ) (a : Word) → item_at c (item.Shift k) ≡ Some a → length a ≡ 1
one_character c k a e = by (character (pos c +ℤ k)) refl
  where
    by : (o : Option ℕ) → character (pos c +ℤ k) ≡ o → length a ≡ 1
    by None h = absurd (cc)
    by (Some d) h = let same : a ≡ d ∷ [] = cc in ap length same

-- what is written has the size of the items
pub written_size : (c : ℕ) (is : List Item) (v : Word) → written_at c is ≡ Some v → length v ≡ items_size is
written_size c [] v e = sym (ap length (same_Some [] v e))
written_size c (item.Text w ∷ is) v e =
    let k = then_some (Some w) (written_at c is) v e in
    let n = ap length k.4 ∙ length-append k.0 k.1 in
    let m = ap length (same_Some w k.0 k.2) in
    let r = written_size c is k.1 k.3 in
    omega (arith, n, m, r)
written_size c (item.Shift z ∷ is) v e =
    let k = then_some (item_at c (item.Shift z)) (written_at c is) v e in
    let n = ap length k.4 ∙ length-append k.0 k.1 in
    let m = one_character c z k.0 k.2 in
    let r = written_size c is k.1 k.3 in
    omega (arith, n, m, r)

pub edge_most : (es : List TransEdge) (e : TransEdge) → Contains es e → items_size e.items ≤ edges_most es
edge_most [] e (k, lt, h) = absurd (omega (arith, lt))
edge_most (x ∷ es) e (zero, lt, h) = let n = ap (λ (y : TransEdge). items_size y.items) h in omega (arith, n)
edge_most (x ∷ es) e (suc k, lt, h) = let r = edge_most es e (k, omega (arith, lt), h) in omega (arith, r)

pub end_most : (es : List (ℕ × Word)) (e : ℕ × Word) → Contains es e → length e.1 ≤ ends_most es
end_most [] e (k, lt, h) = absurd (omega (arith, lt))
end_most (x ∷ es) e (zero, lt, h) = let n = ap (λ (y : ℕ × Word). length y.1) h in omega (arith, n)
end_most (x ∷ es) e (suc k, lt, h) = let r = end_most es e (k, omega (arith, lt), h) in omega (arith, r)

-- a path writes at most what its edges may, and a run at most what the last end may write more
pub within-most : (t : Transducer) → WritesWithin t (λ n. n * edges_most t.edges + ends_most t.ends)
within-most t = owes_within t (edges_most t.edges) (λ s. ends_most t.ends) (record {
  move = λ e s c v has m. let x = edge_most t.edges e has in let y = written_size c e.items v m.3 in omega (arith, x, y);
  ended = λ e has. end_most t.ends e has;
}) (ends_most t.ends) (λ s h. omega arith)
