-- The part of a list that a partition point bounds.
use Rattle.std.proofs.Common.{◌≡◌, ℕ, ◌-◌, ◌≤◌, ◌↔◌, true, false, List, length, take, drop, Contains, sym, subst, arith}
use Rattle.std.specs.List.Sorted.{IsPartitionPoint}
use Rattle.std.specs.Prelude.{nat_lt, nat_le}
use Rattle.std.proofs.lemmas.Bool.Decides.{nat_tests}
use Rattle.sv_list.specs.Lists.{partition-passing, partition-failing}

-- what two searches leave of pairs in the order of their first parts
pub between-exact : (pairs from out : List (ℕ × ℕ)) (low high i j : ℕ)
    → i ≤ length pairs → IsPartitionPoint (λ (y : ℕ × ℕ). nat_lt y.0 low ≡ true) (λ (y : ℕ × ℕ). nat_lt y.0 low ≡ false) pairs i → from ≡ drop i pairs
    → j ≤ length from → IsPartitionPoint (λ (y : ℕ × ℕ). nat_le y.0 high ≡ true) (λ (y : ℕ × ℕ). nat_le y.0 high ≡ false) from j → out ≡ take j from
    → (p : ℕ × ℕ) → Contains out p ↔ (Contains pairs p × (low ≤ p.0) × (p.0 ≤ high))
between-exact pairs from out low high i j l1 p1 e1 l2 p2 e2 p =
    let rest = partition-failing (λ (y : ℕ × ℕ). nat_lt y.0 low) pairs i l1 p1 p in
    let front = partition-passing (λ (y : ℕ × ℕ). nat_le y.0 high) from j l2 p2 p in (
      λ h.
          let a = front.0 (subst (λ l. Contains l p) e2 h) in
          let b = rest.0 (subst (λ l. Contains l p) e1 a.0) in
          (b.0, at-least low p.0 b.1, at-most high p.0 a.1),
      λ h. subst (λ l. Contains l p) (sym e2) (front.1 (subst (λ l. Contains l p) (sym e1) (rest.1 (h.0, not-below low p.0 h.1)), is-at-most high p.0 h.2)),
    )
  where
    at-least : (low n : ℕ) → nat_lt n low ≡ false → low ≤ n
    at-least low n e = grind (arith, nat_tests)

    at-most : (high n : ℕ) → nat_le n high ≡ true → n ≤ high
    at-most high n e = grind (arith, nat_tests)

    not-below : (low n : ℕ) → low ≤ n → nat_lt n low ≡ false
    not-below low n h = grind (arith, nat_tests)

    is-at-most : (high n : ℕ) → n ≤ high → nat_le n high ≡ true
    is-at-most high n h = grind (arith, nat_tests)
