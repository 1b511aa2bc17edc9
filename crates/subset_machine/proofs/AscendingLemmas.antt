-- Ascending lists are told apart by their elements, and each finite set of numbers has one.
use Rattle.std.proofs.Common.{◌≡◌, ℕ, zero, suc, ◌+◌, ◌<◌, ◌≤◌, ◌⊎◌, inl, inr, ◌↔◌, List, [], ◌∷◌, Contains, refl, sym, ◌∙◌, arith}
use Rattle.std.specs.List.Sorted.{IsStrictlyIncreasing}
use Rattle.sv_list.specs.Lists.{Contains-here, Contains-there, Contains-none, Contains-cases}
use Rattle.subset_machine.specs.Subsets.{ListsAll}
use Rattle.subset_machine.specs.StateSets.{tail-increasing, head-below}

pub contains-join : {X : Type 0} (x : X) (xs : List X) (y : X) → (x ≡ y) ⊎ Contains xs y → Contains (x ∷ xs) y
contains-join x xs y (inl e) = (0, omega arith, e)
contains-join x xs y (inr i) = Contains-there x xs y i

heads-same : (x : ℕ) (xs : List ℕ) (y : ℕ) (ys : List ℕ) → IsStrictlyIncreasing (x ∷ xs) → IsStrictlyIncreasing (y ∷ ys)
    → (y ≡ x) ⊎ Contains ys x → (x ≡ y) ⊎ Contains xs y → x ≡ y
heads-same x xs y ys p q (inl e) b = sym e
heads-same x xs y ys p q (inr i) (inl e) = e
heads-same x xs y ys p q (inr i) (inr j) = let a = head-below y ys x q i in let b = head-below x xs y p j in absurd (omega arith)

tails-within : (x : ℕ) (xs : List ℕ) (y : ℕ) (ys : List ℕ) → x ≡ y → IsStrictlyIncreasing (x ∷ xs)
    → (t : ℕ) → (Contains (x ∷ xs) t → Contains (y ∷ ys) t) → Contains xs t → Contains ys t
tails-within x xs y ys e p t h i = elim (Contains-cases y ys t (h (Contains-there x xs t i))) [
  | inl s ↦ let below = head-below x xs t p i in absurd (omega arith)
  | inr j ↦ j
]

ascending-same : (xs ys : List ℕ) → IsStrictlyIncreasing xs → IsStrictlyIncreasing ys → ((t : ℕ) → Contains xs t ↔ Contains ys t) → xs ≡ ys
ascending-same [] [] p q h = refl
ascending-same [] (y ∷ ys) p q h = absurd (Contains-none y ((h y).1 (Contains-here y ys)))
ascending-same (x ∷ xs) [] p q h = absurd (Contains-none x ((h x).0 (Contains-here x xs)))
ascending-same (x ∷ xs) (y ∷ ys) p q h =
    let head = heads-same x xs y ys p q (Contains-cases y ys x ((h x).0 (Contains-here x xs))) (Contains-cases x xs y ((h y).1 (Contains-here y ys))) in
    let tail = ascending-same xs ys (tail-increasing x xs p) (tail-increasing y ys q)
    (λ t. (tails-within x xs y ys head p t (h t).0, tails-within y ys x xs (sym head) q t (h t).1)) in
    cc

-- two lists of all numbers with a fact are one
pub lists-same : (P : ℕ → Type 0) (xs ys : List ℕ) → ListsAll P xs → ListsAll P ys → xs ≡ ys
lists-same P xs ys p q = ascending-same xs ys p.ascending q.ascending (λ t. (λ i. (q.exact t).1 ((p.exact t).0 i), λ i. (p.exact t).1 ((q.exact t).0 i)))

pub lists-weaker : (P Q : ℕ → Type 0) (xs : List ℕ) → ((t : ℕ) → P t ↔ Q t) → ListsAll P xs → ListsAll Q xs
lists-weaker P Q xs h p = record {
  ascending = p.ascending;
  exact = λ t. (λ i. (h t).0 ((p.exact t).0 i), λ q. (p.exact t).1 ((h t).1 q));
}

-- the numbers rise, from `low` on
abbrev pub Rises : ℕ → List ℕ → Type 0
Rises low [] = Unit {0}
Rises low (x ∷ xs) = (low ≤ x) × Rises (suc x) xs

pub rises-increasing : (low : ℕ) (xs : List ℕ) → Rises low xs → IsStrictlyIncreasing xs
rises-increasing low [] h k lt = absurd (omega arith)
rises-increasing low (x ∷ []) h k lt = absurd (omega arith)
rises-increasing low (x ∷ y ∷ ys) h zero lt = let a = h.1.0 in omega arith
rises-increasing low (x ∷ y ∷ ys) h (suc k) lt =
    let r = rises-increasing (suc x) (y ∷ ys) h.1 k (omega arith) in
    let e : suc k + 1 ≡ suc (k + 1) = omega arith in
    rw e r

order : (x y : ℕ) → (x < y) ⊎ ((x ≡ y) ⊎ (y < x))
order x y = grind arith

-- a list with `x` in its place
abbrev Inserted : ℕ → ℕ → List ℕ → Type 0
Inserted low x ys = (zs : List ℕ) × Rises low zs × ((t : ℕ) → Contains zs t ↔ ((x ≡ t) ⊎ Contains ys t))

pub inserted : (low x : ℕ) (ys : List ℕ) → low ≤ x → Rises low ys → Inserted low x ys
inserted low x [] le h = (x ∷ [], (le, tt), λ t. (Contains-cases x [] t, contains-join x [] t))
inserted low x (y ∷ ys) le h = elim (order x y) [
  | inl lt ↦ (x ∷ y ∷ ys, (le, (omega arith, h.1)), λ t. (Contains-cases x (y ∷ ys) t, contains-join x (y ∷ ys) t))
  | inr r ↦ elim r [
    | inl e ↦ (y ∷ ys, h, λ t. (λ i. inr i, λ s. elim s [ inl d ↦ (0, omega arith, sym e ∙ d) | inr i ↦ i ]))
    | inr gt ↦
        let r = inserted (suc y) x ys (omega arith) h.1 in (
          y ∷ r.0,
          (h.0, r.1),
          λ t. (
            λ i. elim (Contains-cases y r.0 t i) [
              | inl e ↦ inr (contains-join y ys t (inl e))
              | inr j ↦ elim ((r.2 t).0 j) [ inl e ↦ inl e | inr k ↦ inr (Contains-there y ys t k) ]
            ],
            λ s. elim s [
              | inl e ↦ Contains-there y r.0 t ((r.2 t).1 (inl e))
              | inr i ↦ elim (Contains-cases y ys t i) [ inl e ↦ contains-join y r.0 t (inl e) | inr k ↦ Contains-there y r.0 t ((r.2 t).1 (inr k)) ]
            ],
          ),
        )
  ]
]
