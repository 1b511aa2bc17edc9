-- How many values have a fact.
use Rattle.std.specs.Prelude.{◌≡◌, ℕ, zero, suc, ◌+◌, ◌*◌, ◌<◌, ◌≤◌, ◌⊎◌, List, [], ◌∷◌, ◌++◌, length, map, Contains}
use Rattle.std.specs.List.{range_with_len}
use Rattle.std.proofs.Common.{arith, ap, ◌∙◌, subst, inl, inr}
use Rattle.std.proofs.lemmas.List.{length-append, length-map}
use Rattle.std.proofs.lemmas.List.Elements.{Contains-append_left, Contains-append_right}
use Rattle.std.proofs.lemmas.List.FromFn.{length-range_with_len}
use Rattle.std.proofs.lemmas.Nat.{mul-le}
use Rattle.sv_list.specs.Lists.{Contains-here, Contains-there, Contains-map}

-- the values with this fact are at most n: they all stand in a list that is no longer
pub record AreAtMost {S : Type 0} (P : S → Type 0) (n : ℕ) : Type 0 where
  pub all : List S
  pub few : length all ≤ n
  pub each : (s : S) → P s → Contains all s

pub at_most-weaker : {S : Type 0} (P Q : S → Type 0) (n m : ℕ) → ((s : S) → Q s → P s) → n ≤ m → AreAtMost P n → AreAtMost Q m
at_most-weaker P Q n m h le a = record {
  all = a.all;
  few = let f = a.few in omega arith;
  each = λ s q. a.each s (h s q);
}

pub at_most-one : {S : Type 0} (x : S) → AreAtMost (λ s. x ≡ s) 1
at_most-one x = record {
  all = x ∷ [];
  few = omega arith;
  each = λ s e. subst (Contains (x ∷ [])) e (Contains-here x []);
}

-- what is made of such values is no more
pub at_most-made : {S T : Type 0} (f : S → T) (P : S → Type 0) (Q : T → Type 0) (n : ℕ) → ((t : T) → Q t → (s : S) × P s × (f s ≡ t)) → AreAtMost P n → AreAtMost Q n
at_most-made f P Q n h a = record {
  all = map f a.all;
  few = let size = length-map a.all f in let few = a.few in omega arith;
  each = λ t q. let s = h t q in subst (Contains (map f a.all)) s.2 (Contains-map f a.all s.0 (a.each s.0 s.1));
}

pub at_most-either : {S : Type 0} (P Q : S → Type 0) (n m : ℕ) → AreAtMost P n → AreAtMost Q m → AreAtMost (λ s. P s ⊎ Q s) (n + m)
at_most-either P Q n m a b = record {
  all = a.all ++ b.all;
  few = let size = length-append a.all b.all in let x = a.few in let y = b.few in omega arith;
  each = λ s h. elim h [
    | inl p ↦ Contains-append_left a.all b.all s (a.each s p)
    | inr q ↦ Contains-append_right a.all b.all s (b.each s q)
  ];
}

-- each value of the one list with each of the other
abbrev pairs : {S T : Type 0} → List S → List T → List (S × T)
pairs [] ys = []
pairs (x ∷ xs) ys = map (λ y. (x, y)) ys ++ pairs xs ys

length-pairs : {S T : Type 0} (xs : List S) (ys : List T) → length (pairs xs ys) ≡ length xs * length ys
length-pairs [] ys = omega arith
length-pairs {S} {T} (x ∷ xs) ys =
    let more : length ys + length xs * length ys ≡ suc (length xs) * length ys = omega arith in
    length-append (map (λ (y : T). (x, y)) ys) (pairs xs ys) ∙ ap (λ n. n + length (pairs xs ys)) (length-map ys (λ (y : T). (x, y)))
    ∙ ap (λ n. length ys + n) (length-pairs xs ys) ∙ more

pairs-contain : {S T : Type 0} (xs : List S) (ys : List T) (x : S) (y : T) → Contains xs x → Contains ys y → Contains (pairs xs ys) (x, y)
pairs-contain [] ys x y (k, lt, e) c = absurd (omega arith)
pairs-contain {S} {T} (z ∷ xs) ys x y (zero, lt, e) c =
    let r = Contains-append_left (map (λ (y : T). (z, y)) ys) (pairs xs ys) (z, y) (Contains-map (λ (y : T). (z, y)) ys y c) in
    subst (λ w. Contains (pairs (z ∷ xs) ys) (w, y)) e r
pairs-contain {S} {T} (z ∷ xs) ys x y (suc k, lt, e) c =
    Contains-append_right (map (λ (y : T). (z, y)) ys) (pairs xs ys) (x, y) (pairs-contain xs ys x y (k, omega arith, e) c)

pub at_most-pairs : {S T : Type 0} (P : S → Type 0) (Q : T → Type 0) (n m : ℕ) → AreAtMost P n → AreAtMost Q m → AreAtMost (λ (p : S × T). P p.0 × Q p.1) (n * m)
at_most-pairs P Q n m a b = record {
  all = pairs a.all b.all;
  few = let size = length-pairs a.all b.all in let most = mul-le (length a.all) (length b.all) n m a.few b.few in omega arith;
  each = λ p h. pairs-contain a.all b.all p.0 p.1 (a.each p.0 h.0) (b.each p.1 h.1);
}

range-contains : (k n d : ℕ) → d < n → Contains (range_with_len k n) (k + d)
range-contains k zero d h = absurd (omega arith)
range-contains k (suc n) zero h = subst (Contains (range_with_len k (suc n))) (let e : k ≡ k + 0 = omega arith in e) (Contains-here k (range_with_len (k + 1) n))
range-contains k (suc n) (suc d) h =
    let e : k + 1 + d ≡ k + suc d = omega arith in
    subst (Contains (range_with_len k (suc n))) e (Contains-there k (range_with_len (k + 1) n) (k + 1 + d) (range-contains (k + 1) n d (omega arith)))

pub at_most-below : (n : ℕ) → AreAtMost (λ s. s < n) n
at_most-below n = record {
  all = range_with_len 0 n;
  few = let size = length-range_with_len 0 n in omega arith;
  each = λ s h. subst (Contains (range_with_len 0 n)) (let e : 0 + s ≡ s = omega arith in e) (range-contains 0 n s h);
}
