-- Sums and depths that end at 2^32 - 1, and tests of lists of weights.
use Rattle.std.proofs.Common.{◌≡◌, refl, ap, ℕ, zero, suc, ◌+◌, ◌<◌, ◌≤◌, max, Bool, ◌&&◌, ◌||◌, List, [], ◌∷◌, length, map, get_or, drop, arith, add-one}
use Rattle.std.specs.List.{list_all, list_any}
use Rattle.std.proofs.lemmas.List.{drop_all}
use Rattle.term_weight.specs.Sizes.{total, one_deeper}
use Rattle.term_weight.specs.Weights.{capped}

module _ {A B : Type 0} (g : A → B) (f : B → ℕ) where
  total-next : (n : ℕ) (as_ : List A) (i : ℕ) (d : A) → i < length as_ → capped (n + total (map f (map g (drop i as_)))) ≡ capped (capped (n + f (g (get_or as_ i d))) + total (map f (map g (drop (suc i) as_))))
  total-next n [] i d h = absurd (omega arith)
  total-next n (a ∷ as_) zero d h = omega arith
  total-next n (a ∷ as_) (suc i) d h = total-next n as_ i d (omega arith)

  pub total-more : (n : ℕ) (as_ : List A) (i : ℕ) (d : A) → i < length as_ → capped (n + total (map f (map g (drop i as_)))) ≡ capped (capped (n + f (g (get_or as_ i d))) + total (map f (map g (drop (i + 1) as_))))
  total-more n as_ i d h = rw (add-one i) (total-next n as_ i d h)

  deeper : (n d : ℕ) (ns : List ℕ) → capped (max n (one_deeper (d ∷ ns))) ≡ capped (max (max n (capped (d + 1))) (one_deeper ns))
  deeper n d [] = omega arith
  deeper n d (m ∷ ns) = omega arith

  deepest-next : (n : ℕ) (as_ : List A) (i : ℕ) (d : A) → i < length as_ → capped (max n (one_deeper (map f (map g (drop i as_))))) ≡ capped (max (max n (capped (f (g (get_or as_ i d)) + 1))) (one_deeper (map f (map g (drop (suc i) as_)))))
  deepest-next n [] i d h = absurd (omega arith)
  deepest-next n (a ∷ as_) zero d h = deeper n (f (g a)) (map f (map g as_))
  deepest-next n (a ∷ as_) (suc i) d h = deepest-next n as_ i d (omega arith)

  pub deepest-more : (n : ℕ) (as_ : List A) (i : ℕ) (d : A) → i < length as_ → capped (max n (one_deeper (map f (map g (drop i as_))))) ≡ capped (max (max n (capped (f (g (get_or as_ i d)) + 1))) (one_deeper (map f (map g (drop (i + 1) as_)))))
  deepest-more n as_ i d h = rw (add-one i) (deepest-next n as_ i d h)

module _ {A : Type 0} where
  pub map-as-it-is : (f : A → A) → ((a : A) → f a ≡ a) → (as_ : List A) → map f as_ ≡ as_
  map-as-it-is f h [] = refl
  map-as-it-is f h (a ∷ as_) = λ i. h a i ∷ map-as-it-is f h as_ i

  pub total-end : {B : Type 0} (g : A → B) (f : B → ℕ) (as_ : List A) (i n w : ℕ) → length as_ ≤ i → n ≤ 4294967295 → capped (n + total (map f (map g (drop i as_)))) ≡ w → n ≡ w
  total-end g f as_ i n w h k e = let d : capped (n + total (map f (map g (drop i as_)))) ≡ capped (n + 0) = ap (λ z. capped (n + total (map f (map g z)))) (drop_all i as_ h) in omega arith

  pub deepest-end : {B : Type 0} (g : A → B) (f : B → ℕ) (as_ : List A) (i n w : ℕ) → length as_ ≤ i → n ≤ 4294967295 → capped (max n (one_deeper (map f (map g (drop i as_))))) ≡ w → n ≡ w
  deepest-end g f as_ i n w h k e = let d : capped (max n (one_deeper (map f (map g (drop i as_))))) ≡ capped (max n 0) = ap (λ z. capped (max n (one_deeper (map f (map g z))))) (drop_all i as_ h) in omega arith

  module _ (p : A → Bool) where
    all-next : (as_ : List A) (i : ℕ) (d : A) → i < length as_ → list_all p (drop i as_) ≡ (p (get_or as_ i d) && list_all p (drop (suc i) as_))
    all-next [] i d h = absurd (omega arith)
    all-next (a ∷ as_) zero d h = refl
    all-next (a ∷ as_) (suc i) d h = all-next as_ i d (omega arith)

    pub all-more : (as_ : List A) (i : ℕ) (d : A) → i < length as_ → list_all p (drop i as_) ≡ (p (get_or as_ i d) && list_all p (drop (i + 1) as_))
    all-more as_ i d h = rw add-one (all-next as_ i d h)

  any-next : {B C : Type 0} (p : C → Bool) (f : B → C) (g : A → B) (as_ : List A) (i : ℕ) (d : A) → i < length as_ → list_any p (map f (map g (drop i as_))) ≡ (p (f (g (get_or as_ i d))) || list_any p (map f (map g (drop (suc i) as_))))
  any-next p f g [] i d h = absurd (omega arith)
  any-next p f g (a ∷ as_) zero d h = refl
  any-next p f g (a ∷ as_) (suc i) d h = any-next p f g as_ i d (omega arith)

  pub any-more : {B C : Type 0} (p : C → Bool) (f : B → C) (g : A → B) (as_ : List A) (i : ℕ) (d : A) → i < length as_ → list_any p (map f (map g (drop i as_))) ≡ (p (f (g (get_or as_ i d))) || list_any p (map f (map g (drop (i + 1) as_))))
  any-more p f g as_ i d h = rw add-one (any-next p f g as_ i d h)

pub ruleset sums = (total-more, deepest-more, total-end, deepest-end, drop_all, all-more, any-more)
