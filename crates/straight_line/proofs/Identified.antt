-- Places that are made one: each has the least place that is one with it.
use Rattle.std.proofs.Common.{◌≡◌, refl, sym, ap, ◌∙◌, subst, ℕ, ◌<◌, ◌⊎◌, inl, inr, min, max, Bool, true, false, List, [], ◌∷◌, length, get_or, arith}
use Rattle.std.specs.Prelude.{nat_eq, if◌then◌else◌}
use Rattle.std.specs.List.{AllByRecursion}
use Rattle.std.proofs.lemmas.List.{length-map, get_or-map}
use Rattle.std.proofs.lemmas.Bool.{cases_lt, eqb-true, eq-eqb}
use Rattle.straight_line.specs.Leading.{ArePairsBelow}
use Rattle.flat_cubes.specs.Flattening.{made_one, identified}

-- the least place that is one with a place
abbrev pub first : List ℕ → ℕ → ℕ
first firsts i = get_or firsts i i

-- the change of one step
abbrev pub step : ℕ → ℕ → ℕ → ℕ
step a b r = if nat_eq r (max a b) then min a b else r

made_at : (a b : ℕ) (xs : List ℕ) (i : ℕ) → i < length xs → first (made_one a b xs) i ≡ step a b (first xs i)
made_at a b xs i h = get_or-map (step a b) xs i i i h

pub made_length : (a b : ℕ) (xs : List ℕ) → length (made_one a b xs) ≡ length xs
made_length a b xs = length-map xs (step a b)

pub chosen : (t : Bool) (m : ℕ) → (if t then m else m) ≡ m
chosen true m = refl
chosen false m = refl

pub step_test : (a b r : ℕ) (t : Bool) → nat_eq r (max a b) ≡ t → step a b r ≡ (if t then min a b else r)
step_test a b r t e = ap (λ x. if x then min a b else r) e

pub step_high : (a b r : ℕ) → r ≡ max a b → step a b r ≡ min a b
step_high a b r e = step_test a b r true (eq-eqb r (max a b) e)

pub step_low : (a b r : ℕ) → r ≡ min a b → step a b r ≡ min a b
step_low a b r e = ap (λ x. if nat_eq r (max a b) then min a b else x) e ∙ chosen (nat_eq r (max a b)) (min a b)

pub step_other : (a b r : ℕ) → (r ≡ max a b → ⊥) → step a b r ≡ r
step_other a b r n = by_test (nat_eq r (max a b)) refl
  where
    by_test : (t : Bool) → nat_eq r (max a b) ≡ t → step a b r ≡ r
    by_test true e = absurd (n (eqb-true r (max a b) e))
    by_test false e = step_test a b r false e

-- what is one of the two becomes the lesser
pub low_or_high : (a b : ℕ) → ((a ≡ min a b) × (b ≡ max a b)) ⊎ ((a ≡ max a b) × (b ≡ min a b))
low_or_high a b = elim (cases_lt a b) [ inl h ↦ inl (omega arith, omega arith) | inr h ↦ inr (omega arith, omega arith) ]

-- the two are one afterwards
step_one : (a b : ℕ) → step a b a ≡ step a b b
step_one a b = elim (low_or_high a b) [
  | inl h ↦ step_low a b a h.0 ∙ sym (step_high a b b h.1)
  | inr h ↦ step_high a b a h.0 ∙ sym (step_low a b b h.1)
]

-- any other stays
step_kept : (a b r : ℕ) → (step a b r ≡ min a b) ⊎ (step a b r ≡ r)
step_kept a b r = by_test (nat_eq r (max a b)) refl
  where
    by_test : (t : Bool) → nat_eq r (max a b) ≡ t → (step a b r ≡ min a b) ⊎ (step a b r ≡ r)
    by_test true e = inl (step_test a b r true e)
    by_test false e = inr (step_test a b r false e)

module _ {X : Type 0} (ws : ℕ → X) where
  -- each place has what its least place has
  abbrev pub Agree : List ℕ → Type 0
  Agree xs = (i : ℕ) → i < length xs → ws i ≡ ws (first xs i)

  extremes : (a b : ℕ) → ws a ≡ ws b → ws (max a b) ≡ ws (min a b)
  extremes a b e = elim (low_or_high a b) [
    | inl h ↦ ap ws (sym h.1) ∙ sym e ∙ ap ws h.0
    | inr h ↦ ap ws (sym h.0) ∙ e ∙ ap ws h.1
  ]

  step_agrees : (a b r : ℕ) → ws a ≡ ws b → ws r ≡ ws (step a b r)
  step_agrees a b r e = by_test (nat_eq r (max a b)) refl
    where
      by_test : (t : Bool) → nat_eq r (max a b) ≡ t → ws r ≡ ws (step a b r)
      by_test true q = ap ws (eqb-true r (max a b) q) ∙ extremes a b e ∙ ap ws (sym (step_test a b r true q))
      by_test false q = ap ws (sym (step_test a b r false q))

  made_agrees : (a b : ℕ) (xs : List ℕ) → ws a ≡ ws b → Agree xs → Agree (made_one a b xs)
  made_agrees a b xs e g i h =
      let l : i < length xs = subst (λ n. i < n) (made_length a b xs) h in
      g i l ∙ step_agrees a b (first xs i) e ∙ ap ws (sym (made_at a b xs i l))

  abbrev pub Equal : List (ℕ × ℕ) → Type 0
  Equal es = AllByRecursion (λ (e : ℕ × ℕ). ws e.0 ≡ ws e.1) es

  pub identified_agrees : (es : List (ℕ × ℕ)) (xs : List ℕ) → ArePairsBelow (length xs) es → Equal es → Agree xs → Agree (identified es xs)
  identified_agrees [] xs w q g = g
  identified_agrees (e ∷ es) xs w q g =
      let a = first xs e.0 in
      let b = first xs e.1 in
      let same : ws (first xs e.0) ≡ ws (first xs e.1) = sym (g e.0 w.0.0) ∙ q.0 ∙ g e.1 w.0.1 in
      identified_agrees es (made_one (first xs e.0) (first xs e.1) xs) (subst (λ n. ArePairsBelow n es) (sym (made_length (first xs e.0) (first xs e.1) xs)) w.1) q.1 (made_agrees (first xs e.0) (first xs e.1) xs same g)

-- what is one stays one
abbrev pub AreOne : List ℕ → ℕ → ℕ → Type 0
AreOne xs i j = first xs i ≡ first xs j

made_keeps : (a b : ℕ) (xs : List ℕ) (i j : ℕ) → i < length xs → j < length xs → AreOne xs i j → AreOne (made_one a b xs) i j
made_keeps a b xs i j h l e = made_at a b xs i h ∙ ap (step a b) e ∙ sym (made_at a b xs j l)

pub identified_keeps : (es : List (ℕ × ℕ)) (xs : List ℕ) (i j : ℕ) → i < length xs → j < length xs → AreOne xs i j → AreOne (identified es xs) i j
identified_keeps [] xs i j h l e = e
identified_keeps (q ∷ es) xs i j h l e =
    let a = first xs q.0 in
    let b = first xs q.1 in
    let m = made_length (first xs q.0) (first xs q.1) xs in
    identified_keeps es (made_one (first xs q.0) (first xs q.1) xs) i j (subst (λ n. i < n) (sym m) h) (subst (λ n. j < n) (sym m) l) (made_keeps (first xs q.0) (first xs q.1) xs i j h l e)

-- and each pair is one in the end
pub identified_are_one : (es : List (ℕ × ℕ)) (xs : List ℕ) → AllByRecursion (λ (e : ℕ × ℕ). (e.0 < length xs) × (e.1 < length xs)) es → AllByRecursion (λ (e : ℕ × ℕ). AreOne (identified es xs) e.0 e.1) es
identified_are_one [] xs w = tt
identified_are_one (e ∷ es) xs w =
    let ys = made_one (first xs e.0) (first xs e.1) xs in
    let m = made_length (first xs e.0) (first xs e.1) xs in
    let one : AreOne (made_one (first xs e.0) (first xs e.1) xs) e.0 e.1 = made_at (first xs e.0) (first xs e.1) xs e.0 w.0.0 ∙ step_one (first xs e.0) (first xs e.1) ∙ sym (made_at (first xs e.0) (first xs e.1) xs e.1 w.0.1) in (
      identified_keeps es (made_one (first xs e.0) (first xs e.1) xs) e.0 e.1 (subst (λ n. e.0 < n) (sym m) w.0.0) (subst (λ n. e.1 < n) (sym m) w.0.1) one,
      identified_are_one es (made_one (first xs e.0) (first xs e.1) xs) (subst (λ n. AllByRecursion (λ (q : ℕ × ℕ). (q.0 < n) × (q.1 < n)) es) (sym m) w.1),
    )

-- each least place is its own
abbrev pub Rooted : List ℕ → Type 0
Rooted xs = (i : ℕ) → i < length xs → (first xs i < length xs) × (first xs (first xs i) ≡ first xs i)

low_of : (a b n : ℕ) → a < n → b < n → min a b < n
low_of a b n h l = omega arith

pub low_root : (xs : List ℕ) (a b : ℕ) → first xs a ≡ a → first xs b ≡ b → first xs (min a b) ≡ min a b
low_root xs a b p q = elim (low_or_high a b) [
  | inl o ↦ subst (λ z. first xs z ≡ z) o.0 p
  | inr o ↦ subst (λ z. first xs z ≡ z) o.1 q
]

step_rooted : (xs : List ℕ) (a b r : ℕ) → a < length xs → b < length xs → r < length xs → first xs a ≡ a → first xs b ≡ b → first xs r ≡ r → (step a b r < length xs) × (step a b (first xs (step a b r)) ≡ step a b r)
step_rooted xs a b r h l m p q t = elim (step_kept a b r) [
  | inl e ↦ (subst (λ z. z < length xs) (sym e) (low_of a b (length xs) h l), ap (λ z. step a b (first xs z)) e ∙ ap (step a b) (low_root xs a b p q) ∙ step_low a b (min a b) refl ∙ sym e)
  | inr e ↦ (subst (λ z. z < length xs) (sym e) m, ap (λ z. step a b (first xs z)) e ∙ ap (step a b) t)
]

made_rooted : (xs : List ℕ) (i j : ℕ) → i < length xs → j < length xs → Rooted xs → Rooted (made_one (first xs i) (first xs j) xs)
made_rooted xs i j h l g k m =
    let a = first xs i in
    let b = first xs j in
    let same = made_length (first xs i) (first xs j) xs in
    let k_in : k < length xs = subst (λ n. k < n) same m in
    let at_k = made_at (first xs i) (first xs j) xs k k_in in
    let s = step (first xs i) (first xs j) (first xs k) in
    let inside : (step (first xs i) (first xs j) (first xs k) < length xs) × (step (first xs i) (first xs j) (first xs (step (first xs i) (first xs j) (first xs k))) ≡ step (first xs i) (first xs j) (first xs k)) = step_rooted xs (first xs i) (first xs j) (first xs k) (g i h).0 (g j l).0 (g k k_in).0 (g i h).1 (g j l).1 (g k k_in).1 in
    let low : first (made_one (first xs i) (first xs j) xs) k < length xs = subst (λ n. n < length xs) (sym at_k) inside.0 in (
      subst (λ n. first (made_one (first xs i) (first xs j) xs) k < n) (sym same) low,
      ap (first (made_one (first xs i) (first xs j) xs)) at_k ∙ made_at (first xs i) (first xs j) xs (step (first xs i) (first xs j) (first xs k)) inside.0 ∙ inside.1 ∙ sym at_k,
    )

pub identified_rooted : (es : List (ℕ × ℕ)) (xs : List ℕ) → AllByRecursion (λ (e : ℕ × ℕ). (e.0 < length xs) × (e.1 < length xs)) es → Rooted xs → Rooted (identified es xs)
identified_rooted [] xs w g = g
identified_rooted (e ∷ es) xs w g =
    let m = made_length (first xs e.0) (first xs e.1) xs in
    identified_rooted es (made_one (first xs e.0) (first xs e.1) xs) (subst (λ n. AllByRecursion (λ (q : ℕ × ℕ). (q.0 < n) × (q.1 < n)) es) (sym m) w.1) (made_rooted xs e.0 e.1 w.0.0 w.0.1 g)

pub identified_length : (es : List (ℕ × ℕ)) (xs : List ℕ) → length (identified es xs) ≡ length xs
identified_length [] xs = refl
identified_length (e ∷ es) xs = identified_length es (made_one (first xs e.0) (first xs e.1) xs) ∙ made_length (first xs e.0) (first xs e.1) xs
