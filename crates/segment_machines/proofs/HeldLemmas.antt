-- What is held of the pattern, against where the pattern stands.
use Rattle.std.proofs.Common.{◌≡◌, refl, sym, ap, ◌∙◌, ℕ, suc, ◌+◌, ◌-◌, ◌≤◌, ◌<◌, ⊎_elim, arith, true, false, [], ◌∷◌, ◌++◌, length, take, drop}
use Rattle.std.proofs.lemmas.List.{append-nil, append_assoc, append_cancel_left, length-append, length-take-le, take_more}
use Rattle.std.proofs.Math.Seq.{take-length}
use Rattle.sv_terms.specs.Language.{Word}
use Rattle.sv_terms.specs.Replacement.{Stands, StandsFirst, StandsNowhere, begins}
use Rattle.sv_terms.specs.ReplacementLaws.{begins-of}
use Rattle.replace_machines.specs.Borders.{IsBorder, IsNext}
use Rattle.replace_machines.specs.Rows.{at}
use Rattle.replace_machines.proofs.WordLemmas.{no-start, split-held}

front_same : (x y : ℕ) (v w : Word) → x ∷ v ≡ y ∷ w → (x ≡ y) × (v ≡ w)
front_same x y v w e = (cc, cc)

-- no occurrence begins with a character of `front`
abbrev pub NoStart : Word → Word → Word → Type 0
NoStart p front v = (i : ℕ) → i < length front → begins p (drop i (front ++ v)) ≡ false

stands-late : (p front v a b : Word) → NoStart p front v → Stands p (front ++ v) a b → (d : Word) × (a ≡ front ++ d) × Stands p v d b
stands-late p [] v a b h s = (a, refl, s)
stands-late p (c ∷ front) v [] b h s =
    let no = h 0 (omega arith) in
    let yes' : begins p ((c ∷ front) ++ v) ≡ true = ap (begins p) s ∙ begins-of p b in
    absurd (cc)
stands-late p (c ∷ front) v (x ∷ a) b h s =
    let e = front_same c x (front ++ v) (a ++ (p ++ b)) s in
    let k = stands-late p front v a b (λ i l. h (suc i) (omega (arith, l))) e.1 in
    (k.0, ap (λ n. n ∷ a) (sym e.0) ∙ ap (λ (u : Word). c ∷ u) k.1, k.2)

stands-front : (p front v a b : Word) → Stands p v a b → Stands p (front ++ v) (front ++ a) b
stands-front p front v a b s = ap (λ (u : Word). front ++ u) s ∙ sym (append_assoc front a (p ++ b))

-- the first occurrence is after it
pub first-after : (p front v d b : Word) → NoStart p front v → StandsFirst p v d b → StandsFirst p (front ++ v) (front ++ d) b
first-after p front v d b h f = record {
  stands = stands-front p front v d b f.stands;
  least = λ x y s.
      let k = stands-late p front v x y h s in
      let l = f.least k.0 y k.2 in
      let m = ap length k.1 ∙ length-append front k.0 in
      let n = length-append front d in
      omega (arith, l, m, n);
}

pub first-back : (p front v a b : Word) → NoStart p front v → StandsFirst p (front ++ v) a b → (d : Word) × (a ≡ front ++ d) × StandsFirst p v d b
first-back p front v a b h f =
    let k = stands-late p front v a b h f.stands in
    let m = ap length k.1 ∙ length-append front k.0 in (
      k.0,
      k.1,
      record {
        stands = k.2;
        least = λ x y s.
            let l = f.least (front ++ x) y (stands-front p front v x y s) in
            let n = length-append front x in
            omega (arith, l, m, n);
      },
    )

pub nowhere-after : (p front v : Word) → NoStart p front v → StandsNowhere p v → StandsNowhere p (front ++ v)
nowhere-after p front v h n a b s = let k = stands-late p front v a b h s in n k.0 b k.2

pub nowhere-back : (p front v : Word) → StandsNowhere p (front ++ v) → StandsNowhere p v
nowhere-back p front v n a b s = n (front ++ a) b (stands-front p front v a b s)

-- the first q characters of the pattern are followed by c: either the whole pattern is read, or some characters are passed at which no occurrence begins, and the first j of the pattern are held
pub record IsWhole (p : Word) (q c : ℕ) : Type 0 where
  pub last : suc q ≡ length p
  pub same : (w : Word) → take q p ++ (c ∷ w) ≡ p ++ w

pub record IsHeld (p : Word) (q c j : ℕ) : Type 0 where
  pub passed : Word
  pub same : (w : Word) → take q p ++ (c ∷ w) ≡ passed ++ (take j p ++ w)
  pub free : (w : Word) → NoStart p passed (take j p ++ w)

module _ (p : Word) (q c j : ℕ) (h : q < length p) (next : IsNext (at p) q c j) where
  pub next-most : j ≤ length p
  next-most = ⊎_elim (λ z. omega (arith, z)) (λ f. let s = f.1 in let b = f.2.0 in omega (arith, s, b, h)) next.fits

  pub whole-read : j ≡ length p → IsWhole p q c
  whole-read e = ⊎_elim (λ z. absurd (omega (arith, h, e, z))) (λ f. by f.0 f.1 f.2 f.3) next.fits
    where
      by : (i : ℕ) → j ≡ suc i → IsBorder (at p) q i → at p i ≡ c → IsWhole p q c
      by i s b g =
          let x = b.0 in
          let n : suc q ≡ length p = omega (arith, h, e, s, x) in
          let m : i ≡ q = omega (arith, h, e, s, x) in
          let one : take q p ++ (c ∷ []) ≡ p = ap (λ d. take q p ++ (d ∷ [])) (sym g ∙ ap (at p) m) ∙ sym (take_more p q 0 h) ∙ ap (λ k. take k p) (let z : q + 1 ≡ length p = omega (arith, n) in z) ∙ take-length p in
          record { last = n; same = λ w. sym (append_assoc (take q p) (c ∷ []) w) ∙ ap (λ (v : Word). v ++ w) one }

  -- the characters that are passed, by their number
  held-by : (front : Word) → length front ≡ q + 1 - j → take q p ++ (c ∷ []) ≡ front ++ take j p → IsHeld p q c j
  held-by front n e = record { passed = front; same = same; free = free }
    where
      same : (w : Word) → take q p ++ (c ∷ w) ≡ front ++ (take j p ++ w)
      same w = sym (append_assoc (take q p) (c ∷ []) w) ∙ ap (λ (v : Word). v ++ w) e ∙ append_assoc front (take j p) w

      free : (w : Word) → NoStart p front (take j p ++ w)
      free w i l = ap (λ (v : Word). begins p (drop i v)) (sym (same w)) ∙ no-start p q c j w i h next (omega (arith, l, n))

  pub held-next : j < length p → IsHeld p q c j
  held-next l = ⊎_elim none_held (λ f. some_held f.0 f.1 f.2 f.3) next.fits
    where
      none_held : j ≡ 0 → IsHeld p q c j
      none_held z =
          let n = length-append (take q p) (c ∷ []) in
          let t = length-take-le q p (omega (arith, h)) in
          held-by (take q p ++ (c ∷ [])) (omega (arith, n, t, z)) (sym (append-nil (take q p ++ (c ∷ []))) ∙ ap (λ k. (take q p ++ (c ∷ [])) ++ take k p) (sym z))

      some_held : (i : ℕ) → j ≡ suc i → IsBorder (at p) q i → at p i ≡ c → IsHeld p q c j
      some_held i s b g =
          let x = b.0 in
          let t = length-take-le (q - i) p (omega (arith, h)) in
          held-by (take (q - i) p) (omega (arith, t, s)) (split-held p q c i h b g ∙ ap (λ k. take (q - i) p ++ take k p) (sym s))

pub cancel-front : (a b c : Word) → a ++ b ≡ a ++ c → b ≡ c
cancel-front a b c e = append_cancel_left a b c e

-- the pattern stands at the front
pub first-front : (p w : Word) → StandsFirst p (p ++ w) [] w
first-front p w = record { stands = refl; least = λ c d s. omega arith }

pub front-first : (p w d b : Word) → StandsFirst p (p ++ w) d b → (d ≡ []) × (w ≡ b)
front-first p w d b f = by d (f.least [] w refl) f.stands
  where
    by : (d : Word) → length d ≤ 0 → p ++ w ≡ d ++ (p ++ b) → (d ≡ []) × (w ≡ b)
    by [] l s = (refl, append_cancel_left p w b s)
    by (x ∷ d) l s = absurd (omega (arith, l))
