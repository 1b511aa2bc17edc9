-- Patterns in words: where one stands, and what a replacement makes of it.
use Rattle.std.proofs.Common.{◌≡◌, refl, ap, sym, ◌∙◌, subst, ℕ, zero, suc, ◌+◌, ◌-◌, ◌<◌, ◌≤◌, Bool, true, false, [], ◌∷◌, ◌++◌, length, take, drop, reverse, if◌then◌else◌, arith}
use Rattle.std.proofs.lemmas.List.{append-nil, reverse-append, reverse-reverse, length-append, length-reverse, take-append-drop, drop-drop, length-drop}
use Rattle.std.proofs.Math.Seq.{take-append_seam, drop-append_seam, drop-nil, take-nil}
use Rattle.std.proofs.lemmas.Bool.{false_from_ne_true}
use Rattle.sv_terms.specs.Language.{Word}
use Rattle.sv_terms.specs.ReplacementLaws.{begins-of, begins-split, passed}
use Rattle.sv_terms.specs.Replacement.{IsFirst, begins, occurs, replace_first, replace_from}

pub starts-so : (p w : Word) → take (length p) w ≡ p → begins p w ≡ true
starts-so p w e = subst (λ (v : Word). begins p v ≡ true) (ap (λ (q : Word). q ++ drop (length p) w) (sym e) ∙ take-append-drop (length p) w) (begins-of p (drop (length p) w))

taken : (p w : Word) → begins p w ≡ true → take (length p) w ≡ p
taken p w e = ap (take (length p)) (begins-split p w e) ∙ take-append_seam p (drop (length p) w)

pub starts-not : (p w : Word) → (take (length p) w ≡ p → ⊥) → begins p w ≡ false
starts-not p w n = false_from_ne_true (begins p w) (λ e. n (taken p w e))

pub too-long : (p w : Word) → length w < length p → begins p w ≡ false
too-long p w h = false_from_ne_true (begins p w) (λ e. let k = ap length (begins-split p w e) ∙ length-append p (drop (length p) w) in omega (arith, h, k))

pub fits : (p w : Word) → begins p w ≡ true → length p ≤ length w
fits p w e = let k = ap length (begins-split p w e) ∙ length-append p (drop (length p) w) in omega (arith, k)

-- at the end of a word
pub ends-so : (p w : Word) → drop (length w - length p) w ≡ p → begins (reverse p) (reverse w) ≡ true
ends-so p w e =
    let k = length w - length p in
    let whole : reverse w ≡ reverse p ++ reverse (take k w) = ap reverse (sym (take-append-drop k w) ∙ ap (λ (q : Word). take k w ++ q) e) ∙ reverse-append (take k w) p in
    subst (λ (v : Word). begins (reverse p) v ≡ true) (sym whole) (begins-of (reverse p) (reverse (take k w)))

cut-end : (w a p : Word) → w ≡ a ++ p → drop (length w - length p) w ≡ p
cut-end w a p e =
    let n : length w - length p ≡ length a = let k = ap length e ∙ length-append a p in omega (arith, k) in
    ap (λ k. drop k w) n ∙ ap (drop (length a)) e ∙ drop-append_seam a p

at_end : (p w : Word) → begins (reverse p) (reverse w) ≡ true → drop (length w - length p) w ≡ p
at_end p w e =
    let s = drop (length (reverse p)) (reverse w) in
    let whole : w ≡ reverse s ++ p = sym (reverse-reverse w) ∙ ap reverse (begins-split (reverse p) (reverse w) e) ∙ reverse-append (reverse p) s ∙ ap (λ (q : Word). reverse s ++ q) (reverse-reverse p) in
    cut-end w (reverse s) p whole

pub ends-not : (p w : Word) → (drop (length w - length p) w ≡ p → ⊥) → begins (reverse p) (reverse w) ≡ false
ends-not p w n = false_from_ne_true (begins (reverse p) (reverse w)) (λ e. n (at_end p w e))

pub too-long-end : (p w : Word) → length w < length p → begins (reverse p) (reverse w) ≡ false
too-long-end p w h = too-long (reverse p) (reverse w) (omega (arith, h, length-reverse p, length-reverse w))

-- where a pattern stands first
pub drop-none : (w : Word) → drop 0 w ≡ w
drop-none [] = drop-nil 0
drop-none (c ∷ w) = refl

occurs-skip : (p : Word) (c : ℕ) (w : Word) → begins p (c ∷ w) ≡ false → occurs p (c ∷ w) ≡ occurs p w
occurs-skip p c w e = ap (λ b. if b then true else occurs p w) e

occurs-here : (p : Word) (c : ℕ) (w : Word) → begins p (c ∷ w) ≡ true → occurs p (c ∷ w) ≡ true
occurs-here p c w e = ap (λ b. if b then true else occurs p w) e

never : (p v : Word) → ((i : ℕ) → i ≤ length v → begins p (drop i v) ≡ false) → occurs p v ≡ false
never p [] n = n zero (omega arith)
never p (c ∷ v) n = occurs-skip p c v (n zero (omega arith)) ∙ never p v (λ i h. n (suc i) (omega (arith, h)))

pub never-after : (p w : Word) (k : ℕ) → k ≤ length w → ((i : ℕ) → k ≤ i → i ≤ length w → begins p (drop i w) ≡ false) → occurs p (drop k w) ≡ false
never-after p w k h n = never p (drop k w) (λ i g. subst (λ (v : Word). begins p v ≡ false) (sym (drop-drop i k w)) (n (k + i) (omega arith) (let m = length-drop k w in omega (arith, g, h, m))))

occurs-later : (p : Word) (c : ℕ) (v : Word) → occurs p v ≡ true → occurs p (c ∷ v) ≡ true
occurs-later p c v e = by (begins p (c ∷ v)) refl
  where
    by : (b : Bool) → begins p (c ∷ v) ≡ b → occurs p (c ∷ v) ≡ true
    by true q = occurs-here p c v q
    by false q = occurs-skip p c v q ∙ e

somewhere : (p v : Word) (k : ℕ) → begins p (drop k v) ≡ true → k ≤ length v → occurs p v ≡ true
somewhere p [] zero e h = subst (λ (q : Word). begins p q ≡ true) (drop-nil 0) e
somewhere p [] (suc k) e h = absurd (omega (arith, h))
somewhere p (c ∷ v) zero e h = occurs-here p c v e
somewhere p (c ∷ v) (suc k) e h = occurs-later p c v (somewhere p v k e (omega (arith, h)))

pub occurs-first : (w p : Word) (k : ℕ) → IsFirst w p 0 k → occurs p w ≡ true
occurs-first w p k first = somewhere p w k first.stands first.within

-- a place behind the first character
farther : (n k c : ℕ) (v : Word) → drop (k + n) v ≡ drop (suc k + n) (c ∷ v)
farther n k c v = let same : suc k + n ≡ suc (k + n) = omega arith in sym (ap (λ m. drop m (c ∷ v)) same)

-- the first occurrence is replaced
pub replaced : (p u v : Word) (k : ℕ) → k ≤ length v → ((i : ℕ) → i < k → begins p (drop i v) ≡ false) → begins p (drop k v) ≡ true → replace_first p u v ≡ take k v ++ (u ++ drop (k + length p) v)
replaced p u [] zero h n e = ap (λ b. if b then u else []) (subst (λ (q : Word). begins p q ≡ true) (drop-nil 0) e) ∙ sym (append-nil u) ∙ ap (λ (q : Word). u ++ q) (sym (drop-nil (0 + length p))) ∙ sym (ap (λ (q : Word). q ++ (u ++ drop (0 + length p) [])) (take-nil 0))
replaced p u [] (suc k) h n e = absurd (omega (arith, h))
replaced p u (c ∷ v) zero h n e = ap (λ b. if b then u ++ drop (length p) (c ∷ v) else (c ∷ replace_first p u v)) e ∙ let same : length p ≡ 0 + length p = omega arith in ap (λ k. u ++ drop k (c ∷ v)) same
replaced p u (c ∷ v) (suc k) h n e =
    ap (λ b. if b then u ++ drop (length p) (c ∷ v) else (c ∷ replace_first p u v)) (n zero (omega arith))
    ∙ ap (λ (q : Word). c ∷ q) (replaced p u v k (omega (arith, h)) (λ i g. n (suc i) (omega (arith, g))) e)
    ∙ ap (λ (q : Word). c ∷ (take k v ++ (u ++ q))) (farther (length p) k c v)

unreplaced-more : (p u : Word) (c : ℕ) (v : Word) → occurs p (c ∷ v) ≡ false → (occurs p v ≡ false → replace_first p u v ≡ v) → replace_first p u (c ∷ v) ≡ c ∷ v
unreplaced-more p u c v e rest = by (begins p (c ∷ v)) refl
  where
    by : (b : Bool) → begins p (c ∷ v) ≡ b → replace_first p u (c ∷ v) ≡ c ∷ v
    by true q = absurd (let o = occurs-here p c v q in cc)
    by false q = ap (λ b. if b then u ++ drop (length p) (c ∷ v) else (c ∷ replace_first p u v)) q ∙ ap (λ (s : Word). c ∷ s) (rest (sym (occurs-skip p c v q) ∙ e))

pub unreplaced : (p u v : Word) → occurs p v ≡ false → replace_first p u v ≡ v
unreplaced p u [] e = ap (λ b. if b then u else []) e
unreplaced p u (c ∷ v) e = unreplaced-more p u c v e (unreplaced p u v)

-- every occurrence is replaced
module _ (a : ℕ) (p u : Word) where
  here : (c : ℕ) (v : Word) → drop (length (a ∷ p) - 1) v ≡ drop (0 + length (a ∷ p)) (c ∷ v)
  here c v =
      let less : length (a ∷ p) - 1 ≡ length p = omega arith in
      let same : 0 + length (a ∷ p) ≡ suc (length p) = omega arith in
      ap (λ k. drop k v) less ∙ sym (ap (λ k. drop k (c ∷ v)) same)

  pub each-replaced : (v : Word) (k : ℕ) → k ≤ length v → ((i : ℕ) → i < k → begins (a ∷ p) (drop i v) ≡ false) → begins (a ∷ p) (drop k v) ≡ true
      → replace_from (a ∷ p) u zero v ≡ take k v ++ (u ++ replace_from (a ∷ p) u zero (drop (k + length (a ∷ p)) v))
  each-replaced [] zero h n e = absurd (cc)
  each-replaced [] (suc k) h n e = absurd (omega (arith, h))
  each-replaced (c ∷ v) zero h n e =
      ap (λ b. if b then u ++ replace_from (a ∷ p) u (length (a ∷ p) - 1) v else (c ∷ replace_from (a ∷ p) u zero v)) e
      ∙ ap (λ (q : Word). u ++ q) (passed (a ∷ p) u (length (a ∷ p) - 1) v ∙ ap (replace_from (a ∷ p) u zero) (here c v))
  each-replaced (c ∷ v) (suc k) h n e =
      ap (λ b. if b then u ++ replace_from (a ∷ p) u (length (a ∷ p) - 1) v else (c ∷ replace_from (a ∷ p) u zero v)) (n zero (omega arith))
      ∙ ap (λ (q : Word). c ∷ q) (each-replaced v k (omega (arith, h)) (λ i g. n (suc i) (omega (arith, g))) e)
      ∙ ap (λ (q : Word). c ∷ (take k v ++ (u ++ replace_from (a ∷ p) u zero q))) (farther (length (a ∷ p)) k c v)

  each-more : (c : ℕ) (v : Word) → occurs (a ∷ p) (c ∷ v) ≡ false → (occurs (a ∷ p) v ≡ false → replace_from (a ∷ p) u zero v ≡ v) → replace_from (a ∷ p) u zero (c ∷ v) ≡ c ∷ v
  each-more c v e rest = by (begins (a ∷ p) (c ∷ v)) refl
    where
      by : (b : Bool) → begins (a ∷ p) (c ∷ v) ≡ b → replace_from (a ∷ p) u zero (c ∷ v) ≡ c ∷ v
      by true q = absurd (let o = occurs-here (a ∷ p) c v q in cc)
      by false q = ap (λ b. if b then u ++ replace_from (a ∷ p) u (length (a ∷ p) - 1) v else (c ∷ replace_from (a ∷ p) u zero v)) q ∙ ap (λ (s : Word). c ∷ s) (rest (sym (occurs-skip (a ∷ p) c v q) ∙ e))

  pub each-unreplaced : (v : Word) → occurs (a ∷ p) v ≡ false → replace_from (a ∷ p) u zero v ≡ v
  each-unreplaced [] e = refl
  each-unreplaced (c ∷ v) e = each-more c v e (each-unreplaced v)
