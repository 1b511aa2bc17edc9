-- Bounds of rows in a box.
use Rattle.std.proofs.Common.{◌≡◌, ℕ, zero, suc, ◌+◌, ◌*◌, ◌^◌, ◌<◌, ◌≤◌, max, ℤ, pos, neg_ℤ, ◌+ℤ◌, ◌*ℤ◌, ◌≤ℤ◌, ◌<ℤ◌, int_le, FitsSigned, Bool, true, false, cond, List, [], ◌∷◌, length, drop, get_or, slice_get, Some, All, unsigned_abs, refl, ap, sym, ◌∙◌, subst, arith, drop-cons}
use Rattle.std.proofs.lemmas.Int.{ints, unsigned_abs-mul, fits_signed_mul, fits_signed_from_abs}
use Rattle.std.proofs.Math.Nat.{mul-le-mul_left}
use Rattle.std.specs.Int.{w128}
use Rattle.std.proofs.lemmas.List.Elements.{All-head, All-tail}
use Rattle.std.proofs.lemmas.Option.{slice_get_within, get_or_from_slice_get}
use Rattle.sv_linear.specs.Integers.{mul_le, neg-mul}
use Rattle.sv_linear.specs.Terms.{terms_value}
use Rattle.sv_linear.specs.Rows.{terms_weight}
use Rattle.search_hits.specs.Regions.{IsWithin, greatest_amount, amounts}
use Rattle.search_hits.specs.Boxes.{IsSide, HoldsOne, AreAt}

-- the ends of a side are at most its greatest amount
pub side-amounts : (s : ℤ × ℤ) → IsSide s → (unsigned_abs s.0 ≤ greatest_amount s) × (unsigned_abs s.1 ≤ greatest_amount s)
side-amounts s h = by_test (int_le s.0 s.1) refl
  where
    by_test : (b : Bool) → int_le s.0 s.1 ≡ b → (unsigned_abs s.0 ≤ cond (int_le s.0 s.1) (max (unsigned_abs s.0) (unsigned_abs s.1)) 0) × (unsigned_abs s.1 ≤ cond (int_le s.0 s.1) (max (unsigned_abs s.0) (unsigned_abs s.1)) 0)
    by_test true e = rw e (omega arith, omega arith)
    by_test false e = absurd (grind (arith, ints))

-- the products with the ends of a side
pub product-fits-itself : (c v : ℤ) → unsigned_abs c * unsigned_abs v < 2 ^ 127 → FitsSigned w128 (c *ℤ v)
product-fits-itself c v lt = fits_signed_mul w128 c v (unsigned_abs c) (unsigned_abs v) (omega arith) (omega arith) lt

pub product-below : (c v : ℤ) (s : ℤ × ℤ) → unsigned_abs v ≤ greatest_amount s → unsigned_abs c * unsigned_abs v ≤ unsigned_abs c * greatest_amount s
product-below c v s le = mul-le-mul_left (unsigned_abs c) le

pub product-amount : (c v r : ℤ) (s : ℤ × ℤ) → unsigned_abs v ≤ greatest_amount s → r ≡ c *ℤ v → unsigned_abs r ≤ unsigned_abs c * greatest_amount s
product-amount c v r s le e = let a = ap unsigned_abs e ∙ unsigned_abs-mul c v in let b = product-below c v s le in omega arith

pub product-requires : (c v : ℤ) (s : ℤ × ℤ) → unsigned_abs v ≤ greatest_amount s → unsigned_abs c * greatest_amount s < 2 ^ 127 → unsigned_abs c * unsigned_abs v < 2 ^ 127
product-requires c v s le fits = below (unsigned_abs c * unsigned_abs v) (unsigned_abs c * greatest_amount s) (2 ^ 127) (product-below c v s le) fits
  where
    below : (a b m : ℕ) → a ≤ b → b < m → a < m
    below a b m h g = omega arith

pub product-same : (c low high a b : ℤ) → a ≡ c *ℤ low → b ≡ c *ℤ high → low ≡ high → a ≡ b
product-same c low high a b e f h = e ∙ ap (λ v. c *ℤ v) h ∙ sym f

pub products-rising : (c v : ℤ) (s : ℤ × ℤ) → pos 0 ≤ℤ c → IsWithin s v → ((c *ℤ s.0) ≤ℤ (c *ℤ v)) × ((c *ℤ v) ≤ℤ (c *ℤ s.1))
products-rising c v s h w = (mul_le c s.0 v h w.0, mul_le c v s.1 h w.1)

pub products-falling : (c v : ℤ) (s : ℤ × ℤ) → c <ℤ pos 0 → IsWithin s v → ((c *ℤ s.1) ≤ℤ (c *ℤ v)) × ((c *ℤ v) ≤ℤ (c *ℤ s.0))
products-falling c v s h w =
    let n : pos 0 ≤ℤ neg_ℤ c = omega (arith, ints) in
    let low = mul_le (neg_ℤ c) v s.1 n w.1 in
    let high = mul_le (neg_ℤ c) s.0 v n w.0 in
    (omega (arith, ints, neg-mul c v, neg-mul c s.1), omega (arith, ints, neg-mul c v, neg-mul c s.0))

pub side-some : (sides : List (ℤ × ℤ)) (u : ℕ) (s : ℤ × ℤ) → All IsSide sides → slice_get sides u ≡ Some s → IsSide s
side-some sides u s some e = subst IsSide (get_or_from_slice_get sides u s s e) (some u s (slice_get_within sides u s e))

pub unknown-side : (terms items : List (ℕ × ℤ)) (i n : ℕ) (d : ℕ × ℤ) → items ≡ terms → i < length items → All (λ (t : ℕ × ℤ). t.0 < n) terms → (get_or items i d).0 < n
unknown-side terms items i n d e lt all = subst (All (λ (t : ℕ × ℤ). t.0 < n)) (sym e) all i d lt

pub bounds-start : (sides : List (ℤ × ℤ)) (terms items : List (ℕ × ℤ)) (constant : ℤ) → items ≡ terms → unsigned_abs constant + terms_weight (amounts sides) terms < 2 ^ 127
    → (unsigned_abs constant + terms_weight (amounts sides) items < 2 ^ 127)
    × ((x : ℕ → ℤ) → AreAt sides x → ((constant +ℤ terms_value x items) ≤ℤ (terms_value x terms +ℤ constant)) × ((terms_value x terms +ℤ constant) ≤ℤ (constant +ℤ terms_value x items)))
bounds-start sides terms items constant e h = (
  subst (λ l. unsigned_abs constant + terms_weight (amounts sides) l < 2 ^ 127) (sym e) h,
  λ x w. subst (λ l. ((constant +ℤ terms_value x l) ≤ℤ (terms_value x terms +ℤ constant)) × ((terms_value x terms +ℤ constant) ≤ℤ (constant +ℤ terms_value x l))) (sym e) (turned constant (terms_value x terms)),
)
  where
    turned : (a b : ℤ) → ((a +ℤ b) ≤ℤ (b +ℤ a)) × ((b +ℤ a) ≤ℤ (a +ℤ b))
    turned a b = (omega (arith, ints), omega (arith, ints))

-- what one term leaves of a bound
term-part : (a w t r m : ℕ) → w ≡ t + r → a + w < m → t < m
term-part a w t r m e h = omega arith

sum-part : (a w t r l m : ℕ) → w ≡ t + r → a + w < m → l ≤ t → a + l < m
sum-part a w t r l m e h le = omega arith

rest-part : (a w t r l s m : ℕ) → w ≡ t + r → a + w < m → l ≤ t → s ≤ a + l → s + r < m
rest-part a w t r l s m e h le q = omega arith

less-part : (s r m : ℕ) → s + r < m → s < m
less-part s r m h = omega arith

abs-sum : (a b : ℤ) → unsigned_abs (a +ℤ b) ≤ unsigned_abs a + unsigned_abs b
abs-sum a b = omega (arith, ints)

low-step : (least low least' p rest all total : ℤ) → least' ≡ least +ℤ low → low ≤ℤ p → all ≡ p +ℤ rest → (least +ℤ all) ≤ℤ total → (least' +ℤ rest) ≤ℤ total
low-step least low least' p rest all total e h v o = omega (arith, ints)

high-step : (greatest high greatest' p rest all total : ℤ) → greatest' ≡ greatest +ℤ high → p ≤ℤ high → all ≡ p +ℤ rest → total ≤ℤ (greatest +ℤ all) → total ≤ℤ (greatest' +ℤ rest)
high-step greatest high greatest' p rest all total e h v o = omega (arith, ints)

module _ (sides : List (ℤ × ℤ)) (terms : List (ℕ × ℤ)) (i : ℕ) (t : ℕ × ℤ) (s : ℤ × ℤ) (d : ℕ × ℤ) (lt : i < length terms) (at : t ≡ get_or terms i d) (is : slice_get sides t.0 ≡ Some s) where
  here : drop i terms ≡ t ∷ drop (i + 1) terms
  here = drop-cons terms i d lt ∙ ap (λ (x : ℕ × ℤ). x ∷ drop (suc i) terms) (sym at) ∙ ap (λ n. t ∷ drop n terms) (let e : suc i ≡ i + 1 = omega arith in e)

  side : get_or sides t.0 (pos 0, pos 0) ≡ s
  side = get-side sides t.0 is
    where
      get-side : (ss : List (ℤ × ℤ)) (n : ℕ) → slice_get ss n ≡ Some s → get_or ss n (pos 0, pos 0) ≡ s
      get-side [] n e = cc
      get-side (x ∷ ss) zero e = cc
      get-side (x ∷ ss) (suc n) e = get-side ss n e

  amount-step : terms_weight (amounts sides) (drop i terms) ≡ unsigned_abs t.1 * greatest_amount s + terms_weight (amounts sides) (drop (i + 1) terms)
  amount-step = ap (terms_weight (amounts sides)) here ∙ ap (λ (x : ℤ × ℤ). unsigned_abs t.1 * greatest_amount x + terms_weight (amounts sides) (drop (i + 1) terms)) side

  pub term-fits : (least : ℤ) → unsigned_abs least + terms_weight (amounts sides) (drop i terms) < 2 ^ 127 → unsigned_abs t.1 * greatest_amount s < 2 ^ 127
  term-fits least h = term-part (unsigned_abs least) (terms_weight (amounts sides) (drop i terms)) (unsigned_abs t.1 * greatest_amount s) (terms_weight (amounts sides) (drop (i + 1) terms)) (2 ^ 127) amount-step h

  pub sum-requires : (least low : ℤ) → unsigned_abs least + terms_weight (amounts sides) (drop i terms) < 2 ^ 127 → unsigned_abs low ≤ unsigned_abs t.1 * greatest_amount s → unsigned_abs least + unsigned_abs low < 2 ^ 127
  sum-requires least low h le = sum-part (unsigned_abs least) (terms_weight (amounts sides) (drop i terms)) (unsigned_abs t.1 * greatest_amount s) (terms_weight (amounts sides) (drop (i + 1) terms)) (unsigned_abs low) (2 ^ 127) amount-step h le

  pub sum-fits : (least low : ℤ) → unsigned_abs least + terms_weight (amounts sides) (drop i terms) < 2 ^ 127 → unsigned_abs low ≤ unsigned_abs t.1 * greatest_amount s
      → FitsSigned w128 (least +ℤ low) × (unsigned_abs (least +ℤ low) + terms_weight (amounts sides) (drop (i + 1) terms) < 2 ^ 127)
  sum-fits least low h le =
      let rest = rest-part (unsigned_abs least) (terms_weight (amounts sides) (drop i terms)) (unsigned_abs t.1 * greatest_amount s) (terms_weight (amounts sides) (drop (i + 1) terms)) (unsigned_abs low) (unsigned_abs (least +ℤ low)) (2 ^ 127) amount-step h le (abs-sum least low) in
      (fits_signed_from_abs w128 (least +ℤ low) (less-part (unsigned_abs (least +ℤ low)) (terms_weight (amounts sides) (drop (i + 1) terms)) (2 ^ 127) rest), rest)

  value-step : (x : ℕ → ℤ) → terms_value x (drop i terms) ≡ t.1 *ℤ x t.0 +ℤ terms_value x (drop (i + 1) terms)
  value-step x = ap (terms_value x) here

  pub between-step : (total : (ℕ → ℤ) → ℤ) (least greatest low high least' greatest' : ℤ) → least' ≡ least +ℤ low → greatest' ≡ greatest +ℤ high
      → ((v : ℤ) → IsWithin s v → (low ≤ℤ (t.1 *ℤ v)) × ((t.1 *ℤ v) ≤ℤ high))
      → ((x : ℕ → ℤ) → AreAt sides x → ((least +ℤ terms_value x (drop i terms)) ≤ℤ total x) × (total x ≤ℤ (greatest +ℤ terms_value x (drop i terms))))
      → (x : ℕ → ℤ) → AreAt sides x → ((least' +ℤ terms_value x (drop (i + 1) terms)) ≤ℤ total x) × (total x ≤ℤ (greatest' +ℤ terms_value x (drop (i + 1) terms)))
  between-step total least greatest low high least' greatest' e f between h x w =
      let b = between (x t.0) (w t.0 s is) in
      let old = h x w in (
        low-step least low least' (t.1 *ℤ x t.0) (terms_value x (drop (i + 1) terms)) (terms_value x (drop i terms)) (total x) e b.0 (value-step x) old.0,
        high-step greatest high greatest' (t.1 *ℤ x t.0) (terms_value x (drop (i + 1) terms)) (terms_value x (drop i terms)) (total x) f b.1 (value-step x) old.1,
      )

-- all terms are added
pub between-end : (terms : List (ℕ × ℤ)) (i : ℕ) (x : ℕ → ℤ) (least : ℤ) → length terms ≤ i → least +ℤ terms_value x (drop i terms) ≡ least
between-end terms i x least le = rw (drop-all terms i le) (omega (arith, ints))
  where
    drop-all : (xs : List (ℕ × ℤ)) (i : ℕ) → length xs ≤ i → drop i xs ≡ []
    drop-all [] zero h = refl
    drop-all [] (suc i) h = refl
    drop-all (x ∷ xs) zero h = absurd (omega arith)
    drop-all (x ∷ xs) (suc i) h = drop-all xs i (omega arith)

pub point-at : (sides : List (ℤ × ℤ)) (u : ℕ) (s : ℤ × ℤ) → All HoldsOne sides → slice_get sides u ≡ Some s → s.0 ≡ s.1
point-at [] u s h e = cc
point-at (x ∷ ss) zero s h e = let same : x ≡ s = cc in subst HoldsOne same (All-head HoldsOne x ss h)
point-at (x ∷ ss) (suc u) s h e = point-at ss u s (All-tail HoldsOne x ss h) e

pub point-step : (a b c d l g : ℤ) → a ≡ b → c ≡ d → l ≡ a +ℤ c → g ≡ b +ℤ d → l ≡ g
point-step a b c d l g e f p q = p ∙ ap (λ x. x +ℤ c) e ∙ ap (λ x. b +ℤ x) f ∙ sym q
