-- What a row says of its unknown, where it has one alone.
use Rattle.std.proofs.Common.{◌≡◌, refl, sym, subst, true, false, Bool, ℕ, ◌^◌, ◌<◌, ℤ, pos, neg_ℤ, ◌+ℤ◌, ◌*ℤ◌, ◌≤ℤ◌, List, [], ◌∷◌, Option, Some, None, arith}
use Rattle.std.specs.Prelude.{int_lt, nat_eq, unsigned_abs, if◌then◌else◌}
use Rattle.std.specs.Int.{int_div_euclid, int_min, int_max}
use Rattle.std.proofs.lemmas.Int.{ints}
use Rattle.std.proofs.lemmas.Bool.{eqb-true}
use Rattle.sv_linear.specs.Integers.{mul-neg, neg-mul}
use Rattle.sv_linear.specs.Rows.{Compares}
use Rattle.sv_linear.specs.Terms.{AscendsWithin, terms_value}
use Rattle.sv_linear.specs.declared.row.RowKind.{RowKind}
use Rattle.sv_linear.specs.declared.row.RowKind.TheVariants.{Le, Eq}
use Rattle.cube_bounds.specs.Sides.{lower_by, lower_of, of_both, rounded_down, rounded_up, upper_by, upper_of}
use Rattle.cube_region.proofs.Quotients.{quotient-greatest}

-- a number that isn't 0 is above 0, or its negative is
turned : (a : ℤ) → 0 < unsigned_abs a → int_lt (pos 0) a ≡ false → int_lt (pos 0) (neg_ℤ a) ≡ true
turned a h e = grind (arith, ints)

at-most : (a x c : ℤ) → (a *ℤ x +ℤ pos 0 +ℤ c *ℤ pos 1) ≤ℤ pos 0 → (a *ℤ x) ≤ℤ neg_ℤ c
at-most a x c h = omega (arith, ints)

at-least : (a x c : ℤ) → (a *ℤ x +ℤ pos 0 +ℤ c *ℤ pos 1) ≤ℤ pos 0 → (neg_ℤ a *ℤ neg_ℤ x) ≤ℤ neg_ℤ c
at-least a x c h = omega (arith, ints, neg-mul a (neg_ℤ x), mul-neg a x)

equal-most : (a x c : ℤ) → a *ℤ x +ℤ pos 0 +ℤ c *ℤ pos 1 ≡ pos 0 → (a *ℤ x) ≤ℤ neg_ℤ c
equal-most a x c h = omega (arith, ints)

equal-least : (a x c : ℤ) → a *ℤ x +ℤ pos 0 +ℤ c *ℤ pos 1 ≡ pos 0 → (a *ℤ neg_ℤ x) ≤ℤ neg_ℤ (neg_ℤ c)
equal-least a x c h = omega (arith, ints, mul-neg a x)

equal-turned : (a x c : ℤ) → a *ℤ x +ℤ pos 0 +ℤ c *ℤ pos 1 ≡ pos 0 → (neg_ℤ a *ℤ x) ≤ℤ c
equal-turned a x c h = omega (arith, ints, neg-mul a x)

equal-both : (a x c : ℤ) → a *ℤ x +ℤ pos 0 +ℤ c *ℤ pos 1 ≡ pos 0 → (neg_ℤ a *ℤ neg_ℤ x) ≤ℤ neg_ℤ c
equal-both a x c h = omega (arith, ints, neg-mul a (neg_ℤ x), mul-neg a x)

when-true : (b : Bool) (o p q : Option ℤ) → b ≡ true → (if b then o else p) ≡ q → o ≡ q
when-true true o p q g e = e
when-true false o p q g e = absurd (cc)

when-false : (b : Bool) (o p q : Option ℤ) → b ≡ false → (if b then o else p) ≡ q → p ≡ q
when-false true o p q g e = absurd (cc)
when-false false o p q g e = e

below : (m d x z : ℤ) → int_lt (pos 0) d ≡ true → (d *ℤ x) ≤ℤ m → Some (int_div_euclid m d) ≡ Some z → x ≤ℤ z
below m d x z p h e = let q = quotient-greatest m d x p h in let s : int_div_euclid m d ≡ z = cc in omega (arith, ints)

above : (m d x z : ℤ) → int_lt (pos 0) d ≡ true → (d *ℤ neg_ℤ x) ≤ℤ m → Some (neg_ℤ (int_div_euclid m d)) ≡ Some z → z ≤ℤ x
above m d x z p h e = let q = quotient-greatest m d (neg_ℤ x) p h in let s : neg_ℤ (int_div_euclid m d) ≡ z = cc in omega (arith, ints)

upper-at : (k : RowKind) (a c x z : ℤ) → 0 < unsigned_abs a → Compares k (a *ℤ x +ℤ pos 0 +ℤ c *ℤ pos 1) → upper_by k a c ≡ Some z → x ≤ℤ z
upper-at k a c x z n h e = by_test k (int_lt (pos 0) a) refl h e
  where
    by_test : (k : RowKind) (b : Bool) → int_lt (pos 0) a ≡ b → Compares k (a *ℤ x +ℤ pos 0 +ℤ c *ℤ pos 1) → upper_by k a c ≡ Some z → x ≤ℤ z
    by_test Le true g h e = below (neg_ℤ c) a x z g (at-most a x c h) (when-true (int_lt (pos 0) a) (Some (rounded_down (neg_ℤ c) a)) None (Some z) g e)
    by_test Le false g h e = absurd (let f = when-false (int_lt (pos 0) a) (Some (rounded_down (neg_ℤ c) a)) None (Some z) g e in cc)
    by_test Eq true g h e = below (neg_ℤ c) a x z g (equal-most a x c h) (when-true (int_lt (pos 0) a) (Some (rounded_down (neg_ℤ c) a)) (Some (rounded_down c (neg_ℤ a))) (Some z) g e)
    by_test Eq false g h e =
        below c (neg_ℤ a) x z (turned a n g) (equal-turned a x c h)
        (when-false (int_lt (pos 0) a) (Some (rounded_down (neg_ℤ c) a)) (Some (rounded_down c (neg_ℤ a))) (Some z) g e)

lower-at : (k : RowKind) (a c x z : ℤ) → 0 < unsigned_abs a → Compares k (a *ℤ x +ℤ pos 0 +ℤ c *ℤ pos 1) → lower_by k a c ≡ Some z → z ≤ℤ x
lower-at k a c x z n h e = by_test k (int_lt (pos 0) a) refl h e
  where
    by_test : (k : RowKind) (b : Bool) → int_lt (pos 0) a ≡ b → Compares k (a *ℤ x +ℤ pos 0 +ℤ c *ℤ pos 1) → lower_by k a c ≡ Some z → z ≤ℤ x
    by_test Le true g h e = absurd (let f = when-true (int_lt (pos 0) a) None (Some (rounded_up c (neg_ℤ a))) (Some z) g e in cc)
    by_test Le false g h e =
        above (neg_ℤ c) (neg_ℤ a) x z (turned a n g) (at-least a x c h)
        (when-false (int_lt (pos 0) a) None (Some (rounded_up c (neg_ℤ a))) (Some z) g e)
    by_test Eq true g h e =
        above (neg_ℤ (neg_ℤ c)) a x z g (equal-least a x c h)
        (when-true (int_lt (pos 0) a) (Some (rounded_up (neg_ℤ c) a)) (Some (rounded_up c (neg_ℤ a))) (Some z) g e)
    by_test Eq false g h e =
        above (neg_ℤ c) (neg_ℤ a) x z (turned a n g) (equal-both a x c h)
        (when-false (int_lt (pos 0) a) (Some (rounded_up (neg_ℤ c) a)) (Some (rounded_up c (neg_ℤ a))) (Some z) g e)

-- the upper bound of a row isn't passed where the row is met
pub upper-holds : (x : ℕ → ℤ) (u : ℕ) (k : RowKind) (ts : List (ℕ × ℤ)) (c z : ℤ) → AscendsWithin 0 (2 ^ 32) ts → Compares k (terms_value x ts +ℤ c *ℤ pos 1) → upper_of u k ts c ≡ Some z → x u ≤ℤ z
upper-holds x u k [] c z a h e = absurd (cc)
upper-holds x u k (t ∷ []) c z a h e = by_test (nat_eq u t.0) refl
  where
    by_test : (b : Bool) → nat_eq u t.0 ≡ b → x u ≤ℤ z
    by_test true g = subst (λ v. x v ≤ℤ z) (sym (eqb-true u t.0 g)) (upper-at k t.1 c (x t.0) z a.1.0 h (when-true (nat_eq u t.0) (upper_by k t.1 c) None (Some z) g e))
    by_test false g = absurd (let f = when-false (nat_eq u t.0) (upper_by k t.1 c) None (Some z) g e in cc)
upper-holds x u k (t ∷ s ∷ ts) c z a h e = absurd (cc)

pub lower-holds : (x : ℕ → ℤ) (u : ℕ) (k : RowKind) (ts : List (ℕ × ℤ)) (c z : ℤ) → AscendsWithin 0 (2 ^ 32) ts → Compares k (terms_value x ts +ℤ c *ℤ pos 1) → lower_of u k ts c ≡ Some z → z ≤ℤ x u
lower-holds x u k [] c z a h e = absurd (cc)
lower-holds x u k (t ∷ []) c z a h e = by_test (nat_eq u t.0) refl
  where
    by_test : (b : Bool) → nat_eq u t.0 ≡ b → z ≤ℤ x u
    by_test true g = subst (λ v. z ≤ℤ x v) (sym (eqb-true u t.0 g)) (lower-at k t.1 c (x t.0) z a.1.0 h (when-true (nat_eq u t.0) (lower_by k t.1 c) None (Some z) g e))
    by_test false g = absurd (let f = when-false (nat_eq u t.0) (lower_by k t.1 c) None (Some z) g e in cc)
lower-holds x u k (t ∷ s ∷ ts) c z a h e = absurd (cc)

-- of two bounds the lesser one counts, and of two lower ones the greater
pub least-of : (o p : Option ℤ) (x z : ℤ) → ((m : ℤ) → o ≡ Some m → x ≤ℤ m) → ((m : ℤ) → p ≡ Some m → x ≤ℤ m) → of_both int_min o p ≡ Some z → x ≤ℤ z
least-of None p x z f g e = g z e
least-of (Some m) None x z f g e = f z e
least-of (Some m) (Some n) x z f g e = let a = f m refl in let b = g n refl in let s : int_min m n ≡ z = cc in grind (arith, ints)

pub greatest-of : (o p : Option ℤ) (x z : ℤ) → ((m : ℤ) → o ≡ Some m → m ≤ℤ x) → ((m : ℤ) → p ≡ Some m → m ≤ℤ x) → of_both int_max o p ≡ Some z → z ≤ℤ x
greatest-of None p x z f g e = g z e
greatest-of (Some m) None x z f g e = f z e
greatest-of (Some m) (Some n) x z f g e = let a = f m refl in let b = g n refl in let s : int_max m n ≡ z = cc in grind (arith, ints)
