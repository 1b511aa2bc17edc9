-- Whether a box is small, by numbers that are cut off.
use Rattle.std.proofs.Common.{◌≡◌, refl, sym, ap, ◌∙◌, subst, Bool, true, false, IsTrue, T, Option, Some, None, pos, ◌≤ℤ◌, ℕ, ◌-◌, ◌*◌, ◌<◌, ◌≤◌, ℤ, List, ◌++◌, length, take, drop, leb, arith}
use Rattle.std.proofs.Math.Seq.{drop-append_seam, take-append_seam}
use Rattle.std.proofs.lemmas.Bool.{leb-true}
use Rattle.std.proofs.lemmas.List.{length-append, length-drop, take_all}
use Rattle.std.proofs.lemmas.List.FromFn.{length-map-range_with_len}
use Rattle.std.specs.List.{AllByRecursion}
use Rattle.std.specs.Prelude.{◌↔◌}
use Rattle.std.specs.Int.Signed.{le_z, le_z_yes}
use Rattle.std.specs.Option.{option_map}
use Rattle.sv_linear.specs.Rows.{RowFits}
use Rattle.sv_terms.specs.CutOff.{cut_off, cut-product}
use Rattle.cube_bounds.specs.Bounds.{sources, states}
use Rattle.cube_bounds.specs.Growth.{reach}
use Rattle.cube_bounds.specs.declared.work.TheConstants.{MOST_WORK}
use Rattle.sv_terms.specs.declared.limits.TheConstants.{MOST_POINTS}
use Rattle.cube_bounds.specs.Sides.{CanSearch, IsSmall, Side, amount_of, points, integer_sides, register_side, register_sides, sides, span_in}
use Rattle.flat_cubes.specs.declared.flat.Flat.{Flat}

pub work_cut : (a b c x y z : ℕ) → x ≡ cut_off a → y ≡ cut_off b → z ≡ cut_off c → cut_off (cut_off (x * y) * z) ≡ cut_off (a * b * c)
work_cut a b c x y z e f g = (λ i. cut_off (cut_off (e i * f i) * g i)) ∙ ap (λ w. cut_off (w * cut_off c)) (cut-product a b) ∙ cut-product (a * b) c

le_of : (a b : ℤ) → IsTrue (le_z a b) → a ≤ℤ b
le_of a b e = le_z_yes (subst T (sym e) tt)

of_le : (a b : ℤ) → a ≤ℤ b → IsTrue (le_z a b)
of_le a b h = by_test (le_z a b) refl
  where
    by_test : (t : Bool) → le_z a b ≡ t → le_z a b ≡ true
    by_test true e = e
    by_test false e = absurd (subst T e h.le)

-- whether work is little, by its comparison with the reach
pub little_is : (w : ℕ) (z y r : ℤ) → w ≤ MOST_WORK → z ≡ pos w → y ≡ r
    → (IsTrue (le_z z y) → (w ≤ MOST_WORK) × (pos w ≤ℤ r)) × ((w ≤ MOST_WORK) × (pos w ≤ℤ r) → IsTrue (le_z z y))
little_is w z y r l f g = (
  (λ t. (l, subst (λ x. pos w ≤ℤ x) g (subst (λ x. x ≤ℤ y) f (le_of z y t)))),
  (λ h. of_le z y (subst (λ x. x ≤ℤ y) (sym f) (subst (λ x. pos w ≤ℤ x) (sym g) h.1))),
)

-- the search of a region is little work
pub search_is : (flat : Flat) (n w : ℕ) (y : ℤ) (b : Bool) → w ≡ cut_off (states flat * n * sources flat) → y ≡ reach flat → (IsTrue b ↔ (w ≤ MOST_WORK) × (pos w ≤ℤ y))
    → (IsTrue b → CanSearch flat n) × (CanSearch flat n → IsTrue b)
search_is flat n w y b e g r = (
  (λ t.
      let l = (r.0 t).0 in
      let same : w ≡ states flat * n * sources flat = omega (arith, e, l) in
      record { work = omega (arith, same, l); reached = subst (λ x. pos x ≤ℤ reach flat) same (subst (λ x. pos w ≤ℤ x) g (r.0 t).1) }),
  (λ h.
      let l = h.work in
      let same : w ≡ states flat * n * sources flat = omega (arith, e, l) in
      r.1 (omega (arith, same, l), subst (λ x. pos w ≤ℤ x) (sym g) (subst (λ x. pos x ≤ℤ reach flat) (sym same) h.reached))),
)

-- how many points there are
pub counted : (o : Option ℕ) (p : ℕ) → Some p ≡ option_map cut_off o → (n : ℕ) × (o ≡ Some n) × (p ≡ cut_off n)
counted None p e = absurd (cc)
counted (Some n) p e = (n, refl, (let f : p ≡ cut_off n = cc in f))

-- the sides of the registers stand first, those of the integer constants behind them
pub sides_long : (flat : Flat) (ss : List Side) → ss ≡ sides flat → length flat.registers ≤ length ss
sides_long flat ss e =
    let l = ap length e ∙ length-append (register_sides flat) (integer_sides flat) in
    let r = length-map-range_with_len (λ u. register_side (span_in flat.rows u)) (length flat.integers) (length flat.registers) in
    omega (arith, l, r)

pub sides_parted : (flat : Flat) (ss : List Side) (k : ℕ) → ss ≡ sides flat → k ≡ length flat.registers → take (length ss - k) (drop k ss) ++ take k ss ≡ integer_sides flat ++ register_sides flat
sides_parted flat ss k e f =
    let l = length-drop k ss in
    let r : k ≡ length (register_sides flat) = f ∙ sym (length-map-range_with_len (λ u. register_side (span_in flat.rows u)) (length flat.integers) (length flat.registers)) in
    ap (λ xs. xs ++ take k ss) (take_all (length ss - k) (drop k ss) (omega (arith, l)))
    ∙ (λ i. drop (r i) (e i) ++ take (r i) (e i))
    ∙ (λ i. drop-append_seam (register_sides flat) (integer_sides flat) i ++ take-append_seam (register_sides flat) (integer_sides flat) i)

pub less_not : (a b : ℕ) → b < a → leb a b ≡ true → ⊥
less_not a b h e = let l = leb-true a b e in omega (arith, l, h)

-- a box is small, once its points are few and it may be searched, exactly where its rows fit
pub is_small_by : (flat : Flat) (n p : ℕ) (b : Bool) → points flat ≡ Some n → p ≡ cut_off n → p ≤ MOST_POINTS → CanSearch flat n → (IsTrue b ↔ AllByRecursion (RowFits (amount_of flat)) flat.rows)
    → (IsTrue b → IsSmall flat) × (IsSmall flat → IsTrue b)
is_small_by flat n p b e f l s r = (
  (λ t. record { count = n; are = e; few = omega (arith, f, l); can = s; rows = r.0 t }),
  (λ h. r.1 h.rows),
)
