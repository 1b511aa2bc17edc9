-- Bounds of unknowns by the rows.
use Rattle.std.proofs.Common.{◌≡◌, ◌≢◌, refl, sym, ap, ◌∙◌, subst, Bool, true, false, ℕ, zero, suc, ◌+◌, ◌^◌, ◌<◌, ◌≤◌, ℤ, pos, negsuc, List, [], ◌∷◌, map, replicate, length, get_or, set, None, arith}
use Rattle.std.specs.Prelude.{int_lt, unsigned_abs, nat_eq, if◌then◌else◌}
use Rattle.std.specs.Int.{int_min, int_max}
use Rattle.std.specs.List.{AllByRecursion, range_with_len}
use Rattle.std.proofs.lemmas.Bool.{eq-eqb, eqb-true, ne_eqb}
use Rattle.std.proofs.lemmas.List.{get_or-set_other, get_or-set_same}
use Rattle.std.proofs.lemmas.List.FromFn.{fill_by_all, get_or-map-range_with_len, length-map-range_with_len}
use Rattle.std.proofs.Math.ListN.{length-set}
use Rattle.std.proofs.Math.Nat.{div-le_self}
use Rattle.sv_linear.specs.Terms.{AscendsWithin}
use Rattle.sv_linear.specs.declared.row.Row.{Row}
use Rattle.sv_linear.specs.declared.row.RowKind.{RowKind}
use Rattle.cube_bounds.specs.Sides.{lower, lower_by, lower_of, of_both, rounded_down, span_by, span_in, spans_in, upper, upper_by, upper_of}
use Rattle.cube_bounds.specs.declared.bounding.ValueRange.{ValueRange}

-- a quotient by a number above 0 isn't larger than the number
pub negated_fits : (z d : ℤ) → int_lt (pos 0) d ≡ true → unsigned_abs (rounded_down z d) ≤ unsigned_abs z
negated_fits (pos a) (pos b) h = div-le_self a b
negated_fits (negsuc a) (pos b) h = let l = div-le_self a b in omega arith
negated_fits (pos a) (negsuc b) h = absurd (cc)
negated_fits (negsuc a) (negsuc b) h = absurd (cc)

abbrev Terms : Type 0
Terms = List (ℕ × ℤ)

-- no bound where the row has no unknown, or two
pub upper_none : (u : ℕ) (k : RowKind) (ts : Terms) (c : ℤ) → (length ts ≡ 1 → ⊥) → upper_of u k ts c ≡ None
upper_none u k [] c h = refl
upper_none u k (t ∷ []) c h = absurd (h refl)
upper_none u k (t ∷ s ∷ ts) c h = refl

pub lower_none : (u : ℕ) (k : RowKind) (ts : Terms) (c : ℤ) → (length ts ≡ 1 → ⊥) → lower_of u k ts c ≡ None
lower_none u k [] c h = refl
lower_none u k (t ∷ []) c h = absurd (h refl)
lower_none u k (t ∷ s ∷ ts) c h = refl

-- where it has one
pub upper_one : (u : ℕ) (k : RowKind) (ts : Terms) (c : ℤ) → length ts ≡ 1 → upper_of u k ts c ≡ (if nat_eq u (get_or ts 0 (0, pos 0)).0 then upper_by k (get_or ts 0 (0, pos 0)).1 c else None)
upper_one u k [] c h = absurd (omega arith)
upper_one u k (t ∷ []) c h = refl
upper_one u k (t ∷ s ∷ ts) c h = absurd (omega arith)

pub lower_one : (u : ℕ) (k : RowKind) (ts : Terms) (c : ℤ) → length ts ≡ 1 → lower_of u k ts c ≡ (if nat_eq u (get_or ts 0 (0, pos 0)).0 then lower_by k (get_or ts 0 (0, pos 0)).1 c else None)
lower_one u k [] c h = absurd (omega arith)
lower_one u k (t ∷ []) c h = refl
lower_one u k (t ∷ s ∷ ts) c h = absurd (omega arith)

pub factor_small : (ts : Terms) → AllByRecursion (λ t. unsigned_abs t.1 < 2 ^ 127) ts → length ts ≡ 1 → unsigned_abs (get_or ts 0 (0, pos 0)).1 < 2 ^ 127
factor_small [] a h = absurd (omega arith)
factor_small (t ∷ ts) a h = a.0

pub factor_not_zero : (ts : Terms) → AscendsWithin 0 (2 ^ 32) ts → length ts ≡ 1 → (get_or ts 0 (0, pos 0)).1 ≡ pos 0 → ⊥
factor_not_zero [] a h e = absurd (omega arith)
factor_not_zero (t ∷ ts) a h e = let k : 0 < unsigned_abs (pos 0) = subst (λ z. 0 < unsigned_abs z) e a.1.0 in omega arith

pub ruleset ofs = (upper_none, lower_none, upper_one, lower_one, factor_small, factor_not_zero)

-- an unknown that isn't the only one of a row keeps its span
span_kept : (r : Row) (rs : List Row) (u : ℕ) → lower_of u r.kind r.form.coefficients r.form.constant ≡ None → upper_of u r.kind r.form.coefficients r.form.constant ≡ None → span_in (r ∷ rs) u ≡ span_in rs u
span_kept r rs u l m = λ i. record { least = of_both int_max (l i) (lower u rs); most = of_both int_min (m i) (upper u rs) }

abbrev first : Terms → ℕ × ℤ
first ts = get_or ts 0 (0, pos 0)

other_kept : (r : Row) (rs : List Row) (u : ℕ) → length r.form.coefficients ≡ 1 → u ≢ (first r.form.coefficients).0 → span_in (r ∷ rs) u ≡ span_in rs u
other_kept r rs u h ne =
    let f = ne_eqb u (first r.form.coefficients).0 ne in
    span_kept r rs u
    (lower_one u r.kind r.form.coefficients r.form.constant h ∙ ap (λ b. if b then lower_by r.kind (first r.form.coefficients).1 r.form.constant else None) f)
    (upper_one u r.kind r.form.coefficients r.form.constant h ∙ ap (λ b. if b then upper_by r.kind (first r.form.coefficients).1 r.form.constant else None) f)

own_narrowed : (r : Row) (rs : List Row) (u : ℕ) → length r.form.coefficients ≡ 1 → u ≡ (first r.form.coefficients).0 → span_by r.kind (first r.form.coefficients).1 r.form.constant (span_in rs u) ≡ span_in (r ∷ rs) u
own_narrowed r rs u h e =
    let t = eq-eqb u (first r.form.coefficients).0 e in
    let l : lower_of u r.kind r.form.coefficients r.form.constant ≡ lower_by r.kind (first r.form.coefficients).1 r.form.constant
    = lower_one u r.kind r.form.coefficients r.form.constant h ∙ ap (λ b. if b then lower_by r.kind (first r.form.coefficients).1 r.form.constant else None) t in
    let m : upper_of u r.kind r.form.coefficients r.form.constant ≡ upper_by r.kind (first r.form.coefficients).1 r.form.constant
    = upper_one u r.kind r.form.coefficients r.form.constant h ∙ ap (λ b. if b then upper_by r.kind (first r.form.coefficients).1 r.form.constant else None) t in
    λ i. record { least = of_both int_max (sym l i) (lower u rs); most = of_both int_min (sym m i) (upper u rs) }

-- where it is, the span at its place is narrowed
pub narrow_here : (r : Row) (rs : List Row) (ss : List ValueRange) (n v : ℕ) (s d : ValueRange) → length r.form.coefficients ≡ 1 → v ≡ (first r.form.coefficients).0 → ss ≡ spans_in rs n → v < length ss
    → s ≡ span_by r.kind (first r.form.coefficients).1 r.form.constant (get_or ss v d) → set ss v s ≡ spans_in (r ∷ rs) n
narrow_here r rs ss n v s d h e p l q =
    let long : length ss ≡ n = ap length p ∙ length-map-range_with_len (span_in rs) 0 n in
    let low : v < n = omega (arith, l, long) in
    let at : get_or ss v d ≡ span_in rs v = ap (λ x. get_or x v d) p ∙ get_or-map-range_with_len (span_in rs) 0 n v v d low (omega arith) in
    let here : s ≡ span_in (r ∷ rs) v = q ∙ ap (span_by r.kind (first r.form.coefficients).1 r.form.constant) at ∙ own_narrowed r rs v h e in
    fill_by_all (span_in (r ∷ rs)) (set ss v s) n d (length-set ss v s ∙ long) (each here long)
  where
    each : s ≡ span_in (r ∷ rs) v → length ss ≡ n → (k : ℕ) → k < n → get_or (set ss v s) k d ≡ span_in (r ∷ rs) k
    each here long k b = by_test (nat_eq k v) refl
      where
        by_test : (t : Bool) → nat_eq k v ≡ t → get_or (set ss v s) k d ≡ span_in (r ∷ rs) k
        by_test true t =
            let g = eqb-true k v t in
            subst (λ x. get_or (set ss v s) x d ≡ span_in (r ∷ rs) x) (sym g) (get_or-set_same ss v s d l ∙ here)
        by_test false t =
            let ne : k ≢ v = λ g. (let f = eq-eqb k v g in cc (f, t)) in
            let far : k ≢ (first r.form.coefficients).0 = λ g. ne (g ∙ sym e) in
            get_or-set_other ss v k s d ne ∙ ap (λ x. get_or x k d) p ∙ get_or-map-range_with_len (span_in rs) 0 n k k d b (omega arith) ∙ sym (other_kept r rs k h far)

-- and where it isn't among them, all stay
pub narrow_past : (r : Row) (rs : List Row) (ss : List ValueRange) (n v : ℕ) (d : ValueRange) → length r.form.coefficients ≡ 1 → v ≡ (first r.form.coefficients).0 → ss ≡ spans_in rs n → length ss ≤ v → ss ≡ spans_in (r ∷ rs) n
narrow_past r rs ss n v d h e p l =
    let long : length ss ≡ n = ap length p ∙ length-map-range_with_len (span_in rs) 0 n in
    fill_by_all (span_in (r ∷ rs)) ss n d long (λ k b.
    let far : k ≢ (first r.form.coefficients).0 = λ g. (let f = g ∙ sym e in omega (arith, f, b, long, l)) in
    ap (λ x. get_or x k d) p ∙ get_or-map-range_with_len (span_in rs) 0 n k k d b (omega arith) ∙ sym (other_kept r rs k h far))

-- the spans of unknowns that stand in no row, from the one with the number k on
pub all_open : (n k : ℕ) → replicate n (span_in [] k) ≡ map (span_in []) (range_with_len k n)
all_open zero k = refl
all_open (suc n) k = ap (λ ss. span_in [] k ∷ ss) (all_open n (k + 1))

pub spans_long : (rs : List Row) (ss : List ValueRange) (n : ℕ) → ss ≡ spans_in rs n → length ss ≡ n
spans_long rs ss n e = ap length e ∙ length-map-range_with_len (span_in rs) 0 n
