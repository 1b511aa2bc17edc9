-- The box: its sides one after another, and its points cut off at each step or in the end.
use Rattle.std.proofs.Common.{◌≡◌, ap, ◌∙◌, ℕ, zero, suc, ◌+◌, ◌-◌, ◌*◌, ◌≤◌, ℤ, List, map, length, take, drop, Option, Some, None, arith}
use Rattle.std.specs.List.{range_with_len}
use Rattle.std.specs.Option.{option_map}
use Rattle.std.proofs.lemmas.List.{drop-map, length-drop, take_all}
use Rattle.std.proofs.lemmas.List.FromFn.{take-map-range_with_len}
use Rattle.std.proofs.lemmas.Simd.{map-map}
use Rattle.sv_linear.specs.declared.row.Row.{Row}
use Rattle.cube_bounds.specs.declared.bounding.ValueRange.{ValueRange}
use Rattle.sv_terms.specs.CutOff.{cut_off, cut-product}
use Rattle.cube_bounds.specs.Sides.{integer_side, register_side, span_in, spans_in, times, values_between}

drop_range : (n a m : ℕ) → drop n (range_with_len a (n + m)) ≡ range_with_len (a + n) m
drop_range zero a m = let e : a ≡ a + 0 = omega arith in let z : 0 + m ≡ m = omega arith in (λ i. range_with_len (e i) (z i))
drop_range (suc n) a m =
    let e : suc n + m ≡ suc (n + m) = omega arith in
    let f : a + 1 + n ≡ a + suc n = omega arith in
    ap (λ k. drop (suc n) (range_with_len a k)) e ∙ drop_range n (a + 1) m ∙ ap (λ k. range_with_len k m) f

-- the first n unknowns are the integer constants, the others the registers
registers_are : (rs : List Row) (ss : List ValueRange) (n m : ℕ) → ss ≡ spans_in rs (n + m) → map register_side (drop n ss) ≡ map (λ u. register_side (span_in rs u)) (range_with_len n m)
registers_are rs ss n m e =
    let z : 0 + n ≡ n = omega arith in
    ap (λ x. map register_side (drop n x)) e ∙ ap (map register_side) (drop-map (span_in rs) n (range_with_len 0 (n + m)) ∙ ap (map (span_in rs)) (drop_range n 0 m ∙ ap (λ k. range_with_len k m) z))
    ∙ map-map register_side (span_in rs) (range_with_len n m)

integers_are : (rs : List Row) (ss : List ValueRange) (n m : ℕ) → ss ≡ spans_in rs (n + m) → map integer_side (take n ss) ≡ map (λ u. integer_side (span_in rs u)) (range_with_len 0 n)
integers_are rs ss n m e =
    ap (λ x. map integer_side (take n x)) e ∙ ap (map integer_side) (take-map-range_with_len (span_in rs) 0 (n + m) n (omega arith))
    ∙ map-map integer_side (span_in rs) (range_with_len 0 n)

-- the same of slices that were gone over to their ends
pub registers_made : (rs : List Row) (ss : List ValueRange) (n m k i : ℕ) → ss ≡ spans_in rs (n + m) → k ≡ n → length (take (length ss - k) (drop k ss)) ≤ i
    → map register_side (take i (take (length ss - k) (drop k ss))) ≡ map (λ u. register_side (span_in rs u)) (range_with_len n m)
registers_made rs ss n m k i e f h =
    let l = length-drop k ss in
    ap (map register_side) (take_all i (take (length ss - k) (drop k ss)) h ∙ take_all (length ss - k) (drop k ss) (omega (arith, l)) ∙ ap (λ x. drop x ss) f) ∙ registers_are rs ss n m e

pub integers_made : (rs : List Row) (ss : List ValueRange) (n m k i : ℕ) → ss ≡ spans_in rs (n + m) → k ≡ n → length (take k ss) ≤ i
    → map integer_side (take i (take k ss)) ≡ map (λ u. integer_side (span_in rs u)) (range_with_len 0 n)
integers_made rs ss n m k i e f h =
    ap (map integer_side) (take_all i (take k ss) h ∙ ap (λ x. take x ss) f) ∙ integers_are rs ss n m e

pub timed : (s : ℤ × ℤ) (n : Option ℕ) (p w : ℕ) → Some p ≡ option_map cut_off n → w ≡ cut_off (values_between s) → Some (cut_off (w * p)) ≡ option_map cut_off (times (Some s) n)
timed s None p w e f = absurd (cc)
timed s (Some m) p w e f =
    let g : p ≡ cut_off m = cc in
    ap Some ((λ i. cut_off (f i * g i)) ∙ cut-product (values_between s) m)
