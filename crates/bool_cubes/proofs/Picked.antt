-- The cube of a number is the one at that place in the list of the cubes.
use Rattle.std.proofs.Common.{◌≡◌, refl, sym, ap, ◌∙◌, ℕ, zero, suc, ◌+◌, ◌-◌, ◌*◌, ◌/◌, ◌%◌, ◌<◌, ◌≤◌, ◌⊎◌, inl, inr, Bool, true, false, List, [], ◌∷◌, ◌++◌, map, length, slice_get, Some, arith}
use Rattle.std.specs.Prelude.{nat_lt, if◌then◌else◌}
use Rattle.std.proofs.lemmas.List.{length-map}
use Rattle.std.proofs.lemmas.Bool.{cases_lt}
use Rattle.std.proofs.Math.Nat.{mul-le-mul_left, mul_comm}
use Rattle.std.proofs.lemmas.Option.{slice_get_within}
use Rattle.sv_list.specs.Lists.{slice_get-append_left, slice_get-mapped}
use borrow.Author.Tests.{ltb-true, ltb-false}
use Rattle.bool_cubes.specs.Cubes.{choices, cubes, count}
use Rattle.bool_cubes.specs.Picking.{cube_at, CubesArePicked}
use Rattle.bool_cubes.specs.Trees.{Tree, always, never, one, both, either}
use Rattle.bool_cubes.proofs.Choosing.{cubes_length}

get_right : {X : Type 0} (xs ys : List X) (k : ℕ) → slice_get (xs ++ ys) (length xs + k) ≡ slice_get ys k
get_right [] ys k = let e : 0 + k ≡ k = omega arith in ap (slice_get ys) e
get_right (x ∷ xs) ys k = let e : suc (length xs) + k ≡ suc (length xs + k) = omega arith in ap (slice_get (x ∷ (xs ++ ys))) e ∙ get_right xs ys k

-- the choice of these two places
get_choice : {X : Type 0} (cs ds : List (List X)) (q r : ℕ) (c d : List X) → slice_get cs q ≡ Some c → slice_get ds r ≡ Some d → slice_get (choices cs ds) (length ds * q + r) ≡ Some (c ++ d)
get_choice [] ds q r c d e f = absurd (cc)
get_choice (b ∷ cs) ds zero r c d e f =
    let g : b ≡ c = cc in
    let i : length ds * 0 + r ≡ r = omega arith in
    let l : r < length (map (λ x. b ++ x) ds) = rw (length-map ds (λ x. b ++ x)) (slice_get_within ds r d f) in
    ap (slice_get (choices (b ∷ cs) ds)) i ∙ slice_get-append_left (map (λ x. b ++ x) ds) (choices cs ds) r l ∙ slice_get-mapped (λ x. b ++ x) ds r d f ∙ ap (λ x. Some (x ++ d)) g
get_choice (b ∷ cs) ds (suc q) r c d e f =
    let m = length-map ds (λ x. b ++ x) in
    let i : length ds * suc q + r ≡ length (map (λ x. b ++ x) ds) + (length ds * q + r) = omega (arith, m) in
    ap (slice_get (choices (b ∷ cs) ds)) i ∙ get_right (map (λ x. b ++ x) ds) (choices cs ds) (length ds * q + r) ∙ get_choice cs ds q r c d e f

-- the digits of a number below a product
pub digit_below : (k a b : ℕ) → k < a * b → (0 < b) × (k / b < a)
digit_below k a b h = by_base (cases_lt 0 b)
  where
    none : b ≡ 0 → a * b ≡ 0
    none e = ap (λ n. a * n) e ∙ omega arith

    by_base : (0 < b) ⊎ (b ≤ 0) → (0 < b) × (k / b < a)
    by_base (inr z) = let e = none (omega arith) in absurd (omega arith)
    by_base (inl p) = (p, by_digit (cases_lt (k / b) a))
      where
        by_digit : (k / b < a) ⊎ (a ≤ k / b) → k / b < a
        by_digit (inl l) = l
        by_digit (inr g) =
            let m : b * a ≤ b * (k / b) = mul-le-mul_left b g in
            let c : a * b ≡ b * a = mul_comm a b in
            let d : b * (k / b) + k % b ≡ k = omega arith in
            absurd (omega arith)

abbrev Picked : Tree → Type 0
Picked t = (k : ℕ) → k < count t → slice_get (cubes t) k ≡ Some (cube_at t k)

pick_either : (t u : Tree) → Picked t → Picked u → (k : ℕ) → k < count t + count u → (b : Bool) → nat_lt k (count t) ≡ b → slice_get (cubes t ++ cubes u) k ≡ Some (if b then cube_at t k else cube_at u (k - count t))
pick_either t u p q k h true e =
    let l : k < count t = ltb-true k (count t) e in
    let m : k < length (cubes t) = rw (cubes_length t) l in
    slice_get-append_left (cubes t) (cubes u) k m ∙ p k l
pick_either t u p q k h false e =
    let l : count t ≤ k = ltb-false k (count t) e in
    let i : k ≡ length (cubes t) + (k - count t) = omega (arith, cubes_length t) in
    ap (slice_get (cubes t ++ cubes u)) i ∙ get_right (cubes t) (cubes u) (k - count t) ∙ q (k - count t) (omega arith)

pub picked : CubesArePicked
picked always zero h = refl
picked always (suc k) h = absurd (omega arith)
picked never k h = absurd (omega arith)
picked (one l) zero h = refl
picked (one l) (suc k) h = absurd (omega arith)
picked (both t u) k h =
    let b = digit_below k (count t) (count u) h in
    let r : k % count u < count u = let p = b.0 in omega arith in
    let c = get_choice (cubes t) (cubes u) (k / count u) (k % count u) (cube_at t (k / count u)) (cube_at u (k % count u)) (picked t (k / count u) b.1) (picked u (k % count u) r) in
    let e : k ≡ length (cubes u) * (k / count u) + k % count u = let p = b.0 in let q = cubes_length u in (let d : count u * (k / count u) + k % count u ≡ k = omega arith in sym (ap (λ n. n * (k / count u) + k % count u) q ∙ d)) in
    ap (slice_get (choices (cubes t) (cubes u))) e ∙ c
picked (either t u) k h = pick_either t u (picked t) (picked u) k h (nat_lt k (count t)) refl
