-- How long words become that meet definitions.
use Rattle.std.proofs.Common.{◌≡◌, sym, ap, subst, Bool, true, false, if◌then◌else◌, ℕ, zero, suc, ◌+◌, ◌-◌, ◌*◌, ◌≤◌, max, List, [], ◌∷◌, ◌++◌, map, length, get_or, drop, arith}
use Rattle.std.specs.List.{AllByRecursion, sum_by}
use Rattle.std.proofs.lemmas.List.{length-append, length-drop}
use Rattle.std.proofs.lemmas.List.Sums.{sum_by-cons}
use Rattle.std.proofs.Math.Nat.{mul-le-mul_left, mul-le-mul_right}
use Rattle.sv_terms.specs.Language.{Word}
use Rattle.sv_terms.specs.Meaning.{joined}
use Rattle.sv_terms.specs.Replacement.{begins, replace_all, replace_first, replace_from}
use Rattle.sv_terms.specs.Transduction.{IsFormed, Pairs}
use Rattle.sv_terms.specs.TransducerSizes.{edges_most, ends_most}
use Rattle.sv_terms.specs.TransducerSizeLaws.{within-most}
use Rattle.sv_terms.specs.declared.transducer.Transducer.{Transducer}
use Rattle.sv_terms.specs.TransductionLaws.{one_more}
use Rattle.flat_cubes.specs.Using.{used}
use Rattle.cube_bounds.specs.Growth.{growth_by}
use Rattle.flat_cubes.specs.Satisfying.{ComesBy}
use Rattle.flat_cubes.specs.Straight.{IsFormedBy}
use Rattle.flat_cubes.specs.declared.definition.By.{By}
use Rattle.flat_cubes.specs.declared.definition.By.TheVariants as by

-- a replacement of the first occurrence adds the replacement at most
first_length : (p u w : Word) → length (replace_first p u w) ≤ length w + length u
first_length p u [] = by_test (begins p [])
  where
    by_test : (b : Bool) → length (if b then u else []) ≤ 0 + length u
    by_test true = omega arith
    by_test false = omega arith
first_length p u (c ∷ w) = by_test (begins p (c ∷ w)) (first_length p u w)
  where
    by_test : (b : Bool) → length (replace_first p u w) ≤ length w + length u → length (if b then u ++ drop (length p) (c ∷ w) else (c ∷ replace_first p u w)) ≤ length (c ∷ w) + length u
    by_test true r = let a = length-append u (drop (length p) (c ∷ w)) in let b = length-drop (length p) (c ∷ w) in omega (arith, a, b)
    by_test false r = omega (arith, r)

-- and one of every occurrence makes of each character a replacement at most
from_length : (p u : Word) (skip : ℕ) (w : Word) → length (replace_from p u skip w) ≤ length w * max 1 (length u)
from_length p u skip [] = omega arith
from_length p u (suc skip) (c ∷ w) = let r = from_length p u skip w in let m = one_more (length w) (max 1 (length u)) in omega (arith, r, m)
from_length p u zero (c ∷ w) = by_test (begins p (c ∷ w)) (from_length p u (length p - 1) w) (from_length p u zero w)
  where
    by_test : (b : Bool) → length (replace_from p u (length p - 1) w) ≤ length w * max 1 (length u) → length (replace_from p u zero w) ≤ length w * max 1 (length u)
        → length (if b then u ++ replace_from p u (length p - 1) w else (c ∷ replace_from p u zero w)) ≤ length (c ∷ w) * max 1 (length u)
    by_test true r s = let a = length-append u (replace_from p u (length p - 1) w) in let m = one_more (length w) (max 1 (length u)) in omega (arith, a, r, m)
    by_test false r s = let m = one_more (length w) (max 1 (length u)) in omega (arith, s, m)

all_length : (p u w : Word) → length (replace_all p u w) ≤ length w * max 1 (length u)
all_length [] u w = let m : length w * 1 ≤ length w * max 1 (length u) = mul-le-mul_left (length w) (omega arith) in omega (arith, m)
all_length (c ∷ p) u w = from_length (c ∷ p) u zero w

through_length : (t : Transducer) (read written : Word) → IsFormed t → Pairs t read written → length written ≤ length read * edges_most t.edges + ends_most t.ends
through_length t read written f h = (within-most t).ended t.start read written f.start h

-- with n characters and one, by growths
first_short : (g p u n l k : ℕ) → l ≤ g * suc n → k ≤ l + u → k ≤ (g + p + u) * suc n
first_short g p u n l k h e =
    let a : (g + p + u) * suc n ≡ g * suc n + (p * suc n + u * suc n) = omega arith in
    let b : u * 1 ≤ u * suc n = mul-le-mul_left u (omega arith) in
    omega (arith, a, b, h, e)

all_short : (g p m n l k : ℕ) → l ≤ g * suc n → k ≤ l * m → k ≤ (g + p) * m * suc n
all_short g p m n l k h e =
    let a : l * m ≤ g * suc n * m = mul-le-mul_right m h in
    let b : g * suc n * m + p * suc n * m ≡ (g + p) * m * suc n = omega arith in
    omega (arith, a, b, e)

through_short : (g m e n l k : ℕ) → l ≤ g * suc n → k ≤ l * m + e → k ≤ max g (g * m + e) * suc n
through_short g m e n l k h f =
    let a : l * m ≤ g * suc n * m = mul-le-mul_right m h in
    let b : e * 1 ≤ e * suc n = mul-le-mul_left e (omega arith) in
    let c : g * suc n * m + e * suc n ≡ (g * m + e) * suc n = omega arith in
    let d : (g * m + e) * suc n ≤ max g (g * m + e) * suc n = mul-le-mul_right (suc n) (omega arith) in
    omega (arith, a, b, c, d, f)

module _ (gs : List ℕ) (words : ℕ → Word) (n : ℕ) where
  abbrev pub IsShort : ℕ → Type 0
  IsShort v = length (words v) ≤ get_or gs v 1 * suc n

  joined_short : (vs : List ℕ) → AllByRecursion IsShort vs → length (joined (map words vs)) ≤ sum_by (λ v. get_or gs v 1) vs * suc n
  joined_short [] h = omega arith
  joined_short (v ∷ vs) h =
      let a = length-append (words v) (joined (map words vs)) in
      let r = joined_short vs h.1 in
      let s = ap (λ x. x * suc n) (sum_by-cons (λ (u : ℕ). get_or gs u 1) v vs) in
      let d : (get_or gs v 1 + sum_by (λ u. get_or gs u 1) vs) * suc n ≡ get_or gs v 1 * suc n + sum_by (λ u. get_or gs u 1) vs * suc n = omega arith in
      let f = h.0 in
      omega (arith, a, r, s, d, f)

  pub defined_short : (b : By) (w : Word) → IsFormedBy b → ComesBy words w b → AllByRecursion IsShort (used b) → length w ≤ growth_by gs b * suc n
  defined_short (by.Concat vs) w f e h = subst (λ (x : Word). length x ≤ sum_by (λ v. get_or gs v 1) vs * suc n) (sym e) (joined_short vs h)
  defined_short (by.First p u v) w f e h =
      let l : length w ≤ length (words v) + length u = subst (λ (x : Word). length x ≤ length (words v) + length u) (sym e) (first_length p u (words v)) in
      first_short (get_or gs v 1) (length p) (length u) n (length (words v)) (length w) h.0 l
  defined_short (by.All p u v) w f e h =
      let l : length w ≤ length (words v) * max 1 (length u) = subst (λ (x : Word). length x ≤ length (words v) * max 1 (length u)) (sym e) (all_length p u (words v)) in
      all_short (get_or gs v 1) (length p) (max 1 (length u)) n (length (words v)) (length w) h.0 l
  defined_short (by.Through t v) w f e h =
      through_short (get_or gs v 1) (edges_most t.edges) (ends_most t.ends) n (length (words v)) (length w) h.0 (through_length t (words v) w f e)
