-- The characters between pairs.
use Rattle.std.proofs.Common.{◌≡◌, ℕ, ◌+◌, ◌-◌, ◌<◌, ◌≤◌, ◌&&◌, ◌||◌, Bool, true, false, cond, not, nat_le, List, [], ◌∷◌, ◌++◌, length, drop, get_or, add-one, refl, ap, ◌∙◌, subst, arith}
use Rattle.std.proofs.Math.ListN.{drop_of_length-le}
use Rattle.std.proofs.Math.Seq.{drop-cons}
use Rattle.std.proofs.lemmas.Bool.Decides.{nat_tests}
use Rattle.std.specs.Prelude.{nat_lt}
use Rattle.sv_word.proofs.Apart.{IsApartBetween, below_apart, between-more, between-push, apart-less, ranges-push}
use Rattle.sv_word.specs.Ranges.{in_ranges, with_gap, IsApartFrom}
use Rattle.sv_word.specs.Words.{greatest_character}

-- the pairs `rest` of `all` are still to come, and the characters before `from` are done
pub record IsComplementing (all out rest : List (ℕ × ℕ)) (from : ℕ) : Type 0 where
  pub exact : (c : ℕ) → (in_ranges out c || (nat_le from c && (nat_le c greatest_character && not (in_ranges rest c)))) ≡ (nat_le c greatest_character && not (in_ranges all c))
  pub rest_apart : IsApartFrom from rest
  pub out_apart : IsApartBetween 0 out from
  pub top : from ≤ 0x30000

gap-exact : (from to : ℕ) (out : List (ℕ × ℕ)) (c : ℕ) → in_ranges (with_gap from to out) c ≡ (in_ranges out c || (nat_le from c && nat_lt c to))
gap-exact from to out c = by (nat_lt from to) refl
  where
    some : (from to c : ℕ) → nat_lt from to ≡ true → (nat_le from c && nat_le c (to - 1)) ≡ (nat_le from c && nat_lt c to)
    some from to c e = grind (arith, nat_tests)

    none : (from to c : ℕ) (o : Bool) → nat_lt from to ≡ false → o ≡ (o || (nat_le from c && nat_lt c to))
    none from to c o e = grind (arith, nat_tests)

    by : (t : Bool) → nat_lt from to ≡ t → in_ranges (cond t (out ++ (from, to - 1) ∷ []) out) c ≡ (in_ranges out c || (nat_le from c && nat_lt c to))
    by true e = ranges-push out (from, to - 1) c ∙ ap (λ b. in_ranges out c || b) (some from to c e)
    by false e = none from to c (in_ranges out c) e

gap-apart : (from to : ℕ) (out : List (ℕ × ℕ)) → from ≤ to → to ≤ 0x30000 → IsApartBetween 0 out from → IsApartBetween 0 (with_gap from to out) (to + 1)
gap-apart from to out le top a = by (nat_lt from to) refl
  where
    by : (t : Bool) → nat_lt from to ≡ t → IsApartBetween 0 (cond t (out ++ (from, to - 1) ∷ []) out) (to + 1)
    by true e =
        let lt : from < to = grind (arith, nat_tests) in
        between-more 0 _ ((to - 1) + 2) (to + 1) (omega arith) (between-push 0 out from from (to - 1) (omega arith) (omega arith) (omega arith) a)
    by false e = between-more 0 out from (to + 1) (omega arith) a

gap-step : (o r : Bool) (from low high c top : ℕ) → from ≤ low → low ≤ high → high ≤ top → (c < high + 1 → r ≡ false)
    → ((o || (nat_le from c && nat_lt c low)) || (nat_le (high + 1) c && (nat_le c top && not r))) ≡ (o || (nat_le from c && (nat_le c top && not ((nat_le low c && nat_le c high) || r))))
gap-step o r from low high c top a b t h = grind (arith, nat_tests)

complementing-step : (all out : List (ℕ × ℕ)) (p : ℕ × ℕ) (rest : List (ℕ × ℕ)) (from : ℕ) → IsComplementing all out (p ∷ rest) from → IsComplementing all (with_gap from p.0 out) rest (p.1 + 1)
complementing-step all out p rest from m =
    let a = m.rest_apart in
    record {
      exact = λ c. (
          rw (gap-exact from p.0 out c)
          (gap-step (in_ranges out c) (in_ranges rest c) from p.0 p.1 c greatest_character a.0 a.1 a.2 (λ lt. below_apart (p.1 + 2) rest c a.3 (omega arith)) ∙ m.exact c));
      rest_apart = apart-less (p.1 + 2) (p.1 + 1) rest (omega arith) a.3;
      out_apart = let h = a.1 in let k = a.2 in between-more 0 _ (p.0 + 1) (p.1 + 1) (omega arith) (gap-apart from p.0 out a.0 (omega arith) m.out_apart);
      top = let k = a.2 in omega arith;
    }

pub complementing-at : (all out : List (ℕ × ℕ)) (i from : ℕ) → IsComplementing all out (drop i all) from → i < length all
    → IsComplementing all (with_gap from (get_or all i (0, 0)).0 out) (drop (i + 1) all) ((get_or all i (0, 0)).1 + 1)
complementing-at all out i from m lt =
    rw add-one (complementing-step all out _ _ from (subst (λ l. IsComplementing all out l from) (drop-cons all i (0, 0) lt) m))

module _ (all out : List (ℕ × ℕ)) (i from : ℕ) (m : IsComplementing all out (drop i all) from) (past : length all ≤ i) where
  done : IsComplementing all out [] from
  done = subst (λ l. IsComplementing all out l from) (drop_of_length-le all past) m

  pub complement-apart : IsApartBetween 0 (with_gap from 0x30000 out) 0x30001
  complement-apart = gap-apart from 0x30000 out done.top (omega arith) done.out_apart
