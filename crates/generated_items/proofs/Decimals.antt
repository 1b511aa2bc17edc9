-- The decimal digits of small numbers are numerals, and write these numbers.
use Rattle.std.proofs.Common.{◌≡◌, ℕ, zero, suc, ◌≤◌, ◌<◌, Bool, true, ◌&&◌, not, nat_eq, ◌⊎◌, ⊎_elim, refl, ap, ◌∙◌, arith, eqb-true}
use Rattle.std.proofs.lemmas.Bool.{and_parts}
use Rattle.std.specs.Fmt.{decimal, digits}
use Rattle.smt_names.specs.Tokens.{value}
use Rattle.sexpr_reader.specs.Bytes.{is_border}
use Rattle.sexpr_reader.specs.Tokens.{are_some, is_numeral}

abbrev is_plain : ℕ → Bool
is_plain n = is_numeral (decimal n) && (are_some (λ b. not (is_border b)) (decimal n) && nat_eq (value (decimal n)) n)

-- the test of each number below
abbrev each_below : (ℕ → Bool) → ℕ → Bool
each_below p zero = true
each_below p (suc n) = p n && each_below p n

last_or_below : (k n : ℕ) → k < suc n → (k < n) ⊎ (k ≡ n)
last_or_below k n h = grind (arith, h)

found : (p : ℕ → Bool) (n k : ℕ) → each_below p n ≡ true → k < n → p k ≡ true
found p zero k e h = absurd (omega (arith, h))
found p (suc n) k e h =
    let parts = and_parts (p n) (each_below p n) e in
    ⊎_elim (λ l. found p n k parts.1 l) (λ q. ap p q ∙ parts.0) (last_or_below k n h)

-- each number up to 101 was tried
tried : each_below is_plain 102 ≡ true
unfolding digits
tried = refl

pub record IsDecimal (n : ℕ) : Type 0 where
  pub numeral : is_numeral (decimal n) ≡ true
  pub run : are_some (λ b. not (is_border b)) (decimal n) ≡ true
  pub value : value (decimal n) ≡ n

pub small_decimal : (n : ℕ) → n ≤ 101 → IsDecimal n
small_decimal n h =
    let first = and_parts (is_numeral (decimal n)) _ (found is_plain 102 n tried (omega (arith, h))) in
    let second = and_parts (are_some (λ b. not (is_border b)) (decimal n)) _ first.1 in
    record { numeral = first.0; run = second.0; value = eqb-true _ _ second.1 }
