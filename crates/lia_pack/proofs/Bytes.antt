-- Reading the bytes of a number.
use Rattle.std.proofs.Common.{◌≡◌, ℕ, ◌+◌, ◌-◌, ◌*◌, ◌<◌, ◌≤◌, ◌^◌, List, [], ◌∷◌, cond, inl, inr, ap, sym, ◌∙◌, arith}
use Rattle.std.proofs.lemmas.Bool.{cases_lt, le-ltb, lt-ltb}
use Rattle.lia_pack.specs.Numbers.{numbers_from, Say}

first_is : (m n : ℕ) (ms ns : List ℕ) → m ∷ ms ≡ n ∷ ns → m ≡ n
first_is m n ms ns e = cc

-- what was read of a number is at most the number
pub at_most_first : (bytes : List ℕ) (high n : ℕ) (ns : List ℕ) → numbers_from high bytes ≡ n ∷ ns → high ≤ n
at_most_first [] high n ns e = absurd cc
at_most_first (b ∷ bs) high n ns e =
    elim (cases_lt b 128) [
      | inl lt ↦ let k = first_is (high * 128 + b) n (numbers_from 0 bs) ns (sym (ap (λ t. cond t ((high * 128 + b) ∷ numbers_from 0 bs) (numbers_from (high * 128 + (b - 128)) bs)) (lt-ltb b 128 lt)) ∙ e) in omega (arith, k)
      | inr le ↦ let k = at_most_first bs (high * 128 + (b - 128)) n ns (sym (ap (λ t. cond t ((high * 128 + b) ∷ numbers_from 0 bs) (numbers_from (high * 128 + (b - 128)) bs)) (le-ltb b 128 le)) ∙ e) in omega (arith, k)
    ]

pub next_fits : (bytes left rest : List ℕ) (high first : ℕ) → left ≡ first ∷ rest → 128 ≤ first → numbers_from high left ≡ numbers_from 0 bytes → (n : ℕ) × ((ns : List ℕ) × Say bytes (n ∷ ns)) → high * 128 + (first - 128) < 2 ^ 128
next_fits bytes left rest high first l le same say =
    let e : numbers_from (high * 128 + (first - 128)) rest ≡ say.0 ∷ say.1.0 =
    sym (ap (λ t. cond t ((high * 128 + first) ∷ numbers_from 0 rest) (numbers_from (high * 128 + (first - 128)) rest)) (le-ltb first 128 le))
    ∙ sym (ap (numbers_from high) l) ∙ same ∙ say.1.1.same in
    omega (arith, at_most_first rest (high * 128 + (first - 128)) say.0 say.1.0 e, say.1.1.small.0)
