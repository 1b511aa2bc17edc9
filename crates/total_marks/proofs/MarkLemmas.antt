-- Bits of words.
use Rattle.std.proofs.Common.{◌≡◌, ℕ, ◌+◌, ◌-◌, ◌*◌, ◌/◌, ◌%◌, ◌^◌, ◌<◌, ◌≤◌, List, length, get_or, not, sym, ap, ◌∙◌, subst, inl, inr, arith, w64}
use Rattle.std.specs.Prelude.{bit_and, All, take, slice_get, Some}
use Rattle.std.specs.Int.{bit_at, bit_not}
use Rattle.std.proofs.lemmas.Bool.{cases_lt}
use Rattle.std.proofs.lemmas.List.{get_or_past, take_more, take_all}
use Rattle.std.proofs.lemmas.List.Elements.{All-push}
use Rattle.std.proofs.lemmas.Option.{slice_get-get_or}
use Rattle.std.proofs.lemmas.Nat.{shr-shr, pow_pos}
use Rattle.std.proofs.lemmas.Nat.Bits.{bit_at_and, bit_at_not, bit_at_cat_low, bit_at_cat_high, bit_at-zero, bit_at-lt}
use Rattle.total_marks.specs.Marks.{HasBit, Covers}

-- a word without another one has only bits that the other lacks
pub no-other : (a b bit : ℕ) → b < 2 ^ 64 → bit < 64 → bit_and a (bit_not w64 b) ≡ 0 → bit_at a bit ≡ 1 → bit_at b bit ≡ 1
no-other a b bit fits low none one =
    let e : bit_at (bit_and a (bit_not w64 b)) bit ≡ 0 = ap (λ n. bit_at n bit) none ∙ bit_at-zero bit in
    omega (arith, bit_at_and a (bit_not w64 b) bit, bit_at_not w64 b bit fits low, bit_at-lt b bit)

-- a bit of a word that is moved up
pub moved-low : (word by bit : ℕ) → bit + by < 64 → bit_at word bit ≡ 1 → bit_at (word * 2 ^ by % 2 ^ 64) (bit + by) ≡ 1
moved-low word by bit low one =
    let x = word * 2 ^ by in
    let split : x ≡ x / 2 ^ 64 * 2 ^ 64 + x % 2 ^ 64 = omega arith in
    let here : bit_at x (bit + by) ≡ bit_at (x % 2 ^ 64) (bit + by) = ap (λ n. bit_at n (bit + by)) split ∙ bit_at_cat_low (x / 2 ^ 64) 64 (x % 2 ^ 64) (bit + by) low in
    let some : 0 < 2 ^ by = pow_pos by in
    let high : bit_at (word * 2 ^ by + 0) (bit + by) ≡ bit_at word (bit + by - by) = bit_at_cat_high word by 0 (bit + by) some (omega arith) in
    let same : word * 2 ^ by + 0 ≡ x = omega arith in
    let back : bit + by - by ≡ bit = omega arith in
    sym here ∙ ap (λ n. bit_at n (bit + by)) (sym same) ∙ high ∙ ap (bit_at word) back ∙ one

pub moved-high : (word by bit : ℕ) → bit < 64 → 64 ≤ bit + by → by < 64 → bit_at word bit ≡ 1 → bit_at (word / 2 ^ (64 - by)) (bit + by - 64) ≡ 1
moved-high word by bit low high small one =
    let sum : 64 - by + (bit + by - 64) ≡ bit = omega arith in
    ap (λ n. n % 2) (shr-shr word (64 - by) (bit + by - 64)) ∙ ap (bit_at word) sum ∙ one

-- the word at a place has a bit
pub bit-there : (words : List ℕ) (at bit word : ℕ) → bit < 64 → get_or words at 0 ≡ word → bit_at word bit ≡ 1 → HasBit words (64 * at + bit)
bit-there words at bit word low get one =
    let place : (64 * at + bit) / 64 ≡ at = omega arith in
    let rest : (64 * at + bit) % 64 ≡ bit = omega arith in
    ap (λ n. bit_at (get_or words n 0) ((64 * at + bit) % 64)) place ∙ ap (λ n. bit_at (get_or words at 0) n) rest ∙ ap (λ w. bit_at w bit) get ∙ one

-- all bits of a word at a place
abbrev pub HoldsAt : List ℕ → ℕ → ℕ → Type 0
HoldsAt words at bits = (bit : ℕ) → bit < 64 → bit_at bits bit ≡ 1 → 64 * at + bit < 64 * length words → HasBit words (64 * at + bit)

pub held : (words : List ℕ) (at bits word : ℕ) → word < 2 ^ 64 → get_or words at 0 ≡ word → bit_and bits (bit_not w64 word) ≡ 0 → HoldsAt words at bits
held words at bits word fits get none = λ bit low one inside. bit-there words at bit word low get (no-other bits word bit fits low none one)

-- all bits of a word, moved up
abbrev pub HoldsMoved : List ℕ → ℕ → ℕ → ℕ → Type 0
HoldsMoved words at word by = (bit : ℕ) → bit < 64 → bit_at word bit ≡ 1 → 64 * at + (bit + by) < 64 * length words → HasBit words (64 * at + (bit + by))

pub held-moved : (words : List ℕ) (at word by : ℕ) → by < 64 → HoldsAt words at (word * 2 ^ by % 2 ^ 64) → HoldsAt words (at + 1) (word / 2 ^ (64 - by)) → HoldsMoved words at word by
held-moved words at word by small here after = λ bit low one inside. elim (cases_lt (bit + by) 64) [
  | inl lt ↦ here (bit + by) lt (moved-low word by bit lt one) inside
  | inr ge ↦
      let e : 64 * (at + 1) + (bit + by - 64) ≡ 64 * at + (bit + by) = omega arith in
      subst (HasBit words) e (after (bit + by - 64) (omega arith) (moved-high word by bit low (omega arith) small one) (omega arith))
]

module _ (from to : List ℕ) (skip by : ℕ) where
  -- the bits of the first words are held, moved up
  abbrev pub AreHeld : ℕ → Type 0
  AreHeld at = (j : ℕ) → j < at → HoldsMoved to (j + skip) (get_or from j 0) by

  pub held-more : (at : ℕ) → AreHeld at → HoldsMoved to (at + skip) (get_or from at 0) by → AreHeld (at + 1)
  held-more at before last j lt = elim (cases_lt j at) [
    | inl less ↦ before j less
    | inr not ↦ let e : at ≡ j = omega arith in subst (λ n. HoldsMoved to (n + skip) (get_or from n 0) by) e last
  ]

  pub held-all : (at cost : ℕ) → length from ≤ at → skip ≡ cost / 64 → by ≡ cost % 64 → AreHeld at → Covers from to cost
  held-all at cost all s b h total one inside =
      let j = total / 64 in
      let bit = total % 64 in
      let e : 64 * (j + skip) + (bit + by) ≡ total + cost = omega arith in
      elim (cases_lt j at) [
        | inl lt ↦ subst (HasBit to) e (h j lt bit (omega arith) one (omega arith))
        | inr past ↦
            let none : bit_at (get_or from j 0) bit ≡ 0 = ap (λ w. bit_at w bit) (get_or_past from j 0 (omega arith)) ∙ bit_at-zero bit in
            absurd (let o = one in omega arith)
      ]

-- one element more of which a fact holds
pub take-more : {X : Type 0} (P : X → Type 0) (xs : List X) (i : ℕ) (x : X) → i < length xs → x ≡ get_or xs i x → All P (take i xs) → P x → All P (take (i + 1) xs)
take-more P xs i x lt is all p = rw (take_more xs i x lt) (All-push P (take i xs) (get_or xs i x) all (subst P is p))

pub take-every : {X : Type 0} (P : X → Type 0) (xs : List X) (i : ℕ) → length xs ≤ i → All P (take i xs) → All P xs
take-every P xs i past all = subst (All P) (take_all i xs past) all

-- one place more at which a fact holds
pub place-more : {X : Type 0} (P : ℕ → X → Type 0) (xs : List X) (at : ℕ) (x : X) → at < length xs → x ≡ get_or xs at x → ((i : ℕ) (y : X) → i < at → slice_get xs i ≡ Some y → P i y) → P at x
    → (i : ℕ) (y : X) → i < at + 1 → slice_get xs i ≡ Some y → P i y
place-more P xs at x lt is before p i y below e = elim (cases_lt i at) [
  | inl less ↦ before i y less e
  | inr not ↦
      let same : at ≡ i = omega arith in
      let here : slice_get xs at ≡ Some x = slice_get-get_or xs at x lt ∙ ap Some (sym is) in
      let there : slice_get xs at ≡ Some y = ap (slice_get xs) same ∙ e in
      let one : x ≡ y = cc in
      subst (λ n. P n y) same (subst (P at) one p)
]
