-- Quantities that are kept one after another, and their numbers.
use Rattle.std.proofs.Common.{◌≡◌, refl, sym, ap, ◌∙◌, subst, ℕ, zero, suc, ◌+◌, ◌<◌, ◌⊎◌, inl, inr, Bool, true, false, List, [], ◌∷◌, ◌++◌, length, get_or, take, length-take-le, length-append, Option, Some, None, arith}
use Rattle.std.proofs.Math.Seq.{take-suc}
use Rattle.std.proofs.lemmas.Bool.{cases_lt}
use Rattle.std.proofs.lemmas.List.{get_or_past}
use Rattle.std.proofs.lemmas.Option.{same_Some}
use Rattle.straight_line.specs.Columns.{AreNumbersWithin, Rises}
use Rattle.straight_line.specs.Keeping.{kept, kept_all, nothing_kept}
use Rattle.flat_cubes.specs.declared.draft.Quantity.{Quantity}
use Rattle.flat_cubes.specs.declared.draft.Quantity.TheVariants.{Integer, Length}
use Rattle.straight_line.specs.declared.keeping.KeptUnknowns.{KeptUnknowns}

kept_end : (f : ℕ → ℕ) (qs : List Quantity) (q : Quantity) (bs : List Bool) (b : Bool) (k : KeptUnknowns) → length bs ≡ length qs → kept_all f (qs ++ q ∷ []) (bs ++ b ∷ []) k ≡ kept f q b (kept_all f qs bs k)
kept_end f [] q [] b k e = refl
kept_end f [] q (c ∷ bs) b k e = absurd (omega arith)
kept_end f (p ∷ qs) q [] b k e = absurd (omega arith)
kept_end f (p ∷ qs) q (c ∷ bs) b k e = kept_end f qs q bs b (kept f p c k) (omega arith)

pub kept_more : (f : ℕ → ℕ) (qs : List Quantity) (q : Quantity) (used : List Bool) (i : ℕ) (k : KeptUnknowns) → i ≡ length qs → i < length used → kept_all f (qs ++ q ∷ []) (take (i + 1) used) k ≡ kept f q (get_or used i false) (kept_all f qs (take i used) k)
kept_more f qs q used i k e l =
    let s : i + 1 ≡ suc i = omega arith in
    ap (λ m. kept_all f (qs ++ q ∷ []) (take m used) k) s ∙ ap (λ z. kept_all f (qs ++ q ∷ []) z k) (take-suc used i false l) ∙ kept_end f qs q (take i used) (get_or used i false) k (length-take-le i used (omega arith) ∙ e)

-- numbers that rise and are below n
pub record AreCounted (n : ℕ) (numbers : List (Option ℕ)) : Type 0 where
  pub rising : Rises numbers
  pub within : AreNumbersWithin n numbers

counted_none : AreCounted 0 []
counted_none = record { rising = λ u w k j l e f. absurd (cc); within = λ u k e. absurd (cc) }

-- what stands at a place when one more is pushed
at_push : (xs : List (Option ℕ)) (o : Option ℕ) (u k : ℕ) → get_or (xs ++ o ∷ []) u None ≡ Some k → (get_or xs u None ≡ Some k) ⊎ ((u ≡ length xs) × (o ≡ Some k))
at_push [] o zero k e = inr (refl, e)
at_push [] o (suc u) k e = absurd (cc)
at_push (x ∷ xs) o zero k e = inl e
at_push (x ∷ xs) o (suc u) k e = elim (at_push xs o u k e) [ inl h ↦ inl h | inr h ↦ inr (ap suc h.0, h.1) ]

pub there : (xs : List (Option ℕ)) (u k : ℕ) → get_or xs u None ≡ Some k → u < length xs
there xs u k e = elim (cases_lt u (length xs)) [ inl l ↦ l | inr l ↦ absurd (let h : None ≡ Some k = sym (get_or_past xs u None l) ∙ e in cc) ]

counted_skip : (n : ℕ) (xs : List (Option ℕ)) → AreCounted n xs → AreCounted n (xs ++ None ∷ [])
counted_skip n xs c = record {
  rising = λ u w k j l e f. elim (at_push xs None u k e) [
    | inl g ↦ elim (at_push xs None w j f) [ inl h ↦ c.rising u w k j l g h | inr h ↦ absurd (let q = h.1 in cc) ]
    | inr g ↦ absurd (let q = g.1 in cc)
  ];
  within = λ u k e. elim (at_push xs None u k e) [ inl g ↦ c.within u k g | inr g ↦ absurd (let q = g.1 in cc) ];
}

counted_next : (n : ℕ) (xs : List (Option ℕ)) → AreCounted n xs → AreCounted (n + 1) (xs ++ Some n ∷ [])
counted_next n xs c = record {
  rising = λ u w k j l e f. elim (at_push xs (Some n) u k e) [
    | inl g ↦ elim (at_push xs (Some n) w j f) [ inl h ↦ c.rising u w k j l g h | inr h ↦ let q = same_Some n j h.1 in let b = c.within u k g in omega arith ]
    | inr g ↦ elim (at_push xs (Some n) w j f) [ inl h ↦ let b = there xs w j h in let p = g.0 in absurd (omega arith) | inr h ↦ let p = g.0 in let q = h.0 in absurd (omega arith) ]
  ];
  within = λ u k e. elim (at_push xs (Some n) u k e) [ inl g ↦ let b = c.within u k g in omega arith | inr g ↦ let q = same_Some n k g.1 in omega arith ];
}

abbrev pub IsCounted : KeptUnknowns → Type 0
IsCounted k = AreCounted (length k.integers) k.integer_numbers × AreCounted (length k.registers) k.register_numbers

pub kept_counted : (f : ℕ → ℕ) (q : Quantity) (b : Bool) (k : KeptUnknowns) → IsCounted k → IsCounted (kept f q b k)
kept_counted f q false k c = (counted_skip (length k.integers) k.integer_numbers c.0, counted_skip (length k.registers) k.register_numbers c.1)
kept_counted f (Integer name) true k c = (subst (λ n. AreCounted n (k.integer_numbers ++ Some (length k.integers) ∷ [])) (sym (length-append k.integers (name ∷ []))) (counted_next (length k.integers) k.integer_numbers c.0), counted_skip (length k.registers) k.register_numbers c.1)
kept_counted f (Length i) true k c = (counted_skip (length k.integers) k.integer_numbers c.0, subst (λ n. AreCounted n (k.register_numbers ++ Some (length k.registers) ∷ [])) (sym (length-append k.registers (f i ∷ []))) (counted_next (length k.registers) k.register_numbers c.1))

all_counted : (f : ℕ → ℕ) (qs : List Quantity) (bs : List Bool) (k : KeptUnknowns) → IsCounted k → IsCounted (kept_all f qs bs k)
all_counted f [] bs k c = c
all_counted f (q ∷ qs) [] k c = c
all_counted f (q ∷ qs) (b ∷ bs) k c = all_counted f qs bs (kept f q b k) (kept_counted f q b k c)

-- the numbers of what is kept rise, and are below how many are kept
pub keeps_counted : (f : ℕ → ℕ) (qs : List Quantity) (bs : List Bool) → IsCounted (kept_all f qs bs nothing_kept)
keeps_counted f qs bs = all_counted f qs bs nothing_kept (counted_none, counted_none)
