-- A trail ends by itself: it has fewer pivots than there are sets of quantities.
use Rattle.std.proofs.Common.{◌≡◌, ◌≢◌, ℕ, zero, suc, ◌+◌, ◌<◌, List, [], ◌∷◌, length, Bool, true, false, eqb, ◌||◌, ◌⊎◌, ⊎_elim, inl, inr, refl, ap, sym, ◌∙◌, subst, arith}
use Rattle.std.specs.List.{IsDistinct, list_any, AllByRecursion}
use Rattle.std.proofs.lemmas.Map.Keys.{IsDistinct-cons}
use Rattle.std.proofs.lemmas.Map.Steps.{length-le_from_distinct_below}
use Rattle.std.proofs.lemmas.Bool.Decides.{eqb_tells}
use Rattle.lia_tableau.specs.declared.standing.Standing.{Standing}
use Rattle.lia_tableau.specs.declared.standing.Standing.TheVariants.{Outside, Basic}
use Rattle.lia_tableau.specs.declared.table.Table.{Table}
use Rattle.lia_tableau.specs.Pivoting.{IsPivotStep}
use Rattle.lia_tableau.specs.Trails.{HaveSameBasis, Trail, stay, pivot, trail_length, sets_of}
use Rattle.lia_tableau.proofs.NoRepeats.{no_repeat}

-- a number for each basis
abbrev code : List Standing → ℕ
code [] = 0
code (Outside ∷ ls) = code ls + code ls
code (Basic f ∷ ls) = suc (code ls + code ls)

code_below : (ls : List Standing) → code ls < sets_of (length ls)
code_below [] = omega arith
code_below (Outside ∷ ls) = let h = code_below ls in omega arith
code_below (Basic f ∷ ls) = let h = code_below ls in omega arith

same_basis : (xs ys : List Standing) → length xs ≡ length ys → code xs ≡ code ys → HaveSameBasis xs ys
same_basis [] [] l e q = ((λ x. x), (λ x. x))
same_basis [] (b ∷ ys) l e q = absurd (omega arith)
same_basis (a ∷ xs) [] l e q = absurd (omega arith)
same_basis (Outside ∷ xs) (Basic g ∷ ys) l e q = absurd (omega arith)
same_basis (Basic f ∷ xs) (Outside ∷ ys) l e q = absurd (omega arith)
same_basis (Outside ∷ xs) (Outside ∷ ys) l e zero = ((λ x. absurd (let k = x.1 in cc)), (λ x. absurd (let k = x.1 in cc)))
same_basis (Outside ∷ xs) (Outside ∷ ys) l e (suc q) = same_basis xs ys (omega arith) (omega arith) q
same_basis (Basic f ∷ xs) (Basic g ∷ ys) l e zero = ((λ x. (g, refl)), (λ x. (f, refl)))
same_basis (Basic f ∷ xs) (Basic g ∷ ys) l e (suc q) = same_basis xs ys (omega arith) (omega arith) q

-- the numbers of the bases of a trail
abbrev codes : (first last : Table) → Trail first last → List ℕ
codes first last (stay t) = code t.lines ∷ []
codes first last (pivot start next end s rest) = code start.lines ∷ codes next end rest

codes_length : (first last : Table) (t : Trail first last) → length (codes first last t) ≡ suc (trail_length first last t)
codes_length first last (stay t) = refl
codes_length first last (pivot start next end s rest) = ap suc (codes_length next end rest)

same_size : (first last : Table) → Trail first last → length last.lines ≡ length first.lines
same_size first last (stay t) = refl
same_size first last (pivot start next end s rest) = same_size next end rest ∙ s.exchange.size

-- a basis of the trail
record IsOnTrail (first : Table) (c : ℕ) : Type 0 where
  table : Table
  trail : Trail first table
  is : c ≡ code table.lines

later : (first next : Table) (c : ℕ) → IsPivotStep first next → IsOnTrail next c → IsOnTrail first c
later first next c s k = record { table = k.table; trail = pivot first next k.table s k.trail; is = k.is }

all_on : (first last : Table) (t : Trail first last) → AllByRecursion (IsOnTrail first) (codes first last t)
all_on first last (stay t) = (record { table = t; trail = stay t; is = refl }, tt)
all_on first last (pivot start next end s rest) =
    (record { table = start; trail = stay start; is = refl }, all_later (codes next end rest) (all_on next end rest))
  where
    all_later : (cs : List ℕ) → AllByRecursion (IsOnTrail next) cs → AllByRecursion (IsOnTrail start) cs
    all_later [] h = tt
    all_later (c ∷ cs) h = (later start next c s h.0, all_later cs h.1)

on_below : (first : Table) (c : ℕ) → IsOnTrail first c → c < sets_of (length first.lines)
on_below first c k =
    let b = code_below k.table.lines in
    subst (λ n. n < sets_of (length first.lines)) (sym k.is) (subst (λ n. code k.table.lines < sets_of n) (same_size first k.table k.trail) b)

found : (first : Table) (cs : List ℕ) → AllByRecursion (IsOnTrail first) cs → (q : ℕ) → list_any (eqb q) cs ≡ true → q < sets_of (length first.lines)
found first [] h q e = absurd (cc)
found first (c ∷ cs) h q e = by (eqb q c) (eqb_tells q c) (found first cs h.1 q) e
  where
    by : (b : Bool) → ((b ≡ true) × (q ≡ c)) ⊎ ((b ≡ false) × (q ≢ c)) → (list_any (eqb q) cs ≡ true → q < sets_of (length first.lines)) → (b || list_any (eqb q) cs) ≡ true → q < sets_of (length first.lines)
    by b (inl s) r w = subst (λ n. n < sets_of (length first.lines)) (sym s.1) (on_below first c h.0)
    by true (inr s) r w = absurd (let k = s.0 in cc)
    by false (inr s) r w = r w

apart : (first next : Table) → IsPivotStep first next → (c : ℕ) → IsOnTrail next c → eqb (code first.lines) c ≡ false
apart first next s c k =
    ⊎_elim
    (λ e. absurd (no_repeat first next k.table s k.trail (same_basis first.lines k.table.lines (sym (same_size next k.table k.trail ∙ s.exchange.size)) (e.1 ∙ k.is))))
    (λ n. n.0)
    (eqb_tells (code first.lines) c)

none : IsDistinct eqb []
unfolding IsDistinct
none = tt

distinct : (first last : Table) (t : Trail first last) → IsDistinct eqb (codes first last t)
distinct first last (stay t) = IsDistinct-cons eqb (code t.lines) [] tt none
distinct first last (pivot start next end s rest) = IsDistinct-cons eqb (code start.lines) (codes next end rest) (all_apart (codes next end rest) (all_on next end rest)) (distinct next end rest)
  where
    all_apart : (cs : List ℕ) → AllByRecursion (IsOnTrail next) cs → AllByRecursion (λ c. eqb (code start.lines) c ≡ false) cs
    all_apart [] h = tt
    all_apart (c ∷ cs) h = (apart start next s c h.0, all_apart cs h.1)

-- a trail has fewer pivots than there are sets of its quantities
pub trail_ends : (first last : Table) (t : Trail first last) → trail_length first last t < sets_of (length first.lines)
trail_ends first last t =
    let n = length-le_from_distinct_below (codes first last t) (sets_of (length first.lines)) (distinct first last t) (found first (codes first last t) (all_on first last t)) in
    let e = codes_length first last t in
    omega arith

-- one more due pivot
abbrev pub extended : (a b c : Table) → Trail a b → IsPivotStep b c → Trail a c
extended a b c (stay t) s = pivot t c c s (stay c)
extended a b c (pivot first next last s rest) z = pivot first next c s (extended next last c rest z)

pub extended_length : (a b c : Table) (t : Trail a b) (s : IsPivotStep b c) → trail_length a c (extended a b c t s) ≡ suc (trail_length a b t)
extended_length a b c (stay t) s = refl
extended_length a b c (pivot first next last s rest) z = ap suc (extended_length next last c rest z)
