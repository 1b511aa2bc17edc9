-- A term that is put into those of a form.
use Rattle.std.proofs.Common.{◌≡◌, refl, sym, ap, ◌∙◌, subst, ℕ, zero, suc, ◌+◌, ◌-◌, ◌^◌, ◌<◌, ◌≤◌, ℤ, pos, negsuc, ◌+ℤ◌, List, [], ◌∷◌, ◌++◌, take, drop, length, get_or, drop-cons, unsigned_abs, nat_eq, Some, inl, inr, arith, ne_eqb}
use Rattle.std.specs.Prelude.{if◌then◌else◌}
use Rattle.std.proofs.lemmas.Int.{ints}
use Rattle.std.proofs.lemmas.List.{drop_all, take_more}
use Rattle.std.proofs.lemmas.Bool.{cases_lt, eq-eqb}
use Rattle.sv_linear.specs.Terms.{AscendsWithin, coefficient}
use Rattle.cube_draft.specs.Comparing.{IsPlaceIn, at_number, number_of, sum_at}
use Rattle.cube_draft.specs.Gathered.{number_at}

abbrev pub Terms : Type 0
Terms = List (ℕ × ℤ)

pub skipped : (t : ℕ × ℤ) (u : ℕ) (z : ℤ) → (t.0 ≡ u → ⊥) → (if nat_eq t.0 u then t.1 else pos 0) +ℤ z ≡ z
skipped t u z n = ap (λ b. (if b then t.1 else pos 0) +ℤ z) (ne_eqb t.0 u n) ∙ omega (arith, ints)

pub taken : (t : ℕ × ℤ) (z : ℤ) → z ≡ pos 0 → (if nat_eq t.0 t.0 then t.1 else pos 0) +ℤ z ≡ t.1
taken t z e = ap (λ b. (if b then t.1 else pos 0) +ℤ z) (eq-eqb t.0 t.0 refl) ∙ omega (arith, ints)

-- no coefficient below the unknowns of the form
pub below : (low high u : ℕ) (ts : Terms) → AscendsWithin low high ts → u < low → coefficient u ts ≡ pos 0
below low high u [] a h = refl
below low high u (t ∷ ts) a h = skipped t u (coefficient u ts) (λ e. let l = a.0 in omega arith) ∙ below (t.0 + 1) high u ts a.1.1 (let l = a.0 in omega arith)

-- the first unknown is the least
first_least : (low high k : ℕ) (t x : ℕ × ℤ) (ts : Terms) → AscendsWithin low high (t ∷ ts) → k < length (t ∷ ts) → x ≡ get_or (t ∷ ts) k x → t.0 ≤ x.0
first_least low high zero t x ts a l e = let h : x.0 ≡ t.0 = ap (λ y. y.0) e in omega arith
first_least low high (suc k) t x [] a l e = absurd (omega arith)
first_least low high (suc k) t x (s ∷ ts) a l e = let h = first_least (t.0 + 1) high k s x ts a.1.1 (omega arith) e in let m = a.1.1.0 in omega arith

-- what stands at a place, and behind it
pub item_of : (low high k : ℕ) (x : ℕ × ℤ) (ts : Terms) → AscendsWithin low high ts → k < length ts → x ≡ get_or ts k x → (0 < unsigned_abs x.1) × (coefficient x.0 ts ≡ x.1) × (low ≤ x.0) × (x.0 < high)
item_of low high k x [] a l e = absurd (omega arith)
item_of low high zero x (t ∷ ts) a l e = subst (λ y. (0 < unsigned_abs y.1) × (coefficient y.0 (t ∷ ts) ≡ y.1) × (low ≤ y.0) × (y.0 < high)) (sym e) (a.1.0, taken t (coefficient t.0 ts) (below (t.0 + 1) high t.0 ts a.1.1 (omega arith)), a.0, high_of (t.0 + 1) ts a.1.1 (omega arith))
  where
    high_of : (n : ℕ) (us : Terms) → AscendsWithin n high us → t.0 + 1 ≤ n → t.0 < high
    high_of n [] b h = omega (arith, b)
    high_of n (u ∷ us) b h = high_of (u.0 + 1) us b.1.1 (let m = b.0 in omega arith)
item_of low high (suc k) x (t ∷ ts) a l e =
    let h = item_of (t.0 + 1) high k x ts a.1.1 (omega arith) e in
    let m = h.2 in
    let o = a.0 in
    (h.0, skipped t x.0 (coefficient x.0 ts) (λ q. omega arith) ∙ h.1, omega arith, h.3)

pub before_none : (low high k : ℕ) (x : ℕ × ℤ) (ts : Terms) → AscendsWithin low high ts → k < length ts → x ≡ get_or ts k x → coefficient x.0 (take k ts) ≡ pos 0
before_none low high zero x ts a l e = refl
before_none low high (suc k) x [] a l e = refl
before_none low high (suc k) x (t ∷ ts) a l e =
    let h = item_of (t.0 + 1) high k x ts a.1.1 (omega arith) e in
    let m = h.2 in
    skipped t x.0 (coefficient x.0 (take k ts)) (λ q. omega arith) ∙ before_none (t.0 + 1) high k x ts a.1.1 (omega arith) e

pub ascends_behind : (low high k : ℕ) (x : ℕ × ℤ) (ts : Terms) → AscendsWithin low high ts → k < length ts → x ≡ get_or ts k x → AscendsWithin (x.0 + 1) high (drop (suc k) ts)
ascends_behind low high k x [] a l e = absurd (omega arith)
ascends_behind low high zero x (t ∷ ts) a l e = subst (λ y. AscendsWithin (y.0 + 1) high ts) (sym e) a.1.1
ascends_behind low high (suc k) x (t ∷ ts) a l e = ascends_behind (t.0 + 1) high k x ts a.1.1 (omega arith) e

pub inserted_coefficient : (m at : ℕ) (x : ℕ × ℤ) (ts : Terms) → coefficient m (take at ts ++ x ∷ drop at ts) ≡ (if nat_eq x.0 m then x.1 else pos 0) +ℤ coefficient m ts
inserted_coefficient m zero x ts = refl
inserted_coefficient m (suc k) x [] = refl
inserted_coefficient m (suc k) x (t ∷ ts) = let h = inserted_coefficient m k x ts in ap (λ z. (if nat_eq t.0 m then t.1 else pos 0) +ℤ z) h ∙ swapped (if nat_eq t.0 m then t.1 else pos 0) (if nat_eq x.0 m then x.1 else pos 0) (coefficient m ts)
  where
    swapped : (a b c : ℤ) → a +ℤ (b +ℤ c) ≡ b +ℤ (a +ℤ c)
    swapped a b c = omega (arith, ints)

-- where what is behind is greater and the last one before is less
pub inserted_ascends : (low high at : ℕ) (x : ℕ × ℤ) (ts : Terms) → AscendsWithin low high ts → at ≤ length ts → low ≤ x.0 → 0 < unsigned_abs x.1 → ((k : ℕ) (t : ℕ × ℤ) → suc k ≡ at → t ≡ get_or ts k t → t.0 < x.0) → AscendsWithin (x.0 + 1) high (drop at ts) → AscendsWithin low high (take at ts ++ x ∷ drop at ts)
inserted_ascends low high zero x ts a l o n f b = (o, (n, b))
inserted_ascends low high (suc k) x [] a l o n f b = absurd (omega arith)
inserted_ascends low high (suc k) x (t ∷ ts) a l o n f b =
    let last = get_or (t ∷ ts) k t in
    let least : t.0 ≤ last.0 = first_least low high k t last ts a (omega arith) (same (t ∷ ts) k t (omega arith)) in
    let less : last.0 < x.0 = f k last refl (same (t ∷ ts) k t (omega arith)) in
    (a.0, (a.1.0, inserted_ascends (t.0 + 1) high k x ts a.1.1 (omega arith) (omega arith) n (λ j u e g. f (suc j) u (ap suc e) g) b))
  where
    same : (us : Terms) (j : ℕ) (d : ℕ × ℤ) → j < length us → get_or us j d ≡ get_or us j (get_or us j d)
    same [] j d h = absurd (omega arith)
    same (u ∷ us) zero d h = refl
    same (u ∷ us) (suc j) d h = same us j d (omega arith)

pub amount_some : (z : ℤ) → (z ≡ pos 0 → ⊥) → 0 < unsigned_abs z
amount_some (pos zero) h = absurd (h refl)
amount_some (pos (suc n)) h = omega arith
amount_some (negsuc n) h = omega arith

item_again : (us : Terms) (j : ℕ) (d : ℕ × ℤ) → j < length us → get_or us j d ≡ get_or us j (get_or us j d)
item_again [] j d h = absurd (omega arith)
item_again (u ∷ us) zero d h = refl
item_again (u ∷ us) (suc j) d h = item_again us j d (omega arith)

abbrev pub nothing : ℕ × ℤ
nothing = (0, pos 0)

-- looked for from the end
pub record IsSearched (terms : Terms) (unknown at : ℕ) : Type 0 where
  pub within : at ≤ length terms
  pub behind : AscendsWithin (unknown + 1) (2 ^ 32) (drop at terms)

pub searched_first : (terms : Terms) (unknown at : ℕ) → unknown < 2 ^ 32 → at ≡ length terms → IsSearched terms unknown at
searched_first terms unknown at h e = record { within = omega arith; behind = subst (λ ts. AscendsWithin (unknown + 1) (2 ^ 32) ts) (sym (drop_all at terms (omega arith))) (omega arith) }

pub searched_step : (terms : Terms) (unknown at : ℕ) → AscendsWithin 0 (2 ^ 32) terms → IsSearched terms unknown at → 0 < at → unknown < (get_or terms (at - 1) nothing).0 → IsSearched terms unknown (at - 1)
searched_step terms unknown at a s h l =
    let k : ℕ = at - 1 in
    let t = get_or terms k nothing in
    let n : suc k ≡ at = omega arith in
    let w = s.within in
    let b : k < length terms = omega arith in
    let g = item_again terms k nothing b in
    let i = item_of 0 (2 ^ 32) k t terms a b g in
    let front : drop k terms ≡ t ∷ drop (suc k) terms = drop-cons terms k t b ∙ (λ j. sym g j ∷ drop (suc k) terms) in
    record { within = omega arith; behind = subst (λ ts. AscendsWithin (unknown + 1) (2 ^ 32) ts) (sym front) (omega arith, (i.0, ascends_behind 0 (2 ^ 32) k t terms a b g)) }

pub searched_here : (terms : Terms) (unknown at : ℕ) → IsSearched terms unknown at → 0 < at → (get_or terms (at - 1) nothing).0 ≤ unknown → IsPlaceIn terms unknown at
searched_here terms unknown at s h l = record {
  within = s.within;
  behind = s.behind;
  before = λ k e. let n : at - 1 ≡ k = omega arith in subst (λ j. (get_or terms j nothing).0 ≤ unknown) n l;
}

pub searched_front : (terms : Terms) (unknown at : ℕ) → IsSearched terms unknown at → at ≡ 0 → IsPlaceIn terms unknown 0
searched_front terms unknown at s e = record { within = omega arith; behind = subst (λ j. AscendsWithin (unknown + 1) (2 ^ 32) (drop j terms)) e s.behind; before = λ k q. absurd (omega arith) }

pub placed_ascends : (terms new : Terms) (unknown at : ℕ) (z : ℤ) → AscendsWithin 0 (2 ^ 32) terms → IsPlaceIn terms unknown at → coefficient unknown terms ≡ pos 0 → (z ≡ pos 0 → ⊥) → new ≡ take at terms ++ (unknown, z) ∷ drop at terms → AscendsWithin 0 (2 ^ 32) new
placed_ascends terms new unknown at z a s c n e = subst (AscendsWithin 0 (2 ^ 32)) (sym e) (inserted_ascends 0 (2 ^ 32) at (unknown, z) terms a s.within (omega arith) (amount_some z n) (λ k t g h.
    let w = s.within in
    let in_range : k < length terms = omega arith in
    let i = item_of 0 (2 ^ 32) k t terms a in_range h in
    let l : (get_or terms k nothing).0 ≤ unknown = s.before k g in
    let same : get_or terms k nothing ≡ t = other_default terms k nothing t in_range ∙ sym h in
    less t.0 unknown (subst (λ x. x.0 ≤ unknown) same l) (λ q. none t.1 (sym i.1 ∙ ap (λ u. coefficient u terms) q ∙ c) i.0)) s.behind)
  where
    less : (m k : ℕ) → m ≤ k → (m ≡ k → ⊥) → m < k
    less m k l h = elim (cases_lt m k) [ inl j ↦ j | inr j ↦ absurd (h (omega arith)) ]

    none : (y : ℤ) → y ≡ pos 0 → 0 < unsigned_abs y → ⊥
    none y q p = let r : 0 < unsigned_abs (pos 0) = subst (λ x. 0 < unsigned_abs x) q p in omega arith

    other_default : (us : Terms) (j : ℕ) (d e : ℕ × ℤ) → j < length us → get_or us j d ≡ get_or us j e
    other_default [] j d e h = absurd (omega arith)
    other_default (u ∷ us) zero d e h = refl
    other_default (u ∷ us) (suc j) d e h = other_default us j d e (omega arith)

pub placed_coefficient : (terms new : Terms) (unknown at : ℕ) (z : ℤ) → new ≡ take at terms ++ (unknown, z) ∷ drop at terms → (n : ℕ) → coefficient n new ≡ (if nat_eq unknown n then z else pos 0) +ℤ coefficient n terms
placed_coefficient terms new unknown at z e n = ap (coefficient n) e ∙ inserted_coefficient n at (unknown, z) terms

-- a coefficient of a form isn't 0
pub entry_nonzero : (xs ys : Terms) (i : ℕ) (y : ℤ) → xs ≡ ys → AscendsWithin 0 (2 ^ 32) ys → i < length ys → y ≡ (get_or xs i nothing).1 → y ≡ pos 0 → ⊥
entry_nonzero xs ys i y e a l f z =
    let item = item_of 0 (2 ^ 32) i (get_or ys i nothing) ys a l (item_again ys i nothing l) in
    let k : 0 < unsigned_abs (pos 0) = subst (λ x. 0 < unsigned_abs x) (sym (f ∙ ap (λ us. (get_or us i nothing).1) e) ∙ z) item.0 in
    omega arith

-- one more term of the sum at a number
sum_push : (ns : List (List ℤ × ℕ)) (us : List (List ℤ)) (n : ℕ) (xs : Terms) (t : ℕ × ℤ) → sum_at ns us n (xs ++ t ∷ []) ≡ at_number n (number_of ns us t) t.1 +ℤ sum_at ns us n xs
sum_push ns us n [] t = refl
sum_push ns us n (x ∷ xs) t = ap (λ z. at_number n (number_of ns us x) x.1 +ℤ z) (sum_push ns us n xs t) ∙ swapped (at_number n (number_of ns us x) x.1) (at_number n (number_of ns us t) t.1) (sum_at ns us n xs)
  where
    swapped : (a b c : ℤ) → a +ℤ (b +ℤ c) ≡ b +ℤ (a +ℤ c)
    swapped a b c = omega (arith, ints)

pub sum_step : (ns : List (List ℤ × ℕ)) (us : List (List ℤ)) (n : ℕ) (xs ys : Terms) (i k : ℕ) (y p q : ℤ) → xs ≡ ys → i < length ys → y ≡ (get_or xs i nothing).1 → number_at (get_or us (get_or xs i nothing).0 []) ns ≡ Some k → p ≡ (if nat_eq k n then y else pos 0) +ℤ q → q ≡ sum_at ns us n (take i ys) → p ≡ sum_at ns us n (take (i + 1) ys)
sum_step ns us n xs ys i k y p q e l f g h r =
    let t = get_or ys i nothing in
    let more : take (i + 1) ys ≡ take i ys ++ t ∷ [] = take_more ys i nothing l in
    let value : y ≡ t.1 = f ∙ ap (λ zs. (get_or zs i nothing).1) e in
    let number : number_of ns us t ≡ Some k = ap (λ zs. number_at (get_or us (get_or zs i nothing).0 []) ns) (sym e) ∙ g in
    h ∙ (λ j. (if nat_eq k n then value j else pos 0) +ℤ r j) ∙ ap (λ o. at_number n o t.1 +ℤ sum_at ns us n (take i ys)) (sym number) ∙ sym (sum_push ns us n (take i ys) t) ∙ ap (sum_at ns us n) (sym more)
