-- Places that lead to others: a shorter way leads to the same, two that are made one lead to the lesser.
use Rattle.std.proofs.Common.{◌≡◌, refl, sym, ap, ◌∙◌, subst, ℕ, zero, suc, ◌+◌, ◌<◌, ◌≤◌, ◌≢◌, inl, inr, min, max, List, [], ◌∷◌, ◌++◌, length, get_or, take, arith, get_or-set_other, get_or-set_same}
use Rattle.std.specs.Prelude.{slice_set}
use Rattle.std.specs.List.{range_with_len}
use Rattle.std.proofs.lemmas.Bool.{cases_eq}
use Rattle.std.proofs.lemmas.List.{length-set, get_or-map}
use Rattle.std.proofs.Math.Seq.{take-suc}
use Rattle.std.proofs.lemmas.List.FromFn.{length-range_with_len, get_or-range_with_len}
use Rattle.straight_line.proofs.Identified.{low_or_high, made_length, step, step_high, step_low, step_other}
use Rattle.flat_cubes.specs.Flattening.{made_one, identified}
use Rattle.straight_line.specs.Leading.{ArePairsBelow, IsForest, LeadsTo}

-- a way on which each place was replaced by a nearer one
pub record IsLed (old above : List ℕ) (place at : ℕ) : Type 0 where
  pub forest : IsForest above
  pub within : at < length above
  pub count : length above ≡ length old
  pub same : (firsts : List ℕ) → LeadsTo firsts old → LeadsTo firsts above
  pub first : (firsts : List ℕ) → LeadsTo firsts old → get_or firsts at 0 ≡ get_or firsts place 0

-- the places before i lead to their least places by one step
pub record IsSettled (old above : List ℕ) (i : ℕ) : Type 0 where
  pub forest : IsForest above
  pub count : length above ≡ length old
  pub done : (firsts : List ℕ) → LeadsTo firsts old → (k : ℕ) → k < i → get_or above k 0 ≡ get_or firsts k 0
  pub rest : (k : ℕ) → i ≤ k → get_or above k 0 ≡ get_or old k 0

-- the first k pairs are one
pub record IsJoined (old : List ℕ) (es : List (ℕ × ℕ)) (k : ℕ) (above : List ℕ) : Type 0 where
  pub forest : IsForest above
  pub count : length above ≡ length old
  pub leads : (firsts : List ℕ) → LeadsTo firsts old → LeadsTo (identified (take k es) firsts) above

-- what is written at a place isn't greater
pub forest_set : (above : List ℕ) (at next : ℕ) → IsForest above → next ≤ at → IsForest (slice_set above at next)
forest_set above at next f h i l =
    let m : i < length above = subst (λ n. i < n) (length-set above at next) l in
    elim (cases_eq i at) [
      | inl e ↦ let q : at < length above = omega arith in subst (λ j. get_or (slice_set above at next) j 0 ≤ j) (sym e) (rw get_or-set_same h)
      | inr n ↦ rw get_or-set_other (f i m)
    ]

pub leads_shorter : (firsts above : List ℕ) (at next : ℕ) → at < length above → next ≤ at → get_or firsts next 0 ≡ get_or firsts at 0 → (next ≡ at → get_or firsts at 0 ≡ at) → LeadsTo firsts above → LeadsTo firsts (slice_set above at next)
leads_shorter firsts above at next h l e o f = record {
  count = f.count ∙ sym (length-set above at next);
  same = λ i q.
      let m : i < length above = subst (λ n. i < n) (length-set above at next) q in
      elim (cases_eq i at) [
        | inl d ↦ subst (λ j. get_or firsts (get_or (slice_set above at next) j 0) 0 ≡ get_or firsts j 0) (sym d) (rw get_or-set_same e)
        | inr n ↦ rw get_or-set_other (f.same i m)
      ];
  own = λ i q.
      let m : i < length above = subst (λ n. i < n) (length-set above at next) q in
      elim (cases_eq i at) [
        | inl d ↦ subst (λ j. get_or (slice_set above at next) j 0 ≡ j → get_or firsts j 0 ≡ j) (sym d) (λ t. o (sym (get_or-set_same above at next 0 h) ∙ t))
        | inr n ↦ λ t. f.own i m (sym (get_or-set_other above at i next 0 n) ∙ t)
      ];
}

-- two steps at once
pub led_on : (old above : List ℕ) (place at : ℕ) → IsLed old above place at → get_or above at 0 ≢ at → IsLed old (slice_set above at (get_or above (get_or above at 0) 0)) place (get_or above (get_or above at 0) 0)
led_on old above place at h n =
    let a = h.forest at h.within in
    let l = h.within in
    let m : get_or above at 0 < length above = omega arith in
    let b = h.forest (get_or above at 0) m in
    record {
      forest = forest_set above at (get_or above (get_or above at 0) 0) h.forest (omega arith);
      within = subst (λ k. get_or above (get_or above at 0) 0 < k) (sym (length-set above at (get_or above (get_or above at 0) 0))) (omega arith);
      count = length-set above at (get_or above (get_or above at 0) 0) ∙ h.count;
      same = λ firsts f.
          let g = h.same firsts f in
          leads_shorter firsts above at (get_or above (get_or above at 0) 0) h.within (omega arith) (g.same (get_or above at 0) m ∙ g.same at h.within) (λ e. absurd (omega arith)) g;
      first = λ firsts f.
          let g = h.same firsts f in
          g.same (get_or above at 0) m ∙ g.same at h.within ∙ h.first firsts f;
    }

range_end : (a n b : ℕ) → a + n ≡ b → range_with_len a (suc n) ≡ range_with_len a n ++ b ∷ []
range_end a zero b e = ap (λ k. k ∷ []) (let q : a ≡ b = omega arith in q)
range_end a (suc n) b e = ap (λ l. a ∷ l) (range_end (a + 1) n b (omega arith))

pub range_more : (n : ℕ) → range_with_len 0 (n + 1) ≡ range_with_len 0 n ++ n ∷ []
range_more n = let e : n + 1 ≡ suc n = omega arith in ap (range_with_len 0) e ∙ range_end 0 n n (omega arith)

-- of two that stand for themselves both the greater and the lesser do
module _ (firsts : List ℕ) (a b : ℕ) (p : get_or firsts a 0 ≡ a) (q : get_or firsts b 0 ≡ b) where
  high : get_or firsts (max a b) 0 ≡ max a b
  high = elim (low_or_high a b) [
    | inl o ↦ subst (λ z. get_or firsts z 0 ≡ z) o.1 q
    | inr o ↦ subst (λ z. get_or firsts z 0 ≡ z) o.0 p
  ]

  low : get_or firsts (min a b) 0 ≡ min a b
  low = elim (low_or_high a b) [
    | inl o ↦ subst (λ z. get_or firsts z 0 ≡ z) o.0 p
    | inr o ↦ subst (λ z. get_or firsts z 0 ≡ z) o.1 q
  ]

  module _ (above : List ℕ) (l : a < length above) (m : b < length above) (forest : IsForest above) (f : LeadsTo firsts above) where
    abbrev made : List ℕ
    made = made_one a b firsts

    abbrev new : List ℕ
    new = slice_set above (max a b) (min a b)

    changed : (i : ℕ) → i < length above → get_or made i 0 ≡ step a b (get_or firsts i 0)
    changed i h = get_or-map (step a b) firsts i 0 0 (subst (λ n. i < n) (sym f.count) h)

    made_low : get_or made (min a b) 0 ≡ min a b
    made_low = changed (min a b) (omega arith) ∙ step_low a b (get_or firsts (min a b) 0) low

    made_high : get_or made (max a b) 0 ≡ min a b
    made_high = changed (max a b) (omega arith) ∙ step_high a b (get_or firsts (max a b) 0) high

    new_high : get_or new (max a b) 0 ≡ min a b
    new_high = let w : max a b < length above = omega arith in get_or-set_same above (max a b) (min a b) 0 w

    within : (i : ℕ) → i < length new → i < length above
    within i h = subst (λ n. i < n) (length-set above (max a b) (min a b)) h

    same_one : (i : ℕ) → i < length new → get_or made (get_or new i 0) 0 ≡ get_or made i 0
    same_one i h = elim (cases_eq i (max a b)) [
      | inl e ↦ subst (λ j. get_or made (get_or new j 0) 0 ≡ get_or made j 0) (sym e) (ap (λ k. get_or made k 0) new_high ∙ made_low ∙ sym made_high)
      | inr e ↦
          ap (λ k. get_or made k 0) (get_or-set_other above (max a b) i (min a b) 0 e)
          ∙ changed (get_or above i 0) (let w = within i h in let u = forest i w in omega arith) ∙ ap (step a b) (f.same i (within i h)) ∙ sym (changed i (within i h))
    ]

    own_one : (i : ℕ) → i < length new → get_or new i 0 ≡ i → get_or made i 0 ≡ i
    own_one i h t = elim (cases_eq i (max a b)) [
      | inl e ↦ ap (λ k. get_or made k 0) e ∙ made_high ∙ sym new_high ∙ ap (λ k. get_or new k 0) (sym e) ∙ t
      | inr e ↦
          let o = f.own i (within i h) (sym (get_or-set_other above (max a b) i (min a b) 0 e) ∙ t) in
          changed i (within i h) ∙ ap (step a b) o ∙ step_other a b i e
    ]

    pub two_lead : LeadsTo (made_one a b firsts) (slice_set above (max a b) (min a b))
    two_lead = record { count = made_length a b firsts ∙ f.count ∙ sym (length-set above (max a b) (min a b)); same = same_one; own = own_one }

-- the same by other names of the numbers
pub two_made : (firsts above : List ℕ) (a b p q x y : ℕ) → a ≡ p → b ≡ q → x ≡ max a b → y ≡ min a b → LeadsTo (made_one a b firsts) (slice_set above (max a b) (min a b)) → LeadsTo (made_one p q firsts) (slice_set above x y)
two_made firsts above a b p q x y e f g h l =
    subst (λ z. LeadsTo (made_one p q firsts) (slice_set above x z)) (sym h)
    (subst (λ z. LeadsTo (made_one p q firsts) (slice_set above z (min a b))) (sym g)
    (subst (λ z. LeadsTo (made_one p z firsts) (slice_set above (max a b) (min a b))) f
    (subst (λ z. LeadsTo (made_one z b firsts) (slice_set above (max a b) (min a b))) e l)))

identified_end : (es : List (ℕ × ℕ)) (e : ℕ × ℕ) (firsts : List ℕ) → identified (es ++ e ∷ []) firsts ≡ made_one (get_or (identified es firsts) e.0 e.0) (get_or (identified es firsts) e.1 e.1) (identified es firsts)
identified_end [] e firsts = refl
identified_end (d ∷ es) e firsts = identified_end es e (made_one (get_or firsts d.0 d.0) (get_or firsts d.1 d.1) firsts)

pub identified_more : (es : List (ℕ × ℕ)) (k : ℕ) (e d : ℕ × ℕ) (firsts : List ℕ) → k < length es → get_or es k d ≡ e → identified (take (k + 1) es) firsts ≡ made_one (get_or (identified (take k es) firsts) e.0 e.0) (get_or (identified (take k es) firsts) e.1 e.1) (identified (take k es) firsts)
identified_more es k e d firsts h q =
    let n : k + 1 ≡ suc k = omega arith in
    ap (λ m. identified (take m es) firsts) n ∙ ap (λ l. identified l firsts) (take-suc es k d h ∙ ap (λ z. take k es ++ z ∷ []) q) ∙ identified_end (take k es) e firsts

pub starts_own : (n : ℕ) → LeadsTo (range_with_len 0 n) (range_with_len 0 n)
starts_own n =
    let at : (i : ℕ) → i < length (range_with_len 0 n) → get_or (range_with_len 0 n) i 0 ≡ i = λ i h. let l : i < n = subst (λ m. i < m) (length-range_with_len 0 n) h in get_or-range_with_len 0 n i 0 l ∙ (omega arith) in
    record { count = refl; same = λ i h. ap (λ k. get_or (range_with_len 0 n) k 0) (at i h); own = λ i h e. e }

pub starts_forest : (n : ℕ) → IsForest (range_with_len 0 n)
starts_forest n i h =
    let l : i < n = subst (λ m. i < m) (length-range_with_len 0 n) h in
    let e = get_or-range_with_len 0 n i 0 l in
    omega arith

pub pairs_below : (n : ℕ) (xs : List ℕ) (es : List (ℕ × ℕ)) → xs ≡ range_with_len 0 n → ArePairsBelow n es → ArePairsBelow (length xs) es
pairs_below n xs es e h = subst (λ m. ArePairsBelow m es) (sym (ap length e ∙ length-range_with_len 0 n)) h
