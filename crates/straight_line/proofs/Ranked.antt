-- Places with the numbers of their variables.
use Rattle.std.proofs.Common.{◌≡◌, refl, sym, ap, ◌∙◌, subst, ℕ, zero, suc, ◌+◌, ◌<◌, ◌≤◌, inl, inr, Bool, true, false, List, [], ◌∷◌, ◌++◌, map, length, get_or, cond, arith, length-append, lt-ltb, le-ltb}
use Rattle.std.specs.Prelude.{filter, nat_eq}
use Rattle.std.specs.List.{range_with_len}
use Rattle.std.proofs.Math.Seq.{get_or-append_seam}
use Rattle.std.proofs.lemmas.Bool.{cases_lt, eq-eqb, eqb-true}
use Rattle.std.proofs.lemmas.List.{get_or_append_left, get_or_default}
use Rattle.std.proofs.lemmas.List.FromFn.{fill_by_all}
use Rattle.straight_line.specs.Leading.{IsForest, ordinal, roots_in}
use Rattle.straight_line.proofs.Leads.{range_more}
use Rattle.straight_line.proofs.Ordinals.{below, none_below}

module _ (p : ℕ → Bool) where
  -- so many below m pass
  abbrev pub rank : ℕ → ℕ
  rank m = length (filter p (range_with_len 0 m))

  filter_push : (xs : List ℕ) (x : ℕ) → length (filter p (xs ++ x ∷ [])) ≡ length (filter p xs) + cond (p x) 1 0
  filter_push [] x = by_test (p x)
    where
      by_test : (b : Bool) → length (cond b (x ∷ []) []) ≡ 0 + cond b 1 0
      by_test true = refl
      by_test false = refl
  filter_push (y ∷ xs) x = by_test (p y) (filter_push xs x)
    where
      by_test : (b : Bool) → length (filter p (xs ++ x ∷ [])) ≡ length (filter p xs) + cond (p x) 1 0 → length (cond b (y ∷ filter p (xs ++ x ∷ [])) (filter p (xs ++ x ∷ []))) ≡ length (cond b (y ∷ filter p xs) (filter p xs)) + cond (p x) 1 0
      by_test true h = omega (arith, h)
      by_test false h = h

  pub rank_more : (m : ℕ) → rank (m + 1) ≡ rank m + cond (p m) 1 0
  rank_more m = ap (λ l. length (filter p l)) (range_more m) ∙ filter_push (range_with_len 0 m) m

  below_step : (m a : ℕ) (xs ys : List ℕ) (b : Bool) → a < m → length (below m xs) ≡ length ys → length (below m (cond b (a ∷ xs) xs)) ≡ length (cond b (a ∷ ys) ys)
  below_step m a xs ys false l h = h
  below_step m a xs ys true l h = ap (λ t. length (cond t (a ∷ below m xs) (below m xs))) (lt-ltb a m l) ∙ ap suc h

  below_none : (m a : ℕ) (xs : List ℕ) (b : Bool) → m ≤ a → below m xs ≡ [] → length (below m (cond b (a ∷ xs) xs)) ≡ 0
  below_none m a xs false l h = ap length h
  below_none m a xs true l h = ap (λ t. length (cond t (a ∷ below m xs) (below m xs))) (le-ltb a m l) ∙ ap length h

  pub below_rank : (m a n k : ℕ) → a + k ≡ m → k ≤ n → length (below m (filter p (range_with_len a n))) ≡ length (filter p (range_with_len a k))
  below_rank m a zero zero e l = refl
  below_rank m a zero (suc k) e l = absurd (omega arith)
  below_rank m a (suc n) zero e l = below_none m a (filter p (range_with_len (a + 1) n)) (p a) (omega arith) (none_below p m (a + 1) n (omega arith))
  below_rank m a (suc n) (suc k) e l = below_step m a (filter p (range_with_len (a + 1) n)) (filter p (range_with_len (a + 1) k)) (p a) (omega arith) (below_rank m (a + 1) n k (omega arith) (omega arith))

  pub rank_least : (m : ℕ) → rank m ≤ m
  rank_least zero = omega arith
  rank_least (suc m) = let e : suc m ≡ m + 1 = omega arith in subst (λ k. rank k ≤ k) (sym e) (let r = rank_more m in let h = rank_least m in by_test (p m) r h)
    where
      by_test : (b : Bool) → rank (m + 1) ≡ rank m + cond b 1 0 → rank m ≤ m → rank (m + 1) ≤ m + 1
      by_test true r h = omega arith
      by_test false r h = omega arith

abbrev pub is_root : List ℕ → ℕ → Bool
is_root firsts i = nat_eq (get_or firsts i i) i

-- the first i places have their numbers
pub record IsRanked (firsts : List ℕ) (i : ℕ) (of : List ℕ) (count : ℕ) : Type 0 where
  pub long : length of ≡ i
  pub counted : count ≡ rank (is_root firsts) i
  pub each : (k : ℕ) → k < i → get_or of k 0 ≡ rank (is_root firsts) (get_or firsts k 0)

pub ranked_none : (firsts : List ℕ) → IsRanked firsts 0 [] 0
ranked_none firsts = record { long = refl; counted = refl; each = λ k l. absurd (omega arith) }

module _ (firsts : List ℕ) (i first : ℕ) (of of' : List ℕ) (count count' : ℕ) (l : i < length firsts) (is : first ≡ get_or firsts i 0) (r : IsRanked firsts i of count) where
  root_is : is_root firsts i ≡ nat_eq first i
  root_is = ap (λ z. nat_eq z i) (get_or_default firsts i i 0 l ∙ sym is)

  module _ (x : ℕ) (push : of' ≡ of ++ x ∷ []) (x_is : x ≡ rank (is_root firsts) first) where
    pushed : (k : ℕ) → k < i + 1 → get_or of' k 0 ≡ rank (is_root firsts) (get_or firsts k 0)
    pushed k h = elim (cases_lt k i) [
      | inl m ↦ ap (λ z. get_or z k 0) push ∙ get_or_append_left of (x ∷ []) 0 k (let g = r.long in omega arith) ∙ r.each k m
      | inr m ↦
          let e : k ≡ length of = let g = r.long in omega arith in
          let f : i ≡ k = omega arith in
          ap (λ z. get_or z k 0) push ∙ ap (λ z. get_or (of ++ x ∷ []) z 0) e ∙ get_or-append_seam of x [] 0 ∙ x_is ∙ ap (rank (is_root firsts)) (is ∙ ap (λ z. get_or firsts z 0) f)
    ]

    long' : length of' ≡ i + 1
    long' = ap length push ∙ length-append of (x ∷ []) ∙ (let g = r.long in let h : length (x ∷ []) ≡ 1 = refl in omega arith)

  pub ranked_first : first ≡ i → (of' ≡ of ++ count ∷ []) × (count' ≡ count + 1) → IsRanked firsts (i + 1) of' count'
  ranked_first e h = record {
    long = long' count h.0 (r.counted ∙ ap (rank (is_root firsts)) (sym e));
    counted = h.1 ∙ (let g = r.counted in let m = rank_more (is_root firsts) i ∙ ap (λ b. rank (is_root firsts) i + cond b 1 0) (root_is ∙ eq-eqb first i e) in omega arith);
    each = pushed count h.0 (r.counted ∙ ap (rank (is_root firsts)) (sym e));
  }

  pub ranked_other : first < i → get_or firsts first 0 ≡ first → (of' ≡ of ++ get_or of first 0 ∷ []) × (count' ≡ count) → IsRanked firsts (i + 1) of' count'
  ranked_other e own h = record {
    long = long' (get_or of first 0) h.0 (r.each first e ∙ ap (rank (is_root firsts)) own);
    counted = h.1 ∙ (let g = r.counted in let m = rank_more (is_root firsts) i ∙ ap (λ b. rank (is_root firsts) i + cond b 1 0) (root_is ∙ not_eq first i e) in omega arith);
    each = pushed (get_or of first 0) h.0 (r.each first e ∙ ap (rank (is_root firsts)) own);
  }
    where
      not_eq : (a b : ℕ) → a < b → nat_eq a b ≡ false
      not_eq a b l = by_test (nat_eq a b) refl
        where
          by_test : (t : Bool) → nat_eq a b ≡ t → t ≡ false
          by_test true q = let s = eqb-true a b q in absurd (omega arith)
          by_test false q = refl

pub ranked_all : (firsts of : List ℕ) (count : ℕ) → IsForest firsts → IsRanked firsts (length firsts) of count → of ≡ map (ordinal (length firsts) firsts) (range_with_len 0 (length firsts))
ranked_all firsts of count forest r = fill_by_all (ordinal (length firsts) firsts) of (length firsts) 0 r.long (λ k l.
    let low = forest k l in
    r.each k l ∙ sym (ap (λ z. length (below z (roots_in (length firsts) firsts))) (get_or_default firsts k k 0 l) ∙ below_rank (is_root firsts) (get_or firsts k 0) 0 (length firsts) (get_or firsts k 0) (omega arith) (omega arith)))

pub ranked_small : (firsts : List ℕ) (i : ℕ) (of : List ℕ) (count : ℕ) → IsRanked firsts i of count → count ≤ i
ranked_small firsts i of count r = let e = r.counted in let h = rank_least (is_root firsts) i in omega arith
