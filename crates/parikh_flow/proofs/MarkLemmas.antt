-- Lists that grow in order, marks, and the one count that is used.
use Rattle.std.proofs.Common.{◌≡◌, ℕ, zero, suc, ◌+◌, ◌<◌, ◌≤◌, ◌⊎◌, ◌↔◌, inl, inr, Bool, true, false, cond, nat_eq, List, [], ◌∷◌, ◌++◌, length, length-append, take, drop, Contains, slice_get, get_or, slice_index, slice_set, Some, refl, ap, sym, ◌∙◌, subst, arith, length-set}
use Rattle.std.proofs.lemmas.List.{take_all, take_more}
use Rattle.std.proofs.lemmas.Option.{slice_get-get_or}
use Rattle.std.proofs.lemmas.Bool.Decides.{nat_tests}
use Rattle.std.specs.List.Sorted.{IsStrictlyIncreasing}
use Rattle.machine_core.specs.declared.edge.Edge.{Edge}
use Rattle.machine_core.specs.declared.graph.Graph.{Graph}
use Rattle.sv_list.specs.Lists.{slice_get-push_cases, slice_get-append, slice_get-end, slice_get-contains, slice_get-set_same, marked-kept}
use Rattle.parikh_flow.specs.Counts.{total_count}
use Rattle.parikh_flow.specs.Balance.{one_at}
use Rattle.parikh_flow.specs.Tours.{IsMet}
use Rattle.parikh_flow.proofs.FlowLemmas.{by_less}
use Rattle.parikh_flow.proofs.BalanceLemmas.{by_same}

-- the used count
total-zero : (f : List ℕ) (k : ℕ) → total_count f ≡ 0 → slice_index f k ≡ 0
total-zero [] zero h = refl
total-zero [] (suc k) h = refl
total-zero (n ∷ f) zero h = omega arith
total-zero (n ∷ f) (suc k) h = total-zero f k (omega arith)

pub used-after : (f : List ℕ) (i k : ℕ) → total_count (drop i f) ≡ 1 → 0 < slice_index f i → i < k → slice_index f k ≡ 0
used-after [] zero k h z lt = absurd (omega arith)
used-after [] (suc i) k h z lt = absurd (omega arith)
used-after (n ∷ f) zero zero h z lt = absurd (omega arith)
used-after (n ∷ f) zero (suc k) h z lt = total-zero f k (omega arith)
used-after (n ∷ f) (suc i) zero h z lt = absurd (omega arith)
used-after (n ∷ f) (suc i) (suc k) h z lt = used-after f i k h z (omega arith)

used-one : (f : List ℕ) (i : ℕ) → total_count (drop i f) ≡ 1 → 0 < slice_index f i → slice_index f i ≡ 1
used-one [] zero h z = absurd (omega arith)
used-one [] (suc i) h z = absurd (omega arith)
used-one (n ∷ f) zero h z = omega arith
used-one (n ∷ f) (suc i) h z = used-one f i h z

pub used-found : (f : List ℕ) (i k : ℕ) → ((j : ℕ) → j < i → slice_index f j ≡ 0) → total_count (drop i f) ≡ 1 → 0 < slice_index f i → slice_index f k ≡ one_at k i
used-found f i k before rest z = by_head (nat_eq i k) refl
  where
    by_head : (b : Bool) → nat_eq i k ≡ b → slice_index f k ≡ cond (nat_eq i k) 1 0
    by_head true e = let same : i ≡ k = grind (arith, nat_tests) in rw e (subst (λ n. slice_index f n ≡ 1) same (used-one f i rest z))
    by_head false e = rw e (by_less k i (λ lt. before k lt) (λ le. used-after f i k rest z (let ne : i ≡ k → ⊥ = λ s. (let t : nat_eq i k ≡ true = grind (arith, nat_tests) in cc) in by_same i k (λ s. absurd (ne s)) (λ n. omega arith))))

-- a list that grows by a number above all of its own
module _ (set new : List ℕ) (n : ℕ) (push : new ≡ set ++ n ∷ []) where
  index-old : (xs : List ℕ) (k : ℕ) → k < length xs → slice_index (xs ++ n ∷ []) k ≡ slice_index xs k
  index-old [] k h = absurd (omega arith)
  index-old (x ∷ xs) zero h = refl
  index-old (x ∷ xs) (suc k) h = index-old xs k (omega arith)

  index-new : (xs : List ℕ) → slice_index (xs ++ n ∷ []) (length xs) ≡ n
  index-new [] = refl
  index-new (x ∷ xs) = index-new xs

  contains-index : (xs : List ℕ) (k : ℕ) → k < length xs → Contains xs (slice_index xs k)
  contains-index xs k lt = slice_get-contains xs k (slice_index xs k) (slice_get-get_or xs k 0 lt)

  pub rising-push : IsStrictlyIncreasing set → ((s : ℕ) → Contains set s → s < n) → IsStrictlyIncreasing new
  rising-push r below k lt = rw push (go (let size = ap length push in let more : length (set ++ n ∷ []) ≡ length set + 1 = length-append set (n ∷ []) in omega arith))
    where
      go : k < length set → slice_index (set ++ n ∷ []) k < slice_index (set ++ n ∷ []) (k + 1)
      go inside = by_less (k + 1) (length set)
          (λ in2. let a = index-old set k inside in let b = index-old set (k + 1) in2 in let h = r k in2 in omega arith)
          (λ le. let a = index-old set k inside in let e : k + 1 ≡ length set = omega arith in let b = ap (slice_index (set ++ n ∷ [])) e ∙ index-new set in
          let c = below (slice_index set k) (contains-index set k inside) in omega arith)

contains-push : (xs : List ℕ) (n s : ℕ) → Contains (xs ++ n ∷ []) s → Contains xs s ⊎ (s ≡ n)
contains-push [] n s (zero, lt, e) = inr (sym e)
contains-push [] n s (suc k, lt, e) = absurd (omega arith)
contains-push (x ∷ xs) n s (zero, lt, e) = inl (zero, omega arith, e)
contains-push (x ∷ xs) n s (suc k, lt, e) = elim (contains-push xs n s (k, omega arith, e)) [
  | inl h ↦ inl (suc h.0, (let b = h.1 in omega arith), h.2)
  | inr h ↦ inr h
]

contains-left : (xs ys : List ℕ) (s : ℕ) → Contains xs s → Contains (xs ++ ys) s
contains-left [] ys s (k, lt, e) = absurd (omega arith)
contains-left (x ∷ xs) ys s (zero, lt, e) = (zero, omega arith, e)
contains-left (x ∷ xs) ys s (suc k, lt, e) = let r = contains-left xs ys s (k, omega arith, e) in (suc r.0, (let b = r.1 in omega arith), r.2)

contains-last : (xs : List ℕ) (n : ℕ) → Contains (xs ++ n ∷ []) n
contains-last [] n = (zero, omega arith, refl)
contains-last (x ∷ xs) n = let r = contains-last xs n in (suc r.0, (let b = r.1 in omega arith), r.2)

abbrev pub Members : List Bool → List ℕ → ℕ → Type 0
Members marks set at = (s : ℕ) → Contains set s ↔ ((s < at) × (slice_get marks s ≡ Some true → ⊥))

-- one place more, marked or not
pub members-marked : (marks : List Bool) (set : List ℕ) (at : ℕ) → slice_get marks at ≡ Some true → Members marks set at → Members marks set (at + 1)
members-marked marks set at mark m s = (
  (λ k. let h = (m s).0 k in ((let a = h.0 in omega arith), h.1)),
  (λ h. (m s).1 (by_same s at (λ e. absurd (h.1 (subst (λ n. slice_get marks n ≡ Some true) (sym e) mark))) (λ ne. (let a = h.0 in omega arith)), h.1)),
)

pub members-unmarked : (marks : List Bool) (set new : List ℕ) (at : ℕ) → slice_get marks at ≡ Some false → new ≡ set ++ at ∷ [] → Members marks set at → Members marks new (at + 1)
members-unmarked marks set new at mark push m s = rw push (
  (λ k. elim (contains-push set at s k) [
    | inl h ↦ (let r = (m s).0 h in ((let a = r.0 in omega arith), r.1))
    | inr h ↦ (omega arith, λ t. (let u = subst (λ n. slice_get marks n ≡ Some true) h t in cc))
  ]),
  (λ h. by_same s at (λ e. subst (Contains (set ++ at ∷ [])) (sym e) (contains-last set at)) (λ ne. contains-left set (at ∷ []) s ((m s).1 ((let a = h.0 in omega arith), h.1)))),
)

-- marks of the states that are met
abbrev pub Marked : List Edge → ℕ → List ℕ → List Bool → Type 0
Marked edges states back met = (s : ℕ) → s < states → (slice_get met s ≡ Some true) ↔ IsMet edges back s

get-set : (xs : List Bool) (i k : ℕ) (b : Bool) → slice_get (slice_set xs i true) k ≡ Some b → (slice_get xs k ≡ Some b) ⊎ ((k ≡ i) × (b ≡ true))
get-set [] i k b e = cc
get-set (x ∷ xs) zero zero b e = inr (refl, cc)
get-set (x ∷ xs) zero (suc k) b e = inl e
get-set (x ∷ xs) (suc i) zero b e = inl e
get-set (x ∷ xs) (suc i) (suc k) b e = elim (get-set xs i k b e) [ inl h ↦ inl h | inr h ↦ inr (ap suc h.0, h.1) ]

pub marked-push : (edges : List Edge) (states : ℕ) (back : List ℕ) (met new : List Bool) (p : ℕ) (e : Edge) → slice_get edges p ≡ Some e → length met ≡ states → e.to < states
    → new ≡ slice_set met e.to true → Marked edges states back met → (length new ≡ states) × Marked edges states (back ++ p ∷ []) new
marked-push edges states back met new p e is size inside push m = rw push (
  length-set met e.to true ∙ size,
  λ s lt. (
    (λ t. elim (get-set met e.to s true t) [
      | inl h ↦ met-more s ((m s lt).0 h)
      | inr h ↦ inr (length back, p, e, slice_get-end back p, is, sym h.0)
    ]),
    (λ t. elim t [
      | inl z ↦ marked-kept met e.to s ((m s lt).1 (inl z))
      | inr (i, q, d, a, b, c) ↦ elim (slice_get-push_cases back p i q a) [
        | inl old ↦ marked-kept met e.to s ((m s lt).1 (inr (i, q, d, old, b, c)))
        | inr now ↦ (let pq : p ≡ q = now.1 in let same : e ≡ d = cc in
            subst (λ n. slice_get (slice_set met e.to true) n ≡ Some true) (subst (λ (x : Edge). x.to ≡ s) (sym same) c) (slice_get-set_same met e.to true (omega arith)))
      ]
    ]),
  ),
)
  where
    met-more : (s : ℕ) → IsMet edges back s → IsMet edges (back ++ p ∷ []) s
    met-more s (inl z) = inl z
    met-more s (inr (i, q, d, a, b, c)) = inr (i, q, d, slice_get-append back (p ∷ []) i q a, b, c)

-- the edge at a place of the list
pub mark-edge : (m : Graph) (back : List ℕ) (all : List Edge) (i : ℕ) (d : Edge) → all ≡ m.edges → i < length back → ((i p : ℕ) → slice_get back i ≡ Some p → p < length m.edges)
    → slice_get m.edges (get_or back i 0) ≡ Some (get_or all (get_or back i 0) d)
mark-edge m back all i d e lt places = rw e (slice_get-get_or m.edges (get_or back i 0) d (places i (get_or back i 0) (slice_get-get_or back i 0 lt)))

pub mark-to : (m : Graph) (back : List ℕ) (all : List Edge) (i : ℕ) (d : Edge) → all ≡ m.edges → i < length back → ((i p : ℕ) → slice_get back i ≡ Some p → p < length m.edges)
    → (get_or all (get_or back i 0) d).to < m.states
mark-to m back all i d e lt places =
    let is = mark-edge m back all i d e lt places in
    (m.formed.edge (get_or all (get_or back i 0) d) (slice_get-contains m.edges (get_or back i 0) (get_or all (get_or back i 0) d) is)).to

pub mark-step : (m : Graph) (back : List ℕ) (all : List Edge) (i : ℕ) (d : Edge) (met new : List Bool) → all ≡ m.edges → i < length back → ((i p : ℕ) → slice_get back i ≡ Some p → p < length m.edges)
    → length met ≡ m.states → new ≡ slice_set met (get_or all (get_or back i 0) d).to true → Marked m.edges m.states (take i back) met
    → (length new ≡ m.states) × Marked m.edges m.states (take (i + 1) back) new
mark-step m back all i d met new e lt places size push marked =
    let more : take (i + 1) back ≡ take i back ++ get_or back i 0 ∷ [] = take_more back i 0 lt in
    rw more (marked-push m.edges m.states (take i back) met new (get_or back i 0) (get_or all (get_or back i 0) d) (mark-edge m back all i d e lt places) size (mark-to m back all i d e lt places) push marked)

pub mark-end : (m : Graph) (back : List ℕ) (i : ℕ) (met : List Bool) → length back ≤ i → Marked m.edges m.states (take i back) met → Marked m.edges m.states back met
mark-end m back i met le h = subst (λ l. Marked m.edges m.states l met) (take_all i back le) h

-- the states that aren't marked are those that aren't met
pub unmet-members : (m : Graph) (back : List ℕ) (met : List Bool) (set : List ℕ) → Marked m.edges m.states back met
    → ((s : ℕ) → Contains set s ↔ ((s < m.states) × (slice_get met s ≡ Some true → ⊥))) → (s : ℕ) → Contains set s ↔ ((s < m.states) × (IsMet m.edges back s → ⊥))
unmet-members m back met set marked members s = (
  (λ k. let h = (members s).0 k in (h.0, λ x. h.1 ((marked s h.0).1 x))),
  (λ h. (members s).1 (h.0, λ x. h.1 ((marked s h.0).0 x))),
)

pub above-zero : (n : ℕ) → (n ≡ 0 → ⊥) → 0 < n
above-zero zero h = absurd (h refl)
above-zero (suc n) h = omega arith

-- a list of places that reads a mark
pub mark-read : (marks : List Bool) (at : ℕ) (d b : Bool) → at < length marks → get_or marks at d ≡ b → slice_get marks at ≡ Some b
mark-read marks at d b lt e = slice_get-get_or marks at d lt ∙ ap Some e
