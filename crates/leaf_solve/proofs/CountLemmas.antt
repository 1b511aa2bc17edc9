-- Counts that are read off a point, and the runs that they are counts of.
use Rattle.std.proofs.Common.{◌≡◌, ℕ, zero, suc, ◌+◌, ◌<◌, ◌≤◌, ◌^◌, ℤ, pos, List, [], ◌∷◌, ◌++◌, length, take, get_or, slice_index, refl, sym, ap, ◌∙◌, subst, arith}
use Rattle.std.proofs.lemmas.Int.{ints}
use Rattle.std.proofs.lemmas.List.{take_more}
use Rattle.machine_core.specs.declared.graph.Graph.{Graph}
use Rattle.machine_core.specs.declared.run.Run.{Run}
use Rattle.search_hits.specs.Hits.{characters}
use Rattle.parikh_flow.specs.Counts.{total_count, size_of}
use Rattle.parikh_flow.specs.Flows.{IsFlow}
use Rattle.parikh_flow.specs.Rows.{unknowns_after}
use Rattle.parikh_flow.specs.Solutions.{HasFlowAt, HaveFlowsAt}
use Rattle.leaf_solve.specs.Steps.{HasShortFlowAt, HaveShortFlowsAt}

flows-push : (x : ℕ → ℤ) (base : ℕ) (ms : List Graph) (rs : List (Run ℕ)) (m : Graph) (r : Run ℕ) → HaveFlowsAt x base ms rs → HasFlowAt x (unknowns_after base ms) m r
    → HaveFlowsAt x base (ms ++ m ∷ []) (rs ++ r ∷ [])
flows-push x base [] [] m r h f = (f, tt)
flows-push x base [] (q ∷ rs) m r h f = absurd h
flows-push x base (n ∷ ms) [] m r h f = absurd h
flows-push x base (n ∷ ms) (q ∷ rs) m r h f = (h.0, flows-push x (base + size_of n) ms rs m r h.1 f)

-- one machine more
pub flows-more : (x : ℕ → ℤ) (base : ℕ) (ms : List Graph) (rs : List (Run ℕ)) (i : ℕ) (m : Graph) (r : Run ℕ) → i < length ms → m ≡ get_or ms i m → HaveFlowsAt x base (take i ms) rs
    → HasFlowAt x (unknowns_after base (take i ms)) m r → HaveFlowsAt x base (take (i + 1) ms) (rs ++ r ∷ [])
flows-more x base ms rs i m r lt e h f =
    subst (λ (l : List Graph). HaveFlowsAt x base l (rs ++ r ∷ [])) (sym (take_more ms i m lt ∙ ap (λ (z : Graph). take i ms ++ z ∷ []) (sym e))) (flows-push x base (take i ms) rs m r h f)

flow-at : (x : ℕ → ℤ) (base : ℕ) (ms : List Graph) (rs : List (Run ℕ)) → HaveFlowsAt x base ms rs → (i : ℕ) (m : Graph) → i < length ms → m ≡ get_or ms i m
    → (r : Run ℕ) × HasFlowAt x (unknowns_after base (take i ms)) m r × (length r.word ≤ characters rs)
flow-at x base [] rs h i m lt e = absurd (omega arith)
flow-at x base (n ∷ ms) [] h i m lt e = absurd h
flow-at x base (n ∷ ms) (q ∷ rs) h zero m lt e = (q, subst (λ (g : Graph). HasFlowAt x base g q) (sym e) h.0, omega arith)
flow-at x base (n ∷ ms) (q ∷ rs) h (suc i) m lt e = let r = flow-at x (base + size_of n) ms rs h.1 i m (omega arith) e in let few = r.2 in (r.0, r.1, omega arith)

-- a machine of those that have short flows together has one
pub short-flow : (x : ℕ → ℤ) (base next : ℕ) (ms : List Graph) (i : ℕ) (m : Graph) → HaveShortFlowsAt x base ms → i < length ms → m ≡ get_or ms i m → next ≡ unknowns_after base (take i ms) → HasShortFlowAt x next m
short-flow x base next ms i m h lt e same =
    let r = flow-at x base ms h.runs h.flows i m lt e in
    let few = r.2 in
    let all = h.short in
    record { run = r.0; flow = subst (λ b. HasFlowAt x b m r.0) (sym same) r.1; short = omega arith }

index-total : (f : List ℕ) (k : ℕ) → slice_index f k ≤ total_count f
index-total [] zero = omega arith
index-total [] (suc k) = omega arith
index-total (n ∷ f) zero = omega arith
index-total (n ∷ f) (suc k) = let r = index-total f k in omega arith

same-lists : (f g : List ℕ) → length f ≡ length g → ((k : ℕ) → k < length f → slice_index f k ≡ slice_index g k) → f ≡ g
same-lists [] [] size h = refl
same-lists [] (m ∷ g) size h = absurd (omega arith)
same-lists (n ∷ f) [] size h = absurd (omega arith)
same-lists (n ∷ f) (m ∷ g) size h = ap (λ a. a ∷ f) (h zero (omega arith)) ∙ ap (λ l. m ∷ l) (same-lists f g (omega arith) (λ k lt. h (suc k) (omega arith)))

module _ (x : ℕ → ℤ) (base : ℕ) (m : Graph) (total : (run : Run ℕ) (f : List ℕ) → IsFlow m run f → total_count f ≡ suc (length run.word)) (flow : HasShortFlowAt x base m) where
  pub few-counts : total_count flow.flow.0 ≤ 4194304
  few-counts = let t = total flow.run flow.flow.0 flow.flow.2 in let s = flow.short in omega arith

  -- each value is a count
  pub is-count : (size : ℕ) → size ≡ size_of m → (k : ℕ) → k < size → (n : ℕ) × (x (base + k) ≡ pos n) × (n < 2 ^ 64)
  is-count size e k lt =
      let few = few-counts in
      let one = index-total flow.flow.0 k in
      (slice_index flow.flow.0 k, flow.flow.1.values k (omega arith), omega arith)

  -- and the counts that are read are those of the run
  pub same-counts : (size : ℕ) (counts : List ℕ) → size ≡ size_of m → length counts ≡ size → ((k : ℕ) → k < size → x (base + k) ≡ pos (slice_index counts k)) → counts ≡ flow.flow.0
  same-counts size counts e same values =
      let own = flow.flow.1.size in
      same-lists counts flow.flow.0 (omega arith)
      (λ k lt. let a = values k (omega arith) in let b = flow.flow.1.values k (omega arith) in let z : slice_index counts k ≡ slice_index flow.flow.0 k = omega (arith, ints) in z)

-- one count more
pub values-more : (x : ℕ → ℤ) (base k n : ℕ) (counts : List ℕ) → length counts ≡ k → x (base + k) ≡ pos n → ((j : ℕ) → j < k → x (base + j) ≡ pos (slice_index counts j))
    → (j : ℕ) → j < k + 1 → x (base + j) ≡ pos (slice_index (counts ++ n ∷ []) j)
values-more x base k n counts size e h j lt =
    by_less j k (λ low. h j low ∙ ap pos (sym (front counts n j (omega arith))))
    (λ high. let z : j ≡ length counts = omega arith in let w : j ≡ k = omega arith in ap (λ i. x (base + i)) w ∙ e ∙ ap pos (sym (last counts n)) ∙ ap (λ i. pos (slice_index (counts ++ n ∷ []) i)) (sym z))
  where
    by_less : {P : Type 0} (m n : ℕ) → (m < n → P) → (n ≤ m → P) → P
    by_less m zero f g = g (omega arith)
    by_less zero (suc n) f g = f (omega arith)
    by_less (suc m) (suc n) f g = by_less m n (λ lt. f (omega arith)) (λ le. g (omega arith))

    front : (f : List ℕ) (n j : ℕ) → j < length f → slice_index (f ++ n ∷ []) j ≡ slice_index f j
    front [] n j lt = absurd (omega arith)
    front (a ∷ f) n zero lt = refl
    front (a ∷ f) n (suc j) lt = front f n j (omega arith)

    last : (f : List ℕ) (n : ℕ) → slice_index (f ++ n ∷ []) (length f) ≡ n
    last [] n = refl
    last (a ∷ f) n = last f n
