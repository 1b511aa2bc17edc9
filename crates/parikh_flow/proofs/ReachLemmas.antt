-- One step of a search of a net.
use Rattle.std.proofs.Common.{◌≡◌, ℕ, ℤ, pos, zero, suc, ◌+◌, ◌<◌, ◌≤◌, ◌<ℤ◌, ◌⊎◌, ◌↔◌, inl, inr, Bool, true, false, List, [], ◌∷◌, ◌++◌, length, length-append, Contains, All, slice_get, slice_set, get_or, Some, replicate, take, refl, ap, sym, ◌∙◌, subst, arith, length-set}
use Rattle.std.proofs.lemmas.List.{take_all, take_more}
use Rattle.std.proofs.lemmas.Bool.{cases_lt}
use Rattle.std.proofs.lemmas.Option.{slice_get_within, slice_get-get_or, same_Some}
use Rattle.std.specs.List.Sorted.{IsStrictlyIncreasing}
use Rattle.machine_core.specs.Places.{places, add_to, IsIndex}
use Rattle.sv_list.specs.Lists.{slice_get-append, slice_get-push_cases, slice_get-end, slice_get-contains, marked-cases, slice_get-set_same, marked-kept}
use Rattle.farkas_check.specs.Systems.{Reached, reached_start, reached_edge}
use Rattle.farkas_check.specs.Cuts.{IsNetWithin, IsUnreached}
use Rattle.farkas_check.specs.declared.net.Net.{Net}
use Rattle.farkas_check.specs.declared.net.NetEdge.{NetEdge}
use Rattle.parikh_flow.specs.Reaching.{source_of, unmarked_count, Traverses, Visits, IsReaching}
use Rattle.machine_core.specs.PlaceLaws.{index-add, length-add_to, places-in, places-all}

-- what holds of those before a place and of the one there holds of all before the next place
pub one-more : {X : Type 0} (P : X → Type 0) (xs : List X) (i : ℕ) (x : X) → slice_get xs i ≡ Some x → P x → ((p : ℕ) (e : X) → p < i → slice_get xs p ≡ Some e → P e) → (p : ℕ) (e : X) → p < i + 1 → slice_get xs p ≡ Some e → P e
one-more P xs i x at here before p e l h = elim (cases_lt p i) [
  | inl less ↦ before p e less h
  | inr more ↦ let same : i ≡ p = omega arith in subst P (same_Some x e (sym at ∙ ap (slice_get xs) same ∙ h)) here
]

-- what a property of all elements says of the one at a place
pub all-at : {X : Type 0} (P : X → Type 0) (xs : List X) (p : ℕ) (x : X) → All P xs → slice_get xs p ≡ Some x → P x
all-at P xs p x h e =
    let lt = slice_get_within xs p x e in
    let is = slice_get-get_or xs p x lt in
    let same : get_or xs p x ≡ x = cc in
    subst P same (h p x lt)

count-set : (seen : List Bool) (i : ℕ) → slice_get seen i ≡ Some false → suc (unmarked_count (slice_set seen i true)) ≡ unmarked_count seen
count-set [] i e = cc
count-set (false ∷ bs) zero e = refl
count-set (true ∷ bs) zero e = cc
count-set (true ∷ bs) (suc i) e = count-set bs i e
count-set (false ∷ bs) (suc i) e = ap suc (count-set bs i e)

module _ (x : ℕ → ℤ) (net : Net) (found : List ℕ) (seen : List Bool) (at : ℕ) (done : List ℕ) (h : IsReaching x net found seen at done)
    (s : ℕ) (here : slice_get found at ≡ Some s) (p : ℕ) (d : NetEdge) (edge : slice_get net.edges p ≡ Some d) (from : d.from ≡ s) (inside : d.to < net.states) where
  doing-more : (now : List Bool) → ((t : ℕ) → slice_get seen t ≡ Some true → slice_get now t ≡ Some true) → (pos 0 <ℤ x d.unknown → slice_get now d.to ≡ Some true)
      → (i q : ℕ) (e : NetEdge) → slice_get (done ++ p ∷ []) i ≡ Some q → slice_get net.edges q ≡ Some e → pos 0 <ℤ x e.unknown → slice_get now e.to ≡ Some true
  doing-more now kept last i q e g k used = elim (slice_get-push_cases done p i q g) [
    | inl old ↦ kept e.to (h.doing i q e old k used)
    | inr new ↦ (let k' : slice_get net.edges p ≡ Some e = subst (λ n. slice_get net.edges n ≡ Some e) (sym new.1) k in
        let same : d ≡ e = cc in
        subst (λ (y : NetEdge). slice_get now y.to ≡ Some true) same (last (subst (λ (y : NetEdge). pos 0 <ℤ x y.unknown) (sym same) used)))
  ]

  step-same : (pos 0 <ℤ x d.unknown → slice_get seen d.to ≡ Some true) → IsReaching x net found seen at (done ++ p ∷ [])
  step-same last = record {
    start = h.start;
    known = h.known;
    inside = h.inside;
    reached = h.reached;
    closed = h.closed;
    doing = doing-more seen (λ t g. g) last;
    count = h.count;
    size = h.size;
  }

  step-new : (new : List ℕ) (now : List Bool) → pos 0 <ℤ x d.unknown → slice_get seen d.to ≡ Some false → new ≡ found ++ d.to ∷ [] → now ≡ slice_set seen d.to true
      → IsReaching x net new now at (done ++ p ∷ [])
  step-new new now used t a b =
      let keep : (u : ℕ) → slice_get seen u ≡ Some true → slice_get now u ≡ Some true = λ u g. rw b (marked-kept seen d.to u g) in
      let mark : slice_get now d.to ≡ Some true = rw b (slice_get-set_same seen d.to true (slice_get_within seen d.to false t)) in
      let last : slice_get new (length found) ≡ Some d.to = rw a (slice_get-end found d.to) in
      let kept : (i u : ℕ) → slice_get found i ≡ Some u → slice_get new i ≡ Some u = λ i u g. rw a (slice_get-append found (d.to ∷ []) i u g) in
      let split : (i u : ℕ) → slice_get new i ≡ Some u → (slice_get found i ≡ Some u) ⊎ ((i ≡ length found) × (d.to ≡ u)) = λ i u g. slice_get-push_cases found d.to i u (rw a at g) in
      let below : at < length found = slice_get_within found at s here in
      let gone : Reached x net d.to = reached_edge d (slice_get-contains net.edges p d edge) used (subst (Reached x net) (sym from) (h.reached at s here)) in
      record {
        start = keep net.start h.start;
        known = λ u g. elim (marked-cases seen d.to u (rw b at g)) [
          | inl o ↦ (length found, subst (λ n. slice_get new (length found) ≡ Some n) (sym o) last)
          | inr o ↦ (let r = h.known u o in (r.0, kept r.0 u r.1))
        ];
        inside = λ i u g. elim (split i u g) [ inl o ↦ h.inside i u o | inr o ↦ subst (λ n. n < net.states) o.1 inside ];
        reached = λ i u g. elim (split i u g) [ inl o ↦ h.reached i u o | inr o ↦ subst (Reached x net) o.1 gone ];
        closed = λ i u q e lt g k m w. elim (split i u g) [
          | inl o ↦ keep e.to (h.closed i u q e lt o k m w)
          | inr o ↦ (let z = o.0 in absurd (omega arith))
        ];
        doing = doing-more now keep (λ w. mark);
        count = rw (a, b, length-append) (let u = count-set seen d.to t in let v = h.count in omega arith);
        size = rw b (length-set seen d.to true ∙ h.size);
      }

  pub step-traverse : (new : List ℕ) (now : List Bool) → Traverses x d found new seen now → IsReaching x net new now at (done ++ p ∷ [])
  step-traverse new now (inl r) = rw (r.1, r.2) (step-same (λ w. absurd (r.0 w)))
  step-traverse new now (inr (used, inl r)) = rw (r.1, r.2) (step-same (λ w. r.0))
  step-traverse new now (inr (used, inr r)) = step-new new now used r.0 r.1 r.2

  pub step-here : (new : List ℕ) (now : List Bool) → Traverses x d found new seen now → slice_get new at ≡ Some s
  step-here new now (inl r) = rw r.1 here
  step-here new now (inr (used, inl r)) = rw r.1 here
  step-here new now (inr (used, inr r)) = rw r.1 (slice_get-append found (d.to ∷ []) at s here)

-- the edge at a place of the row
pub row-edge : (net : Net) (found row : List ℕ) (at i : ℕ) (v : Visits net found row at) → i < length row
    → (d : NetEdge) × (slice_get net.edges (get_or row i 0) ≡ Some d) × (d.from ≡ v.0)
row-edge net found row at i v lt =
    let r = places-in source_of v.0 0 net.edges i (get_or row i 0) (subst (λ l. slice_get l i ≡ Some (get_or row i 0)) v.2 (slice_get-get_or row i 0 lt)) in
    let same : r.0 ≡ get_or row i 0 = (let b = r.2 in omega arith) in
    (r.1, subst (λ n. slice_get net.edges n ≡ Some r.1) same r.3, r.4)

pub row-below : (net : Net) (found row : List ℕ) (at i : ℕ) → Visits net found row at → i < length row → get_or row i 0 < length net.edges
row-below net found row at i v lt = let r = row-edge net found row at i v lt in slice_get_within net.edges (get_or row i 0) r.0 r.1

pub edge-within : (n : ℕ) (net : Net) (p : ℕ) (d : NetEdge) → IsNetWithin n net → slice_get net.edges p ≡ Some d → (d.unknown < n) × (d.from < net.states) × (d.to < net.states)
edge-within n net p d w e = let a = all-at (λ (e : NetEdge). e.unknown < n) net.edges p d w.unknowns e in
    let b = all-at (λ (e : NetEdge). (e.from < net.states) × (e.to < net.states)) net.edges p d w.states e in (a, b.0, b.1)

pub visit-step : (x : ℕ → ℤ) (net : Net) (n : ℕ) (found new : List ℕ) (seen now : List Bool) (at i : ℕ) (row : List ℕ) (d : NetEdge) → IsNetWithin n net
    → (v : Visits net found row at) → IsReaching x net found seen at (take i row) → i < length row → slice_get net.edges (get_or row i 0) ≡ Some d → Traverses x d found new seen now
    → IsReaching x net new now at (take (i + 1) row) × Visits net new row at
visit-step x net n found new seen now at i row d w v h lt e f =
    let r = row-edge net found row at i v lt in
    let same : r.0 ≡ d = (let a = r.1 in cc) in
    let from : d.from ≡ v.0 = subst (λ (y : NetEdge). y.from ≡ v.0) same r.2 in
    let inside = (edge-within n net (get_or row i 0) d w e).2 in
    let next = step-traverse x net found seen at (take i row) h v.0 v.1 (get_or row i 0) d e from inside new now f in
    (rw (take_more row i 0 lt) next, (v.0, step-here x net found seen at (take i row) h v.0 v.1 (get_or row i 0) d e from inside new now f, v.2))

pub visit-end : (x : ℕ → ℤ) (net : Net) (found : List ℕ) (seen : List Bool) (at i : ℕ) (row : List ℕ) → Visits net found row at
    → IsReaching x net found seen at (take i row) → length row ≤ i → IsReaching x net found seen (suc at) []
visit-end x net found seen at i row v h le = record {
  start = h.start;
  known = h.known;
  inside = h.inside;
  reached = h.reached;
  closed = λ j u p e lt g k m used. by_place j u p e lt g k m used;
  doing = λ j p e k m used. cc;
  count = h.count;
  size = h.size;
}
  where
    compare : {P : Type 0} (m n : ℕ) → m < suc n → (m < n → P) → (m ≡ n → P) → P
    compare zero zero l f g = g refl
    compare zero (suc n) l f g = f (omega arith)
    compare (suc m) zero l f g = absurd (omega arith)
    compare (suc m) (suc n) l f g = compare m n (omega arith) (λ x. f (omega arith)) (λ x. g (ap suc x))

    all : take i row ≡ places source_of v.0 net.edges
    all = take_all i row le ∙ v.2

    by_place : (j u p : ℕ) (e : NetEdge) → j < suc at → slice_get found j ≡ Some u → slice_get net.edges p ≡ Some e → e.from ≡ u → pos 0 <ℤ x e.unknown → slice_get seen e.to ≡ Some true
    by_place j u p e lt g k m used = compare j at lt (λ b. h.closed j u p e b g k m used)
        (λ same. (let g' = subst (λ n. slice_get found n ≡ Some u) same g in
        let here = v.1 in
        let su : u ≡ v.0 = cc in
        let w = places-all source_of v.0 0 net.edges p p e (omega arith) k (m ∙ su) in
        h.doing w.0 p e (subst (λ l. slice_get l w.0 ≡ Some p) (sym all) w.1) k used))

-- the start alone
module _ (x : ℕ → ℤ) (net : Net) (inside : net.start < net.states) where
  all-false : (n s : ℕ) → slice_get (replicate n false) s ≡ Some true → ⊥
  all-false zero s g = cc
  all-false (suc n) zero g = cc
  all-false (suc n) (suc s) g = all-false n s g

  sized : (n : ℕ) → length (replicate n false) ≡ n
  sized zero = refl
  sized (suc n) = ap suc (sized n)

  counts : (n : ℕ) → unmarked_count (replicate n false) ≡ n
  counts zero = refl
  counts (suc n) = ap suc (counts n)

  is-false : (n s : ℕ) → s < n → slice_get (replicate n false) s ≡ Some false
  is-false zero s lt = absurd (omega arith)
  is-false (suc n) zero lt = refl
  is-false (suc n) (suc s) lt = is-false n s (omega arith)

  only : (i s : ℕ) → slice_get (net.start ∷ []) i ≡ Some s → net.start ≡ s
  only zero s g = cc
  only (suc i) s g = cc

  pub reach-start : (found : List ℕ) (seen : List Bool) → found ≡ net.start ∷ [] → seen ≡ slice_set (replicate net.states false) net.start true → IsReaching x net found seen 0 []
  reach-start found seen a b = rw (a, b) (record {
    start = slice_get-set_same (replicate net.states false) net.start true (rw sized inside);
    known = λ s g. elim (marked-cases (replicate net.states false) net.start s g) [ inl o ↦ (0, ap Some (sym o)) | inr o ↦ absurd (all-false net.states s o) ];
    inside = λ i s g. subst (λ n. n < net.states) (only i s g) inside;
    reached = λ i s g. subst (Reached x net) (only i s g) reached_start;
    closed = λ i s p e lt g k m used. absurd (omega arith);
    doing = λ i p e k m used. cc;
    count = (let c = count-set (replicate net.states false) net.start (is-false net.states net.start inside) in let d = counts net.states in omega arith);
    size = length-set (replicate net.states false) net.start true ∙ sized net.states;
  })

-- a search that is done has marked what is reached
pub reach-done : (x : ℕ → ℤ) (net : Net) (found : List ℕ) (seen : List Bool) (at : ℕ) → IsReaching x net found seen at [] → length found ≤ at
    → (s : ℕ) → (slice_get seen s ≡ Some true) ↔ Reached x net s
reach-done x net found seen at h le s = ((λ g. let r = h.known s g in h.reached r.0 s r.1), marked s)
  where
    marked : (s : ℕ) → Reached x net s → slice_get seen s ≡ Some true
    marked s reached_start = h.start
    marked s (reached_edge e is used r) =
        let k = h.known e.from (marked e.from r) in
        let lt = slice_get_within found k.0 e.from k.1 in
        h.closed k.0 e.from is.0 e (omega arith) k.1 (slice_get-get_or net.edges is.0 e is.1 ∙ ap Some is.2) refl used

-- the answer
pub left-all : (x : ℕ → ℤ) (net : Net) (seen : List Bool) (set : List ℕ) → IsStrictlyIncreasing set
    → ((s : ℕ) → s < net.states → (slice_get seen s ≡ Some true) ↔ Reached x net s) → ((p : ℕ) (e : NetEdge) → slice_get net.edges p ≡ Some e → e.from < net.states)
    → ((s : ℕ) → Contains set s ↔ ((s < net.states) × (slice_get seen s ≡ Some true → ⊥)))
    → ((p : ℕ) × (e : NetEdge) × (slice_get net.edges p ≡ Some e) × (pos 0 <ℤ x e.unknown) × (slice_get seen e.from ≡ Some false)) → IsUnreached x net set
left-all x net seen set ascending exact within members left = record {
  ascending = ascending;
  members = λ s. ((λ k. let r = (members s).0 k in (r.0, λ q. r.1 ((exact s r.0).1 q))), (λ k. (members s).1 (k.0, λ q. k.1 ((exact s k.0).0 q))));
  left = record {
    edge = left.1;
    is_edge = slice_get-contains net.edges left.0 left.1 left.2;
    used = left.3;
    inside = (members left.1.from).1 (within left.0 left.1 left.2, λ q. (let z = left.4 in cc));
  };
}

-- an index of one edge more
pub source-step : (edges : List NetEdge) (i : ℕ) (d : NetEdge) (old new : List (List ℕ)) → i < length edges → IsIndex source_of (take i edges) old
    → new ≡ add_to (get_or edges i d).from i old → (length new ≡ length old) × IsIndex source_of (take (i + 1) edges) new
source-step edges i d old new lt h e =
    let size : length (take i edges) ≡ i = take-length edges i (omega arith) in
    let add = index-add source_of (take i edges) (get_or edges i d) old h in
    (rw e (length-add_to (get_or edges i d).from i old), rw (e, take_more edges i d lt) (subst (λ n. IsIndex source_of (take i edges ++ get_or edges i d ∷ []) (add_to (get_or edges i d).from n old)) size add))
  where
    take-length : (xs : List NetEdge) (i : ℕ) → i ≤ length xs → length (take i xs) ≡ i
    take-length [] zero h = refl
    take-length [] (suc i) h = absurd (omega arith)
    take-length (x ∷ xs) zero h = refl
    take-length (x ∷ xs) (suc i) h = ap suc (take-length xs i (omega arith))

-- what is listed, and the row of a listed state
pub listed-below : (x : ℕ → ℤ) (net : Net) (found all : List ℕ) (seen : List Bool) (at : ℕ) → all ≡ found → at < length found → IsReaching x net found seen at [] → get_or all at 0 < net.states
listed-below x net found all seen at e lt h = rw e (h.inside at (get_or found at 0) (slice_get-get_or found at 0 lt))

pub row-found : (net : Net) (found all row : List ℕ) (index : List (List ℕ)) (edges : List NetEdge) (at : ℕ) → all ≡ found → edges ≡ net.edges → at < length found → IsIndex source_of edges index
    → slice_get index (get_or all at 0) ≡ Some row → Visits net found row at
row-found net found all row index edges at e f lt h is = (
  get_or found at 0,
  slice_get-get_or found at 0 lt,
  subst (λ l. row ≡ places source_of (get_or found at 0) l) f (subst (λ l. row ≡ places source_of (get_or l at 0) edges) e (h (get_or all at 0) row is)),
)

pub left-read : (seen all : List Bool) (set : List ℕ) (states : ℕ) → all ≡ seen → ((s : ℕ) → Contains set s ↔ ((s < states) × (slice_get all s ≡ Some true → ⊥)))
    → (s : ℕ) → Contains set s ↔ ((s < states) × (slice_get seen s ≡ Some true → ⊥))
left-read seen all set states e h = subst (λ l. (s : ℕ) → Contains set s ↔ ((s < states) × (slice_get l s ≡ Some true → ⊥))) e h
