-- Counts that balance and are joined are those of some run (Euler, by Hierholzer's tour).
use Rattle.std.proofs.Common.{◌≡◌, ℕ, zero, suc, ◌+◌, ◌-◌, ◌<◌, ◌≤◌, ◌⊎◌, inl, inr, Bool, true, false, nat_eq, ℤ, List, [], ◌∷◌, ◌++◌, length, take, drop, reverse, replicate, IsTrue, slice_get, get_or, slice_index, slice_set, Some, refl, ap, ◌∙◌, subst, arith}
use Rattle.std.proofs.lemmas.List.{get_or_past}
use Rattle.std.proofs.lemmas.Option.{slice_get-get_or}
use Rattle.std.proofs.lemmas.Bool.Decides.{nat_tests}
use Rattle.sv_word.specs.Ranges.{in_ranges, least_of}
use Rattle.machine_core.specs.declared.edge.Edge.{Edge}
use Rattle.machine_core.specs.declared.end.End.{End}
use Rattle.machine_core.specs.declared.graph.Graph.{Graph}
use Rattle.machine_core.specs.declared.run.Run.{Run}
use Rattle.sv_list.specs.Lists.{slice_get-contains, slice_get-some}
use Rattle.machine_core.specs.Walks.{LeadsAlong}
use Rattle.parikh_flow.specs.Counts.{total_count, size_of}
use Rattle.parikh_flow.specs.Balance.{one_at, AreBalanced}
use Rattle.parikh_flow.specs.Flows.{IsFlow}
use Rattle.parikh_flow.specs.Nets.{AreJoined}
use Rattle.parikh_flow.specs.Solutions.{HaveFlowsAt, HaveJoinedCounts}
use Rattle.parikh_flow.specs.Tours.{Balances, IsDrained, IsTour, IsToured}
use Rattle.machine_core.specs.Edges.{IsWalk}
use Rattle.parikh_flow.proofs.CountLemmas.{one_at-is, one_at-same, rest-length, total-fall}
use Rattle.parikh_flow.proofs.MarkLemmas.{used-found}
use Rattle.parikh_flow.proofs.TourLemmas.{advance-tour, retreat-tour, tour-done, tour-start, walk-pop}
use Rattle.parikh_flow.proofs.RunLemmas.{joined-spent, index-take}
use Rattle.parikh_flow.proofs.WholeLemmas.{start-balances, front-size, whole-flow}

-- counts end at one state
only-stop : (edges : List Edge) (f : List ℕ) (s t : ℕ) → Balances edges f 0 s → Balances edges f 0 t → t ≡ s
only-stop edges f s t a b = let x = a s in let y = b s in let one = one_at-same s in one_at-is s t (omega arith)

-- an edge that leaves the state and is left
abbrev IsLeftAt : List Edge → List ℕ → ℕ → Type 0
IsLeftAt edges left s = (p : ℕ) × (e : Edge) × (slice_get edges p ≡ Some e) × (e.from ≡ s) × (0 < slice_index left p)

left-or-drained : (edges : List Edge) (left : List ℕ) (s : ℕ) → IsLeftAt edges left s ⊎ IsDrained edges left s
left-or-drained [] left s = inr (λ p e g f. cc)
left-or-drained (d ∷ edges) [] s = inr (λ p e g f. nothing p)
  where
    nothing : (p : ℕ) → slice_index [] p ≡ 0
    nothing zero = refl
    nothing (suc p) = refl
left-or-drained (d ∷ edges) (n ∷ left) s = elim (left-or-drained edges left s) [
  | inl h ↦ inl (suc h.0, h.1, h.2, h.3, h.4)
  | inr none ↦ by_first n refl (nat_eq d.from s) refl none
]
  where
    drained : ((d.from ≡ s) → n ≡ 0) → IsDrained edges left s → IsDrained (d ∷ edges) (n ∷ left) s
    drained h none zero e g f = let same : d ≡ e = cc in h (ap (λ (x : Edge). x.from) same ∙ f)
    drained h none (suc p) e g f = none p e g f

    by_first : (k : ℕ) → n ≡ k → (b : Bool) → nat_eq d.from s ≡ b → IsDrained edges left s → IsLeftAt (d ∷ edges) (n ∷ left) s ⊎ IsDrained (d ∷ edges) (n ∷ left) s
    by_first zero z b e none = inr (drained (λ f. z) none)
    by_first (suc k) z true e none = inl (zero, d, refl, grind (arith, nat_tests), omega arith)
    by_first (suc k) z false e none = inr (drained (λ f. absurd (let t : nat_eq d.from s ≡ true = grind (arith, nat_tests) in cc)) none)

last-of : (xs : List ℕ) → (xs ≡ []) ⊎ ((ys : List ℕ) × (y : ℕ) × (xs ≡ ys ++ y ∷ []))
last-of [] = inl refl
last-of (x ∷ xs) = elim (last-of xs) [
  | inl e ↦ inr ([], x, ap (λ l. x ∷ l) e)
  | inr h ↦ inr (x ∷ h.0, h.1, ap (λ l. x ∷ l) h.2)
]

length-push : (ys : List ℕ) (y : ℕ) → length (ys ++ y ∷ []) ≡ suc (length ys)
length-push [] y = refl
length-push (x ∷ ys) y = ap suc (length-push ys y)

module _ (m : Graph) (f : List ℕ) (stop : ℕ) where
  abbrev Ends : Type 0
  Ends = (left back : List ℕ) × IsToured m.edges f stop left back

  -- a tour with so little before it comes to its end
  abbrev Goes : ℕ → Type 0
  Goes fuel = (left next way back : List ℕ) (at : ℕ) → total_count left + total_count left + length way < fuel → IsTour m.edges m.states f stop left next way back at → Ends

  advance : (fuel : ℕ) → Goes fuel → (left next way back : List ℕ) (at : ℕ) → total_count left + total_count left + length way < suc fuel → IsTour m.edges m.states f stop left next way back at → IsLeftAt m.edges left at → Ends
  advance fuel go left next way back at lt t h =
      let some : slice_index left h.0 ≡ suc (slice_index left h.0 - 1) = let l = h.4 in omega arith in
      let inside = (m.formed.edge h.1 (slice_get-contains m.edges h.0 h.1 h.2)).to in
      let less = total-fall left h.0 (slice_index left h.0 - 1) some in
      let more = length-push way h.0 in
      go (slice_set left h.0 (slice_index left h.0 - 1)) next (way ++ h.0 ∷ []) back h.1.to (omega arith)
      (advance-tour m.edges m.states f stop left next way back at h.0 (slice_index left h.0 - 1) h.1 h.2 h.3 some inside t)

  settle : (fuel : ℕ) → Goes fuel → (left next way back : List ℕ) (at : ℕ) → total_count left + total_count left + length way < suc fuel → IsTour m.edges m.states f stop left next way back at → IsDrained m.edges left at
      → (way ≡ []) ⊎ ((ys : List ℕ) × (y : ℕ) × (way ≡ ys ++ y ∷ [])) → Ends
  settle fuel go left next way back at lt t none (inl e) = (left, back, tour-done m.edges m.states f stop left next back at none (subst (λ w. IsTour m.edges m.states f stop left next w back at) e t))
  settle fuel go left next way back at lt t none (inr h) =
      let t' = subst (λ w. IsTour m.edges m.states f stop left next w back at) h.2 t in
      let w = walk-pop m.edges 0 h.0 h.1 at t'.out in
      let inside = (m.formed.edge w.0 (slice_get-contains m.edges h.1 w.0 w.1)).from in
      let less = ap length h.2 ∙ length-push h.0 h.1 in
      go left next h.0 (back ++ h.1 ∷ []) w.0.from (omega arith)
      (retreat-tour m.edges m.states f stop left next h.0 back at h.1 w.0 w.1 inside none t')

  tour-ends : (fuel : ℕ) → Goes fuel
  tour-ends zero left next way back at lt t = absurd (omega arith)
  tour-ends (suc fuel) left next way back at lt t = elim (left-or-drained m.edges left at) [
    | inl h ↦ advance fuel (tour-ends fuel) left next way back at lt t h
    | inr none ↦ settle fuel (tour-ends fuel) left next way back at lt t none (last-of way)
  ]

-- edges one after another are those of a run, on the least character of each
walk-leads : (m : Graph) (s : ℕ) (ps : List ℕ) (t : ℕ) → IsWalk m.edges s ps t → (us word : List ℕ) × (costs : List (List ℕ)) × LeadsAlong m.edges s ps us word costs t
walk-leads m s [] t w = ([], [], [], w)
walk-leads m s (p ∷ ps) t w =
    let on : IsTrue (in_ranges w.0.on (least_of w.0.on)) = (m.formed.edge w.0 (slice_get-contains m.edges p w.0 w.1)).on in
    let r = walk-leads m w.0.to ps t w.3 in
    (w.0.to ∷ r.0, least_of w.0.on ∷ r.1, w.0.cost ∷ r.2, (w.0, w.1, w.2, (on, refl, refl), r.3))

-- the one count that is used
record IsUsed (f : List ℕ) (i : ℕ) : Type 0 where
  within : i < length f
  before : (j : ℕ) → j < i → slice_index f j ≡ 0
  rest : total_count (drop i f) ≡ 1
  used : 0 < slice_index f i

used-one : (f : List ℕ) → total_count f ≡ 1 → (i : ℕ) × IsUsed f i
used-one [] h = absurd (omega arith)
used-one (zero ∷ f) h =
    let r = used-one f (omega arith) in (
      suc r.0,
      record {
        within = (let w = r.1.within in omega arith);
        before = λ j lt. before j r.0 lt r.1;
        rest = r.1.rest;
        used = r.1.used;
      },
    )
  where
    before : (j : ℕ) → (i : ℕ) → j < suc i → IsUsed f i → slice_index (zero ∷ f) j ≡ 0
    before zero i lt u = refl
    before (suc j) i lt u = u.before j (omega arith)
used-one (suc n ∷ f) h = (
  zero,
  record {
    within = omega arith;
    before = λ j lt. absurd (omega arith);
    rest = h;
    used = omega arith;
  },
)

module _ (m : Graph) (f : List ℕ) (balanced : AreBalanced m f) (joined : AreJoined m f) (last : ℕ) (e : End) (u : IsUsed (drop (length m.edges) f) last) (read : e ≡ get_or m.ends last e) where
  used : (k : ℕ) → slice_index (drop (length m.edges) f) k ≡ one_at k last
  used k = used-found (drop (length m.edges) f) last k u.before u.rest u.used

  starts : Balances m.edges (take (length m.edges) f) 0 e.at
  starts = start-balances m f (take (length m.edges) f) (drop (length m.edges) f) last e m.ends m.edges balanced refl refl refl u.within used refl read

  whole-tour : Ends m (take (length m.edges) f) e.at
  whole-tour =
      tour-ends m (take (length m.edges) f) e.at (suc (total_count (take (length m.edges) f) + total_count (take (length m.edges) f) + 0)) (take (length m.edges) f) (replicate m.states 0) [] [] 0 (omega arith)
      (tour-start m.edges m.states (take (length m.edges) f) e.at (take (length m.edges) f) (replicate m.states 0) [] [] m.started
      (front-size m f (take (length m.edges) f) (drop (length m.edges) f) last e m.ends m.edges balanced refl refl refl u.within used refl read)
      starts refl refl refl refl)

  run-of-tour : Ends m (take (length m.edges) f) e.at → (run : Run ℕ) × IsFlow m run f
  run-of-tour t =
      let walk = walk-leads m 0 (reverse t.1) e.at t.2.home in
      let run : Run ℕ = record { word = walk.1; states = 0 ∷ walk.0; costs = walk.2; last = e.cost } in (
        run,
        whole-flow m f (take (length m.edges) f) (drop (length m.edges) f) last e m.ends m.edges balanced refl refl refl u.within used refl read t.0 t.1 t.1 toured refl run spent
            (record { after = walk.0; stop = e.at; states = refl; leads = walk.3 }) refl,
      )
    where
      by_less : {P : Type 0} (a b : ℕ) → (a < b → P) → (b ≤ a → P) → P
      by_less a zero f g = g (omega arith)
      by_less zero (suc b) f g = f (omega arith)
      by_less (suc a) (suc b) f g = by_less a b (λ lt. f (omega arith)) (λ le. g (omega arith))

      toured : (stop : ℕ) → Balances m.edges (take (length m.edges) f) 0 stop → IsToured m.edges (take (length m.edges) f) stop t.0 t.1
      toured stop balances = subst (λ n. IsToured m.edges (take (length m.edges) f) n t.0 t.1) (only-stop m.edges (take (length m.edges) f) stop e.at balances starts) t.2

      spent : (p : ℕ) → slice_index t.0 p ≡ 0
      spent p = by_less p (length m.edges)
          (λ lt. let d = slice_get-some m.edges p lt in
          joined-spent m (take (length m.edges) f) f (λ q l. index-take f (length m.edges) q l) e.at t.0 t.1 t.2 joined p d.0 d.1)
          (λ le. get_or_past t.0 p 0 (let s = t.2.size in omega arith))

pub euler : (m : Graph) (f : List ℕ) → AreBalanced m f → AreJoined m f → (run : Run ℕ) × IsFlow m run f
euler m f balanced joined =
    let u = used-one (drop (length m.edges) f) balanced.one_end in
    let size = rest-length f (length m.edges) (length m.ends) balanced.size in
    let inside : u.0 < length m.ends = let w = u.1.within in omega arith in
    let e = slice_get-some m.ends u.0 inside in
    let read : e.0 ≡ get_or m.ends u.0 e.0 = let g = slice_get-get_or m.ends u.0 e.0 inside in let h = e.1 in cc in
    run-of-tour m f balanced joined u.0 e.0 u.1 read (whole-tour m f balanced joined u.0 e.0 u.1 read)

-- joined counts of all machines are those of some runs
pub joined-flows : (x : ℕ → ℤ) (base : ℕ) (ms : List Graph) → HaveJoinedCounts x base ms → (runs : List (Run ℕ)) × HaveFlowsAt x base ms runs
joined-flows x base [] h = ([], tt)
joined-flows x base (m ∷ ms) h =
    let own = euler m h.0.0 h.0.2 h.0.3 in
    let rest = joined-flows x (base + size_of m) ms h.1 in
    (own.0 ∷ rest.0, ((h.0.0, h.0.1, own.1), rest.1))
