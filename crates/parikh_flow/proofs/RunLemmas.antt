-- The run of a tour, and states that a tour doesn't meet.
use Rattle.std.proofs.Common.{◌≡◌, ℕ, zero, suc, ◌+◌, ◌<◌, ◌↔◌, inl, inr, pos, ◌<ℤ◌, List, [], ◌∷◌, length, take, drop, reverse, Contains, slice_get, slice_index, Some, refl, ap, sym, ◌∙◌, subst, arith}
use Rattle.std.proofs.lemmas.Option.{slice_get_within}
use Rattle.std.proofs.lemmas.Int.{ints}
use Rattle.std.specs.List.Sorted.{IsStrictlyIncreasing}
use Rattle.machine_core.specs.declared.edge.Edge.{Edge}
use Rattle.machine_core.specs.declared.graph.Graph.{Graph}
use Rattle.machine_core.specs.declared.run.Run.{Run}
use Rattle.machine_core.specs.Edges.{IsWalk}
use Rattle.machine_core.specs.Graphs.{IsRunOf}
use Rattle.machine_core.specs.WalkLaws.{along_run}
use Rattle.sv_list.specs.Lists.{slice_get-contains, Contains-here, Contains-there, slice_get-some}
use Rattle.farkas_check.specs.declared.net.NetEdge.{NetEdge}
use Rattle.farkas_check.specs.Systems.{Reached, reached_start, reached_edge, Joined}
use Rattle.farkas_check.specs.Cuts.{IsUnreached}
use Rattle.parikh_flow.specs.Balance.{one_at}
use Rattle.parikh_flow.specs.Flows.{GoesAlong, CountsPlaces}
use Rattle.parikh_flow.specs.Nets.{net_edge, net_edges, net_of, counted}
use Rattle.parikh_flow.specs.Tours.{IsDrained, IsToured, IsMet}
use Rattle.parikh_flow.proofs.CountLemmas.{occurs, occurs-at, occurrences-reverse}

pub goes-run : (m : Graph) (run : Run ℕ) (places : List ℕ) (last : ℕ) → GoesAlong m run places last → IsRunOf m run
goes-run m run places last g =
    let at = slice_get-contains m.ends last g.ending g.is_end in
    along_run m places run g.along (at.0, g.ending, at.1, at.2, (g.at, g.cost))

-- edges of the net of a machine
pub net-in : (base : ℕ) (edges : List Edge) (p : ℕ) (e : Edge) → slice_get edges p ≡ Some e → Contains (net_edges base edges) (net_edge (base + p) e)
net-in base [] p e g = cc
net-in base (d ∷ es) zero e g =
    let same : d ≡ e = cc in
    let here : base + 0 ≡ base = omega arith in
    rw (here, sym same) (Contains-here (net_edge base d) (net_edges (suc base) es))
net-in base (d ∷ es) (suc p) e g =
    let next : base + suc p ≡ suc base + p = omega arith in
    rw next (Contains-there (net_edge base d) (net_edges (suc base) es) (net_edge (suc base + p) e) (net-in (suc base) es p e g))

pub net-out : (base : ℕ) (edges : List Edge) (d : NetEdge) → Contains (net_edges base edges) d → (p : ℕ) × (e : Edge) × (slice_get edges p ≡ Some e) × (d ≡ net_edge (base + p) e)
net-out base [] d (k, lt, same) = absurd (omega arith)
net-out base (e ∷ es) d (zero, lt, same) = (zero, e, refl, sym same ∙ ap (λ n. net_edge n e) (omega arith))
net-out base (e ∷ es) d (suc k, lt, same) =
    let r = net-out (suc base) es d (k, omega arith, same) in
    (suc r.0, r.1, r.2, r.3 ∙ ap (λ n. net_edge n r.1) (omega arith))

pub index-take : (f : List ℕ) (n p : ℕ) → p < n → slice_index (take n f) p ≡ slice_index f p
index-take [] zero p h = refl
index-take [] (suc n) p h = refl
index-take (x ∷ f) zero p h = absurd (omega arith)
index-take (x ∷ f) (suc n) zero h = refl
index-take (x ∷ f) (suc n) (suc p) h = index-take f n p (omega arith)

pub index-drop : (f : List ℕ) (n q : ℕ) → slice_index (drop n f) q ≡ slice_index f (n + q)
index-drop [] zero q = ap (slice_index []) (let z : q ≡ 0 + q = omega arith in z)
index-drop [] (suc n) q = refl
index-drop (x ∷ f) zero q = ap (slice_index (x ∷ f)) (let z : q ≡ 0 + q = omega arith in z)
index-drop (x ∷ f) (suc n) q = index-drop f n q ∙ ap (slice_index (x ∷ f)) (let z : suc (n + q) ≡ suc n + q = omega arith in z)

-- a completed tour: its states are those that are reached
module _ (m : Graph) (f g : List ℕ) (same : (p : ℕ) → p < length m.edges → slice_index f p ≡ slice_index g p) (stop : ℕ) (left back : List ℕ) (t : IsToured m.edges f stop left back) where
  abbrev Reaches : ℕ → Type 0
  Reaches = Reached (counted g) (net_of 0 m)

  met-drained : (s : ℕ) → IsMet m.edges back s → IsDrained m.edges left s
  met-drained s (inl z) = subst (IsDrained m.edges left) (sym z) t.start
  met-drained s (inr (i, p, e, a, b, c)) = subst (IsDrained m.edges left) c (t.settled i p e a b)

  used-count : (p : ℕ) (e : Edge) → slice_get m.edges p ≡ Some e → pos 0 <ℤ counted g (0 + p) → 0 < slice_index f p
  used-count p e is h = let b = slice_get_within m.edges p e is in let s = same p b in let z : 0 + p ≡ p = omega arith in let u = subst (λ n. pos 0 <ℤ pos (slice_index g n)) z h in omega (arith, ints)

  count-used : (p : ℕ) (e : Edge) → slice_get m.edges p ≡ Some e → 0 < slice_index f p → pos 0 <ℤ counted g (0 + p)
  count-used p e is h = let b = slice_get_within m.edges p e is in let s = same p b in let z : p ≡ 0 + p = omega arith in subst (λ n. pos 0 <ℤ pos (slice_index g n)) z (omega (arith, ints))

  met-next : (p : ℕ) (e : Edge) → slice_get m.edges p ≡ Some e → 0 < slice_index f p → IsMet m.edges back e.from → IsMet m.edges back e.to
  met-next p e is used met =
      let none = met-drained e.from met p e is refl in
      let c = t.counted p in
      let at = occurs-at p back (omega arith) in
      inr (at.0, p, e, at.1, is, refl)

  pub reached-met : (s : ℕ) → Reaches s → IsMet m.edges back s
  reached-met s reached_start = inl refl
  reached-met s (reached_edge d c used r) =
      let e = net-out 0 m.edges d c in
      let before = reached-met d.«from» r in
      let used' = subst (λ (x : NetEdge). pos 0 <ℤ counted g x.unknown) e.3 used in
      subst (λ (x : NetEdge). IsMet m.edges back x.to) (sym e.3)
      (met-next e.0 e.1 e.2 (used-count e.0 e.1 e.2 used') (subst (λ (x : NetEdge). IsMet m.edges back x.«from») e.3 before))

  walk-reached : (ps : List ℕ) (s : ℕ) → Reaches s → IsWalk m.edges s ps stop → ((i p : ℕ) → slice_get ps i ≡ Some p → 0 < slice_index f p)
      → (i p : ℕ) (e : Edge) → slice_get ps i ≡ Some p → slice_get m.edges p ≡ Some e → Reaches e.to
  walk-reached [] s r w used i p e a b = cc
  walk-reached (q ∷ ps) s r w used zero p e a b =
      let h : q ≡ p = cc in
      let d : w.0 ≡ e = (let x = w.1 in cc) in
      subst (λ (y : Edge). Reaches y.to) d (reached_edge (net_edge (0 + q) w.0) (net-in 0 m.edges q w.0 w.1) (count-used q w.0 w.1 (used zero q refl)) (subst Reaches (sym w.2) r))
  walk-reached (q ∷ ps) s r w used (suc i) p e a b =
      walk-reached ps w.0.to (reached_edge (net_edge (0 + q) w.0) (net-in 0 m.edges q w.0 w.1) (count-used q w.0 w.1 (used zero q refl)) (subst Reaches (sym w.2) r)) w.3
      (λ j n c. used (suc j) n c) i p e a b

  place-used : (i p : ℕ) → slice_get (reverse back) i ≡ Some p → 0 < slice_index f p
  place-used i p a = let o = occurs p (reverse back) i a in let r = occurrences-reverse p back in let c = t.counted p in omega arith

  pub met-reached : (s : ℕ) → IsMet m.edges back s → Reaches s
  met-reached s (inl z) = subst Reaches (sym z) reached_start
  met-reached s (inr (i, p, e, a, b, c)) =
      let o = occurs p back i a in
      let r = occurrences-reverse p back in
      let at = occurs-at p (reverse back) (omega arith) in
      subst Reaches c (walk-reached (reverse back) 0 reached_start t.home place-used at.0 p e at.1 b)

  pub tour-apart : (set : List ℕ) → IsStrictlyIncreasing set → ((s : ℕ) → Contains set s ↔ ((s < m.states) × (IsMet m.edges back s → ⊥)))
      → (p : ℕ) → p < length left → 0 < slice_index left p → IsUnreached (counted g) (net_of 0 m) set
  tour-apart set rising members p lt more =
      let below : p < length m.edges = (let s = t.size in omega arith) in
      let e = slice_get-some m.edges p below in
      let at = slice_get-contains m.edges p e.0 e.1 in
      let unmet : IsMet m.edges back e.0.from → ⊥ = λ met. (let none = met-drained e.0.from met p e.0 e.1 refl in omega arith) in
      let c = t.counted p in
      record {
        ascending = rising;
        members = λ s. (λ k. (let h = (members s).0 k in (h.0, λ r. h.1 (reached-met s r))), λ h. (members s).1 (h.0, λ met. h.1 (met-reached s met)));
        left = record {
          edge = net_edge (0 + p) e.0;
          is_edge = net-in 0 m.edges p e.0 e.1;
          used = count-used p e.0 e.1 (omega arith);
          inside = (members e.0.from).1 ((m.formed.edge e.0 at).from, unmet);
        };
      }

  -- where the counts are joined, no edge is left
  pub joined-spent : Joined (counted g) (net_of 0 m) → (p : ℕ) (e : Edge) → slice_get m.edges p ≡ Some e → slice_index left p ≡ 0
  joined-spent joined p e is = by_left (slice_index left p) refl
    where
      by_left : (n : ℕ) → slice_index left p ≡ n → slice_index left p ≡ 0
      by_left zero h = h
      by_left (suc n) h =
          let own = net-in 0 m.edges p e is in
          let reach = subst (λ (y : NetEdge). pos 0 <ℤ counted g y.unknown → Reached (counted g) (net_of 0 m) y.«from») own.2 (joined.reached own.0 (net_edge (0 + p) e) own.1) in
          let c = t.counted p in
          met-drained e.from (reached-met e.from (reach (count-used p e is (omega arith)))) p e is refl

  -- where no edge is left, the counts are those of the tour
  pub tour-tally : (last : ℕ) → length g ≡ length m.edges + length m.ends → ((p : ℕ) → slice_index left p ≡ 0)
      → ((q : ℕ) → slice_index (drop (length m.edges) g) q ≡ one_at q last) → CountsPlaces m (reverse back) last g
  tour-tally last size none ends = record {
    size = size;
    of_edges = λ p lt. (let s = same p lt in let n = none p in let c = t.counted p in let r = occurrences-reverse p back in omega arith);
    of_ends = λ q lt. (let d = index-drop g (length m.edges) q in let e = ends q in omega arith);
  }
