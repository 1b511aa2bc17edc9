-- Counts of a run balance, and are joined.
use Rattle.std.proofs.Common.{◌≡◌, ℕ, zero, suc, ◌+◌, ◌<◌, ◌≤◌, ◌⊎◌, inl, inr, Bool, true, false, cond, nat_eq, pos, ◌<ℤ◌, ◌≤ℤ◌, List, [], ◌∷◌, ◌++◌, length, map, take, length-append, Contains, slice_get, get_or, slice_index, slice_set, Some, refl, ap, sym, ◌∙◌, subst, arith}
use Rattle.std.proofs.lemmas.List.{get_or_past}
use Rattle.std.proofs.lemmas.Option.{slice_get_within, slice_get-get_or}
use Rattle.std.specs.List.{range_with_len}
use Rattle.std.proofs.lemmas.Int.{ints}
use Rattle.machine_core.specs.declared.edge.Edge.{Edge}
use Rattle.machine_core.specs.declared.graph.Graph.{Graph}
use Rattle.machine_core.specs.declared.run.Run.{Run}
use Rattle.machine_core.specs.Edges.{StepsBy, from_of, at_of, IsWalk}
use Rattle.machine_core.specs.Graphs.{IsRunOf}
use Rattle.machine_core.specs.Runs.{IsPath}
use Rattle.machine_core.specs.Walks.{LeadsAlong}
use Rattle.machine_core.specs.WalkLaws.{along_walk}
use Rattle.sv_list.specs.Lists.{slice_get-contains}
use Rattle.std.proofs.lemmas.Bool.Decides.{nat_tests}
use Rattle.farkas_check.specs.declared.net.NetEdge.{NetEdge}
use Rattle.farkas_check.specs.Systems.{Reached, reached_start, reached_edge}
use Rattle.parikh_flow.specs.Counts.{occurrences, total_count, to_of, edge_counts, end_counts}
use Rattle.parikh_flow.specs.Balance.{one_at, AreBalanced}
use Rattle.parikh_flow.specs.Flows.{IsFlow}
use Rattle.parikh_flow.specs.Nets.{net_edge, net_edges, net_of, counted, AreJoined, AreApart}
use Rattle.parikh_flow.specs.Tours.{Balances}
use Rattle.parikh_flow.proofs.CountLemmas.{rest-length, counts_at-fall, counts_at-none, total-fall, index-fall, occurs, occurs-at, one_at-same}
use Rattle.parikh_flow.proofs.RunLemmas.{net-in, net-out, index-take, index-drop}

-- counts fall by one where their tally loses its first place
module _ (f : List ℕ) (q : ℕ) (ps : List ℕ) (tally : (p : ℕ) → slice_index f p ≡ occurrences p (q ∷ ps)) where
  pub tally-first : slice_index f q ≡ suc (occurrences q ps)
  tally-first = let h = tally q in let one = one_at-same q in omega arith

  pub tally-rest : (p : ℕ) → slice_index (slice_set f q (occurrences q ps)) p ≡ occurrences p ps
  tally-rest p = let h = tally p in let i = index-fall f q (occurrences q ps) p tally-first in omega arith

-- the counts of a walk balance but for its two ends
pub walk-balances : (edges : List Edge) (ps : List ℕ) (s t : ℕ) (f : List ℕ) → IsWalk edges s ps t → ((p : ℕ) → slice_index f p ≡ occurrences p ps) → Balances edges f s t
walk-balances edges [] s t f w tally r =
    let i = counts_at-none to_of r edges f (λ p e g k. tally p) in
    let o = counts_at-none from_of r edges f (λ p e g k. tally p) in
    let same = ap (one_at r) w in
    omega arith
walk-balances edges (q ∷ ps) s t f w tally r =
    let n = occurrences q ps in
    let first = tally-first f q ps tally in
    let i = counts_at-fall to_of r edges f q (occurrences q ps) w.0 w.1 first in
    let o = counts_at-fall from_of r edges f q (occurrences q ps) w.0 w.1 first in
    let rest = walk-balances edges ps w.0.to t (slice_set f q (occurrences q ps)) w.3 (tally-rest f q ps tally) r in
    let same = ap (one_at r) w.2 in
    omega arith

pub total-none : (f : List ℕ) → ((p : ℕ) → slice_index f p ≡ 0) → total_count f ≡ 0
total-none [] h = refl
total-none (n ∷ f) h = let here = h zero in let rest = total-none f (λ p. h (suc p)) in omega arith

-- places of a walk are those of edges
pub walk-within : (edges : List Edge) (s : ℕ) (ps : List ℕ) (t p : ℕ) → IsWalk edges s ps t → 0 < occurrences p ps → p < length edges
walk-within edges s [] t p w h = absurd (omega arith)
walk-within edges s (q ∷ ps) t p w h = by_head (nat_eq q p) refl (walk-within edges w.0.to ps t p w.3)
  where
    by_head : (b : Bool) → nat_eq q p ≡ b → (0 < occurrences p ps → p < length edges) → p < length edges
    by_head true e rec = let same : q ≡ p = grind (arith, nat_tests) in let b = slice_get_within edges q w.0 w.1 in omega arith
    by_head false e rec = let g : 0 < cond false 1 0 + occurrences p ps = subst (λ b. 0 < cond b 1 0 + occurrences p ps) e h in rec (omega arith)

take-past : (f : List ℕ) (n p : ℕ) → n ≤ p → slice_index (take n f) p ≡ 0
take-past [] zero zero h = refl
take-past [] zero (suc p) h = refl
take-past [] (suc n) zero h = absurd (omega arith)
take-past [] (suc n) (suc p) h = refl
take-past (x ∷ f) zero zero h = refl
take-past (x ∷ f) zero (suc p) h = refl
take-past (x ∷ f) (suc n) zero h = absurd (omega arith)
take-past (x ∷ f) (suc n) (suc p) h = take-past f n p (omega arith)

pub by_less : {P : Type 0} (m n : ℕ) → (m < n → P) → (n ≤ m → P) → P
by_less m zero f g = g (omega arith)
by_less zero (suc n) f g = f (omega arith)
by_less (suc m) (suc n) f g = by_less m n (λ lt. f (omega arith)) (λ le. g (omega arith))

none-or-some : (n : ℕ) → (n ≡ 0) ⊎ (0 < n)
none-or-some zero = inl refl
none-or-some (suc n) = inr (omega arith)

module _ (m : Graph) (run : Run ℕ) (f : List ℕ) (flow : IsFlow m run f) where
  flow-walk : IsWalk m.edges 0 flow.places flow.goes.along.stop
  flow-walk = along_walk m.edges flow.places run flow.goes.along

  pub edge-tally : (p : ℕ) → slice_index (edge_counts m f) p ≡ occurrences p flow.places
  edge-tally p = by_less p (length m.edges)
      (λ lt. index-take f (length m.edges) p lt ∙ flow.tally.of_edges p lt)
      (λ le. let z = take-past f (length m.edges) p le in
      elim (none-or-some (occurrences p flow.places)) [
        | inl o ↦ z ∙ sym o
        | inr some ↦ absurd (let b = walk-within m.edges 0 flow.places flow.goes.along.stop p flow-walk some in omega arith)
      ])

  pub end-tally : (q : ℕ) → slice_index (end_counts m f) q ≡ occurrences q (flow.last ∷ [])
  end-tally q = by_less q (length m.ends)
      (λ lt. index-drop f (length m.edges) q ∙ flow.tally.of_ends q lt)
      (λ le. let size = rest-length f (length m.edges) (length m.ends) flow.tally.size in
      let z = get_or_past (end_counts m f) q 0 (omega arith) in
      let b = slice_get_within m.ends flow.last flow.goes.ending flow.goes.is_end in
      elim (none-or-some (occurrences q (flow.last ∷ []))) [
        | inl o ↦ z ∙ sym o
        | inr some ↦ absurd (let at = occurs-at q (flow.last ∷ []) some in last-only at.0 q at.1 b le)
      ])
    where
      last-only : (i q : ℕ) → slice_get (flow.last ∷ []) i ≡ Some q → flow.last < length m.ends → length m.ends ≤ q → ⊥
      last-only zero q e lt le = let same : flow.last ≡ q = cc in omega arith
      last-only (suc i) q e lt le = cc

  pub flow-balanced : AreBalanced m f
  flow-balanced =
      let first = tally-first (end_counts m f) flow.last [] end-tally in
      let rest = tally-rest (end_counts m f) flow.last [] end-tally in
      let total = total-fall (end_counts m f) flow.last 0 first in
      let none = total-none (slice_set (end_counts m f) flow.last 0) rest in
      record {
        size = flow.tally.size;
        one_end = omega arith;
        at_each = λ s.
            let b = walk-balances m.edges flow.places 0 flow.goes.along.stop (edge_counts m f) flow-walk edge-tally s in
            let e = counts_at-fall at_of s m.ends (end_counts m f) flow.last 0 flow.goes.ending flow.goes.is_end first in
            let z = counts_at-none at_of s m.ends (slice_set (end_counts m f) flow.last 0) (λ p x g k. rest p) in
            let same = ap (one_at s) flow.goes.at in
            omega arith;
      }

  abbrev Reaches : ℕ → Type 0
  Reaches = Reached (counted f) (net_of 0 m)

  -- the states that the walk leaves are reached
  left-reached : (ps : List ℕ) (s t : ℕ) → Reaches s → IsWalk m.edges s ps t → ((i p : ℕ) → slice_get ps i ≡ Some p → pos 0 <ℤ counted f (0 + p))
      → (i p : ℕ) (e : Edge) → slice_get ps i ≡ Some p → slice_get m.edges p ≡ Some e → Reaches e.from
  left-reached [] s t r w used i p e a b = cc
  left-reached (q ∷ ps) s t r w used zero p e a b =
      let h : q ≡ p = cc in
      let d : w.0 ≡ e = (let x = w.1 in cc) in
      subst (λ (y : Edge). Reaches y.from) d (subst Reaches (sym w.2) r)
  left-reached (q ∷ ps) s t r w used (suc i) p e a b =
      left-reached ps w.0.to t (reached_edge (net_edge (0 + q) w.0) (net-in 0 m.edges q w.0 w.1) (used zero q refl) (subst Reaches (sym w.2) r)) w.3
      (λ j n c. used (suc j) n c) i p e a b

  place-used : (i p : ℕ) → slice_get flow.places i ≡ Some p → pos 0 <ℤ counted f (0 + p)
  place-used i p a =
      let o = occurs p flow.places i a in
      let b = walk-within m.edges 0 flow.places flow.goes.along.stop p flow-walk o in
      let c = flow.tally.of_edges p b in
      let z : p ≡ 0 + p = omega arith in
      subst (λ n. pos 0 <ℤ pos (slice_index f n)) z (omega (arith, ints))

  edge-reached : (d : NetEdge) → Contains (net_edges 0 m.edges) d → pos 0 <ℤ counted f d.unknown → Reaches d.«from»
  edge-reached d c used =
      let e = net-out 0 m.edges d c in
      let b = slice_get_within m.edges e.0 e.1 e.2 in
      let count = flow.tally.of_edges e.0 b in
      let z : 0 + e.0 ≡ e.0 = omega arith in
      let used' = subst (λ n. pos 0 <ℤ pos (slice_index f n)) z (subst (λ (x : NetEdge). pos 0 <ℤ counted f x.unknown) e.3 used) in
      let at = occurs-at e.0 flow.places (omega (arith, ints)) in
      subst (λ (x : NetEdge). Reaches x.«from») (sym e.3)
      (left-reached flow.places 0 flow.goes.along.stop reached_start flow-walk place-used at.0 e.0 e.1 at.1 e.2)

  pub flow-joined : AreJoined m f
  flow-joined = record {
    not_negative = λ k d lt. (let e : pos 0 ≤ℤ pos (slice_index f (get_or (net_edges 0 m.edges) k d).unknown) = omega (arith, ints) in e);
    reached = λ k d lt used. edge-reached (get_or (net_edges 0 m.edges) k d)
        (slice_get-contains (net_edges 0 m.edges) k (get_or (net_edges 0 m.edges) k d) (slice_get-get_or (net_edges 0 m.edges) k d lt)) used;
  }

-- counts that lie apart aren't joined
pub apart-not-joined : (m : Graph) (f set : List ℕ) → AreApart m f set → AreJoined m f → ⊥
apart-not-joined m f set apart joined =
    let e = apart.left.edge in
    let c = apart.left.is_edge in
    let r = joined.reached c.0 e c.1 in
    let r' = subst (λ (d : NetEdge). pos 0 <ℤ counted f d.unknown → Reached (counted f) (net_of 0 m) d.«from») c.2 r in
    ((apart.members e.«from»).0 apart.left.inside).1 (r' apart.left.used)

-- so many counts, those of the places
abbrev tally_of : ℕ → ℕ → List ℕ → List ℕ
tally_of base n ps = map (λ p. occurrences p ps) (range_with_len base n)

tally-length : (base n : ℕ) (ps : List ℕ) → length (tally_of base n ps) ≡ n
tally-length base zero ps = refl
tally-length base (suc n) ps = ap suc (tally-length (base + 1) n ps)

tally-at : (base n p : ℕ) (ps : List ℕ) → p < n → slice_index (tally_of base n ps) p ≡ occurrences (base + p) ps
tally-at base zero p ps h = absurd (omega arith)
tally-at base (suc n) zero ps h = ap (λ k. occurrences k ps) (omega arith)
tally-at base (suc n) (suc p) ps h = tally-at (base + 1) n p ps (omega arith) ∙ ap (λ k. occurrences k ps) (omega arith)

pub index-first : (f g : List ℕ) (p : ℕ) → p < length f → slice_index (f ++ g) p ≡ slice_index f p
index-first [] g p h = absurd (omega arith)
index-first (x ∷ f) g zero h = refl
index-first (x ∷ f) g (suc p) h = index-first f g p (omega arith)

pub index-second : (f g : List ℕ) (q : ℕ) → slice_index (f ++ g) (length f + q) ≡ slice_index g q
index-second [] g q = ap (slice_index g) (let z : 0 + q ≡ q = omega arith in z)
index-second (x ∷ f) g q = ap (slice_index (x ∷ f ++ g)) (let z : suc (length f) + q ≡ suc (length f + q) = omega arith in z) ∙ index-second f g q

-- each path has places that lead along it
pub path-leads : (edges : List Edge) (s : ℕ) (us word : List ℕ) (costs : List (List ℕ)) (t : ℕ) → IsPath (StepsBy edges) s us word costs t → (ps : List ℕ) × LeadsAlong edges s ps us word costs t
path-leads edges s [] [] [] t h = ([], h)
path-leads edges s [] [] (x ∷ costs) t h = absurd h
path-leads edges s [] (x ∷ word) costs t h = absurd h
path-leads edges s (v ∷ us) [] costs t h = absurd h
path-leads edges s (v ∷ us) (x ∷ word) [] t h = absurd h
path-leads edges s (v ∷ us) (x ∷ word) (y ∷ costs) t h =
    let step = h.0 in
    let rest = path-leads edges v us word costs t h.1 in
    (step.0 ∷ rest.0, (step.1, slice_get-get_or edges step.0 step.1 step.2 ∙ ap Some step.3, step.4.0, step.4.1, rest.1))

pub run-flow : (m : Graph) (run : Run ℕ) → IsRunOf m run → (f : List ℕ) × IsFlow m run f
run-flow m run r =
    let path = path-leads m.edges 0 r.after run.word run.costs r.stop r.path in
    let end = r.last in
    let n = length m.edges in
    let k = length m.ends in
    let f = tally_of 0 (length m.edges) path.0 ++ tally_of 0 (length m.ends) (end.0 ∷ []) in
    let size = tally-length 0 (length m.edges) path.0 in (
      f,
      record {
        places = path.0;
        last = end.0;
        goes = record {
          along = record { after = r.after; stop = r.stop; states = r.states; leads = path.1 };
          ending = end.1;
          is_end = slice_get-get_or m.ends end.0 end.1 end.2 ∙ ap Some end.3;
          at = end.4.0;
          cost = end.4.1;
        };
        tally = record {
          size = simp length-append (let a = size in let b = tally-length 0 (length m.ends) (end.0 ∷ []) in omega arith);
          of_edges = λ p lt. index-first (tally_of 0 (length m.edges) path.0) (tally_of 0 (length m.ends) (end.0 ∷ [])) p (omega arith) ∙ tally-at 0 (length m.edges) p path.0 lt ∙ ap (λ n. occurrences n path.0) (let z : 0 + p ≡ p = omega arith in z);
          of_ends = λ q lt.
              ap (λ l. slice_index (tally_of 0 (length m.edges) path.0 ++ tally_of 0 (length m.ends) (end.0 ∷ [])) (l + q)) (sym size)
              ∙ index-second (tally_of 0 (length m.edges) path.0) (tally_of 0 (length m.ends) (end.0 ∷ [])) q
              ∙ tally-at 0 (length m.ends) q (end.0 ∷ []) lt ∙ ap (λ n. occurrences n (end.0 ∷ [])) (let z : 0 + q ≡ q = omega arith in z);
        };
      },
    )
