-- Counts that are collected from the end of a run.
use Rattle.std.proofs.Common.{◌≡◌, ℕ, zero, suc, ◌+◌, ◌-◌, ◌<◌, ◌≤◌, Bool, true, false, cond, nat_eq, List, [], ◌∷◌, length, drop, replicate, slice_get, get_or, slice_index, slice_set, Some, refl, ap, sym, ◌∙◌, subst, arith, length-set}
use Rattle.std.proofs.Math.Seq.{drop-cons}
use Rattle.std.proofs.lemmas.Option.{slice_get_within, slice_get-get_or}
use Rattle.machine_core.specs.declared.edge.Edge.{Edge}
use Rattle.machine_core.specs.declared.end.End.{End}
use Rattle.machine_core.specs.declared.graph.Graph.{Graph}
use Rattle.machine_core.specs.declared.run.Run.{Run}
use Rattle.machine_core.specs.Moves.{Moves}
use Rattle.machine_core.specs.Edges.{EndsAt, StepsBy, move_of, IsWalk}
use Rattle.machine_core.specs.EdgeLaws.{formed_run}
use Rattle.machine_core.specs.Graphs.{IsRunOf}
use Rattle.machine_core.specs.Runs.{IsPath}
use Rattle.machine_core.specs.RunLaws.{path_lengths}
use Rattle.machine_core.specs.Walks.{LeadsAlong, IsRunAlong}
use Rattle.machine_core.specs.WalkLaws.{along_walk}
use Rattle.parikh_flow.specs.Counts.{occurrences, size_of}
use Rattle.parikh_flow.specs.Balance.{one_at}
use Rattle.parikh_flow.specs.Flows.{IsFlow}
use Rattle.std.proofs.lemmas.Bool.Decides.{nat_tests}
use Rattle.std.proofs.lemmas.List.{drop_all}
use Rattle.parikh_flow.proofs.CountLemmas.{one_at-is, one_at-suc}
use Rattle.parikh_flow.proofs.FlowLemmas.{walk-within}

-- the step at a place of a path
pub path-at : (edges : List Edge) (s : ℕ) (us word : List ℕ) (costs : List (List ℕ)) (t k : ℕ) → IsPath (StepsBy edges) s us word costs t → k < length word
    → StepsBy edges (get_or (s ∷ us) k 0) (get_or word k 0) (get_or costs k []) (get_or us k 0)
path-at edges s [] [] [] t k h lt = absurd (omega arith)
path-at edges s [] [] (x ∷ costs) t k h lt = absurd h
path-at edges s [] (x ∷ word) costs t k h lt = absurd h
path-at edges s (v ∷ us) [] costs t k h lt = absurd h
path-at edges s (v ∷ us) (x ∷ word) [] t k h lt = absurd h
path-at edges s (v ∷ us) (x ∷ word) (y ∷ costs) t zero h lt = h.0
path-at edges s (v ∷ us) (x ∷ word) (y ∷ costs) t (suc k) h lt = path-at edges v us word costs t k h.1 (omega arith)

pub path-end : (edges : List Edge) (s : ℕ) (us word : List ℕ) (costs : List (List ℕ)) (t : ℕ) → IsPath (StepsBy edges) s us word costs t → get_or (s ∷ us) (length word) 0 ≡ t
path-end edges s [] [] [] t h = h
path-end edges s [] [] (x ∷ costs) t h = absurd h
path-end edges s [] (x ∷ word) costs t h = absurd h
path-end edges s (v ∷ us) [] costs t h = absurd h
path-end edges s (v ∷ us) (x ∷ word) [] t h = absurd h
path-end edges s (v ∷ us) (x ∷ word) (y ∷ costs) t h = path-end edges v us word costs t h.1

-- a count that rises by one
pub index-rise : (f : List ℕ) (p q : ℕ) → p < length f → slice_index (slice_set f p (slice_index f p + 1)) q ≡ slice_index f q + one_at q p
index-rise [] p q h = absurd (omega arith)
index-rise (x ∷ f) zero zero h = omega arith
index-rise (x ∷ f) zero (suc q) h = let t : one_at (suc q) 0 ≡ 0 = ap (λ b. cond b 1 0) (let u : nat_eq 0 (suc q) ≡ false = grind (arith, nat_tests) in u) in omega arith
index-rise (x ∷ f) (suc p) zero h = let t : one_at 0 (suc p) ≡ 0 = ap (λ b. cond b 1 0) (let u : nat_eq (suc p) 0 ≡ false = grind (arith, nat_tests) in u) in omega arith
index-rise (x ∷ f) (suc p) (suc q) h = let r = index-rise f p q (omega arith) in let o = one_at-suc q p in omega arith

module _ (m : Graph) (states : List ℕ) (after word : List ℕ) (costs : List (List ℕ)) (stop : ℕ) where
  -- what is counted from place k of the run on
  pub record IsCounted (k : ℕ) (counts : List ℕ) : Type 0 where
    pub within : k ≤ length word
    pub size : length counts ≡ size_of m
    pub places : List ℕ
    pub leads : LeadsAlong m.edges (get_or states k 0) places (drop k after) (drop k word) (drop k costs) stop
    pub tally : (p : ℕ) → slice_index counts p ≡ occurrences p places
    pub few : (p : ℕ) → slice_index counts p + k ≤ length word

  module _ (are : states ≡ 0 ∷ after) (path : IsPath (StepsBy m.edges) 0 after word costs stop) where
    pub counted-start : (counts : List ℕ) → counts ≡ replicate (length m.edges + length m.ends) 0 → IsCounted (length word) counts
    counted-start counts e =
        let l = path_lengths (StepsBy m.edges) 0 after word costs stop path in
        rw e (record {
          within = omega arith;
          size = length-noughts (length m.edges + length m.ends);
          places = [];
          leads = rw (drop_all (length word) after (let a = l.0 in omega arith), drop_all (length word) word (omega arith), drop_all (length word) costs (let b = l.1 in omega arith))
              (ap (λ l. get_or l (length word) 0) are ∙ path-end m.edges 0 after word costs stop path);
          tally = λ p. noughts-at (length m.edges + length m.ends) p;
          few = λ p. (let z = noughts-at (length m.edges + length m.ends) p in omega arith);
        })
      where
        length-noughts : (n : ℕ) → length (replicate {A = ℕ} n 0) ≡ n
        length-noughts zero = refl
        length-noughts (suc n) = ap suc (length-noughts n)

        noughts-at : (n p : ℕ) → slice_index (replicate {A = ℕ} n 0) p ≡ 0
        noughts-at zero zero = refl
        noughts-at zero (suc p) = refl
        noughts-at (suc n) zero = refl
        noughts-at (suc n) (suc p) = noughts-at n p

    pub counted-step : (k : ℕ) (counts new : List ℕ) (place c : ℕ) → 0 < k → IsCounted k counts → get_or word (k - 1) 0 ≡ c
        → (e : Edge) × (slice_get m.edges place ≡ Some e) × (e.from ≡ get_or states (k - 1) 0) × Moves c (get_or costs (k - 1) []) (get_or states k 0) (move_of e)
        → new ≡ slice_set counts place (slice_index counts place + 1) → IsCounted (k - 1) new
    counted-step k counts new place c some h is e push =
        let l = path_lengths (StepsBy m.edges) 0 after word costs stop path in
        let w = h.within in
        let one : suc (k - 1) ≡ k = omega arith in
        let inside : place < length counts = (let b = slice_get_within m.edges place e.0 e.1 in let s = h.size in omega arith) in
        let da = drop-cons after (k - 1) 0 (let a = l.0 in omega arith) ∙ ap (λ n. get_or after (k - 1) 0 ∷ drop n after) one in
        let dw = drop-cons word (k - 1) 0 (omega arith) ∙ ap (λ n. get_or word (k - 1) 0 ∷ drop n word) one in
        let dc = drop-cons costs (k - 1) [] (let b = l.1 in omega arith) ∙ ap (λ n. get_or costs (k - 1) [] ∷ drop n costs) one in
        let next : get_or states k 0 ≡ get_or after (k - 1) 0 = ap (λ l. get_or l k 0) are ∙ ap (λ n. get_or (0 ∷ after) n 0) (sym one) in
        rw push (record {
          within = omega arith;
          size = length-set counts place (slice_index counts place + 1) ∙ h.size;
          places = place ∷ h.places;
          leads = rw (da, dw, dc) (
            e.0,
            e.1,
            e.2,
            (subst (λ x. Moves x (get_or costs (k - 1) []) (get_or after (k - 1) 0) (move_of e.0)) (sym is) (subst (λ u. Moves c (get_or costs (k - 1) []) u (move_of e.0)) next e.3)),
            subst (λ u. LeadsAlong m.edges u h.places (drop k after) (drop k word) (drop k costs) stop) next h.leads,
          );
          tally = λ p. (let r = index-rise counts place p inside in let t = h.tally p in omega arith);
          few = λ p. (let r = index-rise counts place p inside in let f = h.few p in let o = one_at-most p place in omega arith);
        })
      where
        one_at-most : (p q : ℕ) → one_at p q ≤ 1
        one_at-most p q = by (nat_eq q p)
          where
            by : (b : Bool) → cond b 1 0 ≤ 1
            by true = omega arith
            by false = omega arith

    pub counted-flow : (run : Run ℕ) (counts new : List ℕ) (last : ℕ) (e : End) → run.states ≡ 0 ∷ after → run.word ≡ word → run.costs ≡ costs → IsCounted 0 counts → slice_get m.ends last ≡ Some e → e.at ≡ stop → e.cost ≡ run.last
        → new ≡ slice_set counts (length m.edges + last) 1 → IsFlow m run new
    counted-flow run counts new last e rs rw' rc h is at cost push =
        let b = slice_get_within m.ends last e is in
        let along : IsRunAlong m.edges h.places run = record { after = after; stop = stop; states = rs; leads = rw (rw', rc) (subst (λ u. LeadsAlong m.edges u h.places after word costs stop) (ap (λ l. get_or l 0 0) are) h.leads) } in
        let walk = along_walk m.edges h.places run along in
        let none : slice_index counts (length m.edges + last) ≡ 0 = h.tally (length m.edges + last) ∙ no-place (length m.edges + last) walk (omega arith) in
        let size = h.size in
        let same : new ≡ slice_set counts (length m.edges + last) (slice_index counts (length m.edges + last) + 1) = push ∙ ap (slice_set counts (length m.edges + last)) (omega arith) in
        record {
          places = h.places;
          last = last;
          goes = record { along = along; ending = e; is_end = is; at = at; cost = cost };
          tally = rw same (record {
            size = length-set counts (length m.edges + last) (slice_index counts (length m.edges + last) + 1) ∙ h.size;
            of_edges = λ p lt. (let r = index-rise counts (length m.edges + last) p (omega arith) in let t = h.tally p in let o = apart p (length m.edges + last) (omega arith) in omega arith);
            of_ends = λ q lt. (let r = index-rise counts (length m.edges + last) (length m.edges + q) (omega arith) in let t = h.tally (length m.edges + q) in
                let z = no-place (length m.edges + q) walk (omega arith) in let o = shifted (length m.edges) q last in omega arith);
          });
        }
      where
        no-place : (p : ℕ) → IsWalk m.edges 0 h.places stop → length m.edges ≤ p → occurrences p h.places ≡ 0
        no-place p walk le = by_count (occurrences p h.places) refl
          where
            by_count : (n : ℕ) → occurrences p h.places ≡ n → occurrences p h.places ≡ 0
            by_count zero e = e
            by_count (suc n) e = absurd (let b = walk-within m.edges 0 h.places stop p walk (omega arith) in omega arith)

        apart : (p q : ℕ) → p < q → one_at p q ≡ 0
        apart p q lt = by_head (one_at p q) refl
          where
            by_head : (n : ℕ) → one_at p q ≡ n → one_at p q ≡ 0
            by_head zero e = e
            by_head (suc n) e = absurd (let same = one_at-is p q (omega arith) in omega arith)

        shifted : (n p q : ℕ) → one_at (n + p) (n + q) ≡ one_at p q
        shifted zero p q = ap (λ a. one_at a (0 + q)) (let z : 0 + p ≡ p = omega arith in z) ∙ ap (one_at p) (let z : 0 + q ≡ q = omega arith in z)
        shifted (suc n) p q =
            ap (λ a. one_at a (suc n + q)) (let z : suc n + p ≡ suc (n + p) = omega arith in z) ∙ ap (one_at (suc (n + p))) (let z : suc n + q ≡ suc (n + q) = omega arith in z)
            ∙ one_at-suc (n + p) (n + q) ∙ shifted n p q

drop-one : (x : ℕ) (xs : List ℕ) → drop 1 (x ∷ xs) ≡ xs
drop-one x [] = refl
drop-one x (y ∷ ys) = refl

-- what is counted of a run from place k on
abbrev pub Collected : Graph → Run ℕ → ℕ → List ℕ → Type 0
Collected m run k counts = IsCounted m run.states (drop 1 run.states) run.word run.costs (get_or run.states (length run.word) 0) k counts

module _ (m : Graph) (run : Run ℕ) (is : IsRunOf m run) where
  shape : run.states ≡ 0 ∷ drop 1 run.states
  shape = is.states ∙ ap (λ l. 0 ∷ l) (sym (ap (drop 1) is.states ∙ drop-one 0 is.after))

  path : IsPath (StepsBy m.edges) 0 (drop 1 run.states) run.word run.costs (get_or run.states (length run.word) 0)
  path =
      let a : is.after ≡ drop 1 run.states = sym (ap (drop 1) is.states ∙ drop-one 0 is.after) in
      let s : is.stop ≡ get_or run.states (length run.word) 0 = sym (ap (λ l. get_or l (length run.word) 0) is.states ∙ path-end m.edges 0 is.after run.word run.costs is.stop is.path) in
      subst (λ t. IsPath (StepsBy m.edges) 0 (drop 1 run.states) run.word run.costs t) s (subst (λ us. IsPath (StepsBy m.edges) 0 us run.word run.costs is.stop) a is.path)

  pub states-size : length run.states ≡ length run.word + 1
  states-size = let l = path_lengths (StepsBy m.edges) 0 is.after run.word run.costs is.stop is.path in let e = ap length is.states in let a = l.0 in omega arith

  pub costs-size : length run.costs ≡ length run.word
  costs-size = (path_lengths (StepsBy m.edges) 0 is.after run.word run.costs is.stop is.path).1

  pub state-inside : (k : ℕ) → k ≤ length run.word → get_or run.states k 0 < m.states
  state-inside k le = (formed_run m.states m.registers m.edges m.ends m.formed 0 m.started run is).0 k 0 (let s = states-size in omega arith)

  pub last-ends : EndsAt m.ends (get_or run.states (length run.word) 0) run.last
  last-ends =
      let s : is.stop ≡ get_or run.states (length run.word) 0 = sym (ap (λ l. get_or l (length run.word) 0) is.states ∙ path-end m.edges 0 is.after run.word run.costs is.stop is.path) in
      subst (λ t. EndsAt m.ends t run.last) s is.last

  -- the step before place k
  pub step-before : (k c next : ℕ) → 0 < k → k ≤ length run.word → get_or run.word (k - 1) 0 ≡ c → next ≡ k → (d : List ℕ) → StepsBy m.edges (get_or run.states (k - 1) 0) c (get_or run.costs (k - 1) d) (get_or run.states next 0)
  step-before k c next some le w n d =
      let one : suc (k - 1) ≡ k = omega arith in
      let st = path-at m.edges 0 (drop 1 run.states) run.word run.costs (get_or run.states (length run.word) 0) (k - 1) path (omega arith) in
      let a = ap (λ l. get_or l (k - 1) 0) shape in
      let b : get_or run.states next 0 ≡ get_or (drop 1 run.states) (k - 1) 0 = ap (λ l. get_or l next 0) shape ∙ ap (λ i. get_or (0 ∷ drop 1 run.states) i 0) (n ∙ sym one) in
      let e = get-default run.costs (k - 1) [] d (let s = costs-size in omega arith) in
      rw (a, b, sym w) (subst (λ x. StepsBy m.edges (get_or (0 ∷ drop 1 run.states) (k - 1) 0) (get_or run.word (k - 1) 0) x (get_or (drop 1 run.states) (k - 1) 0)) e st)
    where
      get-default : {X : Type 0} (xs : List X) (i : ℕ) (d e : X) → i < length xs → get_or xs i d ≡ get_or xs i e
      get-default [] i d e h = absurd (omega arith)
      get-default (x ∷ xs) zero d e h = refl
      get-default (x ∷ xs) (suc i) d e h = get-default xs i d e (omega arith)

  pub collected-start : (counts : List ℕ) → counts ≡ replicate (length m.edges + length m.ends) 0 → Collected m run (length run.word) counts
  collected-start counts e = counted-start m run.states (drop 1 run.states) run.word run.costs (get_or run.states (length run.word) 0) shape path counts e

  pub collected-step : (k next : ℕ) (counts new : List ℕ) (place c : ℕ) (d : List ℕ) → 0 < k → next ≡ k → Collected m run k counts → slice_get run.word (k - 1) ≡ Some c
      → (e : Edge) × (slice_get m.edges place ≡ Some e) × (e.from ≡ get_or run.states (k - 1) 0) × Moves c (get_or run.costs (k - 1) d) (get_or run.states next 0) (move_of e)
      → new ≡ slice_set counts place (slice_index counts place + 1) → Collected m run (k - 1) new
  collected-step k next counts new place c d some n h w e push =
      let le = h.within in
      let x = slice_get-get_or run.word (k - 1) 0 (omega arith) in
      let f = get-default run.costs (k - 1) d [] (let s = costs-size in omega arith) in
      counted-step m run.states (drop 1 run.states) run.word run.costs (get_or run.states (length run.word) 0) shape path k counts new place c some h (let same : get_or run.word (k - 1) 0 ≡ c = cc in same)
      (e.0, e.1, e.2, subst (λ y. Moves c y (get_or run.states k 0) (move_of e.0)) f (subst (λ i. Moves c (get_or run.costs (k - 1) d) (get_or run.states i 0) (move_of e.0)) n e.3)) push
    where
      get-default : {X : Type 0} (xs : List X) (i : ℕ) (d e : X) → i < length xs → get_or xs i d ≡ get_or xs i e
      get-default [] i d e h = absurd (omega arith)
      get-default (x ∷ xs) zero d e h = refl
      get-default (x ∷ xs) (suc i) d e h = get-default xs i d e (omega arith)

  pub collected-flow : (k : ℕ) (counts new : List ℕ) (last : ℕ) → k ≤ 0 → Collected m run k counts
      → (e : End) × (slice_get m.ends last ≡ Some e) × (e.at ≡ get_or run.states (length run.word) 0) × (e.cost ≡ run.last) → new ≡ slice_set counts (length m.edges + last) 1 → IsFlow m run new
  collected-flow k counts new last z h e push =
      let zero' : k ≡ 0 = omega arith in
      counted-flow m run.states (drop 1 run.states) run.word run.costs (get_or run.states (length run.word) 0) shape path run counts new last e.0 shape refl refl
      (subst (λ n. Collected m run n counts) zero' h) e.1 e.2 e.3 push

  pub place-inside : (counts : List ℕ) (k place : ℕ) → Collected m run k counts → place < length m.edges → place < length counts
  place-inside counts k place h lt = let s = h.size in omega arith

  -- as the loop reads them
  pub step-read : (states : List ℕ) (costs : List (List ℕ)) (k from to c : ℕ) (cost : List ℕ) → states ≡ run.states → costs ≡ run.costs → 0 < k → k ≤ length run.word
      → slice_get run.word (k - 1) ≡ Some c → from ≡ slice_index states (k - 1) → to ≡ slice_index states (k - 1 + 1) → slice_get costs (k - 1) ≡ Some cost → StepsBy m.edges from c cost to
  step-read states costs k from to c cost es ec some le w ef et rc =
      let x = slice_get-get_or run.word (k - 1) 0 (omega arith) in
      let y = slice_get-get_or run.costs (k - 1) [] (let s = costs-size in omega arith) in
      let rc' = subst (λ l. slice_get l (k - 1) ≡ Some cost) ec rc in
      let is : get_or run.costs (k - 1) [] ≡ cost = cc in
      let cw : get_or run.word (k - 1) 0 ≡ c = cc in
      let f : from ≡ get_or run.states (k - 1) 0 = ef ∙ ap (λ l. slice_index l (k - 1)) es in
      let t : to ≡ get_or run.states (k - 1 + 1) 0 = et ∙ ap (λ l. slice_index l (k - 1 + 1)) es in
      rw (f, t, sym is) (step-before k c (k - 1 + 1) some le cw (omega arith) [])

  pub step-collected : (states : List ℕ) (costs : List (List ℕ)) (k from to c : ℕ) (cost counts all new : List ℕ) (place count : ℕ) → states ≡ run.states → costs ≡ run.costs → 0 < k → Collected m run k counts
      → slice_get run.word (k - 1) ≡ Some c → from ≡ slice_index states (k - 1) → to ≡ slice_index states (k - 1 + 1) → slice_get costs (k - 1) ≡ Some cost
      → (e : Edge) × (slice_get m.edges place ≡ Some e) × (e.from ≡ from) × Moves c cost to (move_of e)
      → all ≡ counts → count ≡ slice_index all place → new ≡ slice_set counts place (count + 1) → Collected m run (k - 1) new
  step-collected states costs k from to c cost counts all new place count es ec some h w ef et rc e ea en push =
      let le = h.within in
      let y = slice_get-get_or run.costs (k - 1) [] (let s = costs-size in omega arith) in
      let rc' = subst (λ l. slice_get l (k - 1) ≡ Some cost) ec rc in
      let is : cost ≡ get_or run.costs (k - 1) [] = cc in
      let f : from ≡ get_or run.states (k - 1) 0 = ef ∙ ap (λ l. slice_index l (k - 1)) es in
      let t : to ≡ get_or run.states (k - 1 + 1) 0 = et ∙ ap (λ l. slice_index l (k - 1 + 1)) es in
      collected-step k (k - 1 + 1) counts new place c [] some (omega arith) h w
      (e.0, e.1, e.2 ∙ f, subst (λ u. Moves c (get_or run.costs (k - 1) []) u (move_of e.0)) t (subst (λ q. Moves c q to (move_of e.0)) is e.3))
      (push ∙ ap (λ n. slice_set counts place (n + 1)) (en ∙ ap (λ l. slice_index l place) ea))
