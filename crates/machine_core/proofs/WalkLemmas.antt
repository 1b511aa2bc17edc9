-- A run that is put together along edges.
use Rattle.std.proofs.Common.{◌≡◌, ℕ, ◌+◌, ◌-◌, ◌<◌, ◌≤◌, List, [], ◌∷◌, ◌++◌, length, take, reverse, Contains, slice_get, get_or, Some, IsTrue, refl, ap, sym, ◌∙◌, subst, arith}
use Rattle.std.proofs.lemmas.List.{reverse-append, append_assoc, append-nil, take_all, take_more}
use Rattle.std.proofs.lemmas.Option.{slice_get_within}
use Rattle.sv_word.specs.Ranges.{least_of, in_ranges}
use Rattle.sv_word.specs.Words.{greatest_character}
use Rattle.machine_core.specs.declared.edge.Edge.{Edge}
use Rattle.machine_core.specs.declared.graph.Graph.{Graph}
use Rattle.machine_core.specs.declared.run.Run.{Run}
use Rattle.machine_core.specs.Edges.{IsWalk, move_of}
use Rattle.sv_list.specs.Lists.{slice_get-contains, slice_get-read}
use Rattle.machine_core.specs.Moves.{Moves}
use Rattle.machine_core.specs.Walks.{LeadsAlong, IsRunAlong}

abbrev pub run_of : List ℕ → List ℕ → List (List ℕ) → List ℕ → Run ℕ
run_of word states costs last = record { word = word; states = states; costs = costs; last = last }

-- runs of the same parts
pub run-parts : (w v s t : List ℕ) (k j : List (List ℕ)) (last : List ℕ) → w ≡ v → s ≡ t → k ≡ j → run_of w s k last ≡ run_of v t j last
run-parts w v s t k j last e f g = ap (λ x. run_of x s k last) e ∙ ap (λ x. run_of v x k last) f ∙ ap (λ x. run_of v t x last) g

-- one edge more at the end
leads-push : (edges : List Edge) (s : ℕ) (ps us word : List ℕ) (costs : List (List ℕ)) (t p c : ℕ) (k : List ℕ) (u : ℕ) (e : Edge)
    → LeadsAlong edges s ps us word costs t → slice_get edges p ≡ Some e → e.from ≡ t → Moves c k u (move_of e)
    → LeadsAlong edges s (ps ++ p ∷ []) (us ++ u ∷ []) (word ++ c ∷ []) (costs ++ k ∷ []) u
leads-push edges s [] [] [] [] t p c k u e l g f m = (e, g, f ∙ sym l, m, refl)
leads-push edges s [] [] [] (x ∷ costs) t p c k u e l g f m = absurd l
leads-push edges s [] [] (x ∷ word) costs t p c k u e l g f m = absurd l
leads-push edges s [] (x ∷ us) word costs t p c k u e l g f m = absurd l
leads-push edges s (q ∷ ps) [] word costs t p c k u e l g f m = absurd l
leads-push edges s (q ∷ ps) (x ∷ us) [] costs t p c k u e l g f m = absurd l
leads-push edges s (q ∷ ps) (x ∷ us) (y ∷ word) [] t p c k u e l g f m = absurd l
leads-push edges s (q ∷ ps) (x ∷ us) (y ∷ word) (z ∷ costs) t p c k u e l g f m =
    (l.0, l.1, l.2, l.3, leads-push edges x ps us word costs t p c k u e l.4 g f m)

reverse-take : (xs : List ℕ) (k : ℕ) → 0 < k → k ≤ length xs → reverse (take k xs) ≡ get_or xs (k - 1) 0 ∷ reverse (take (k - 1) xs)
reverse-take xs k some le =
    let one : k ≡ k - 1 + 1 = omega arith in
    ap (λ n. reverse (take n xs)) one ∙ ap reverse (take_more xs (k - 1) 0 (omega arith)) ∙ reverse-append (take (k - 1) xs) (get_or xs (k - 1) 0 ∷ [])

-- the run so far, and the edges that are still to come, the last one first
pub record IsFollowed (edges : List Edge) (back last : List ℕ) (k : ℕ) (run : Run ℕ) : Type 0 where
  pub within : k ≤ length back
  pub cost : run.last ≡ last
  pub gone : List ℕ
  pub along : IsRunAlong edges gone run
  pub stop : ℕ
  pub rest : IsWalk edges along.stop (reverse (take k back)) stop
  pub whole : gone ++ reverse (take k back) ≡ reverse back

pub follow-start : (edges : List Edge) (back last end : List ℕ) (run : Run ℕ) → (t : ℕ) × IsWalk edges 0 (reverse back) t → end ≡ last → run ≡ run_of [] (0 ∷ []) [] end
    → IsFollowed edges back last (length back) run
follow-start edges back last end run w same e =
    let full = take_all (length back) back (omega arith) in
    subst (IsFollowed edges back last (length back)) (sym e) (record {
      within = omega arith;
      cost = same;
      gone = [];
      along = record { after = []; stop = 0; states = refl; leads = refl };
      stop = w.0;
      rest = subst (λ l. IsWalk edges 0 (reverse l) w.0) (sym full) w.1;
      whole = ap reverse full;
    })

module _ (m : Graph) (back last : List ℕ) (k : ℕ) (run : Run ℕ) (some : 0 < k) (f : IsFollowed m.edges back last k run) where
  next : IsWalk m.edges f.along.stop (get_or back (k - 1) 0 ∷ reverse (take (k - 1) back)) f.stop
  next = subst (λ l. IsWalk m.edges f.along.stop l f.stop) (reverse-take back k some f.within) f.rest

  below : get_or back (k - 1) 0 < length m.edges
  below = slice_get_within m.edges (get_or back (k - 1) 0) next.0 next.1

  pub follow-below : (all : List Edge) → all ≡ m.edges → get_or back (k - 1) 0 < length all
  follow-below all same = rw same below

  module _ (all : List Edge) (d : Edge) (same : all ≡ m.edges) (is : d ≡ get_or all (get_or back (k - 1) 0) d) where
    stands : slice_get m.edges (get_or back (k - 1) 0) ≡ Some d
    stands = slice_get-read m.edges all (get_or back (k - 1) 0) d below same is

    inside : Contains m.edges d
    inside = slice_get-contains m.edges (get_or back (k - 1) 0) d stands

    pub follow-character : (c : ℕ) → c ≡ least_of d.on → c ≤ greatest_character
    follow-character c e = let g = m.formed.edge d inside in rw e (g.characters (least_of d.on) g.on)

    pub follow-step : (c : ℕ) (more : Run ℕ) → c ≡ least_of d.on → more ≡ run_of (run.word ++ c ∷ []) (run.states ++ d.to ∷ []) (run.costs ++ d.cost ∷ []) run.last
        → IsFollowed m.edges back last (k - 1) more
    follow-step c more e is' =
        let first : next.0 ≡ d = (let a = next.1 in let b = stands in cc) in
        let on : IsTrue (in_ranges d.on c) = rw e (m.formed.edge d inside).on in
        let within = f.within in
        subst (IsFollowed m.edges back last (k - 1)) (sym is') (record {
          within = omega arith;
          cost = f.cost;
          gone = f.gone ++ get_or back (k - 1) 0 ∷ [];
          along = record {
            after = f.along.after ++ d.to ∷ [];
            stop = d.to;
            states = ap (λ l. l ++ d.to ∷ []) f.along.states;
            leads = leads-push m.edges 0 f.gone f.along.after run.word run.costs f.along.stop (get_or back (k - 1) 0) c d.cost d.to d f.along.leads stands
                (subst (λ (x : Edge). x.from ≡ f.along.stop) first next.2) (on, refl, refl);
          };
          stop = f.stop;
          rest = subst (λ (x : Edge). IsWalk m.edges x.to (reverse (take (k - 1) back)) f.stop) first next.3;
          whole = append_assoc f.gone (get_or back (k - 1) 0 ∷ []) (reverse (take (k - 1) back))
              ∙ ap (λ l. f.gone ++ l) (sym (reverse-take back k some f.within)) ∙ f.whole;
        })

pub follow-end : (edges : List Edge) (back last : List ℕ) (k : ℕ) (run : Run ℕ) → k ≡ 0 → IsFollowed edges back last k run → IsRunAlong edges (reverse back) run
follow-end edges back last k run z f =
    let whole = subst (λ n. f.gone ++ reverse (take n back) ≡ reverse back) z f.whole in
    subst (λ l. IsRunAlong edges l run) (sym (append-nil f.gone) ∙ whole) f.along
