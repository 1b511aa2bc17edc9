-- Laws of runs and paths: a run and its total are a pair of the language, and each pair has a run.
use Rattle.std.specs.Prelude.{◌≡◌, ℕ, suc, List, [], ◌∷◌, ◌++◌, length, All}
use Rattle.std.proofs.Common.{refl, sym, ap, ◌∙◌, subst}
use Rattle.std.proofs.lemmas.List.Elements.{All-nil, All-cons}
use Rattle.machine_core.specs.declared.run.Run.{Run}
use Rattle.machine_core.specs.Costs.{add_costs, zeros, total_of}
use Rattle.machine_core.specs.Language.{RunsFrom, StopsAt}
use Rattle.machine_core.specs.Runs.{IsPath, IsRun, run_total}

module _ {S : Type 0} (steps : S → ℕ → List ℕ → S → Type 0) where
  -- one step more at the end
  pub path_push : (s : S) (us : List S) (word : List ℕ) (costs : List (List ℕ)) (t : S) (c : ℕ) (k : List ℕ) (u : S)
      → IsPath steps s us word costs t → steps t c k u → IsPath steps s (us ++ u ∷ []) (word ++ c ∷ []) (costs ++ k ∷ []) u
  path_push s [] [] [] t c k u h st = (subst (λ x. steps x c k u) (sym h) st, refl)
  path_push s [] [] (x ∷ costs) t c k u h st = absurd h
  path_push s [] (x ∷ word) costs t c k u h st = absurd h
  path_push s (v ∷ us) [] costs t c k u h st = absurd h
  path_push s (v ∷ us) (x ∷ word) [] t c k u h st = absurd h
  path_push s (v ∷ us) (x ∷ word) (y ∷ costs) t c k u h st = (h.0, path_push v us word costs t c k u h.1 st)

  -- one path after another
  pub path_join : (s : S) (us : List S) (word : List ℕ) (costs : List (List ℕ)) (t : S) (vs : List S) (more : List ℕ) (costs' : List (List ℕ)) (u : S)
      → IsPath steps s us word costs t → IsPath steps t vs more costs' u → IsPath steps s (us ++ vs) (word ++ more) (costs ++ costs') u
  path_join s [] [] [] t vs more costs' u h g = subst (λ x. IsPath steps x vs more costs' u) (sym h) g
  path_join s [] [] (x ∷ costs) t vs more costs' u h g = absurd h
  path_join s [] (x ∷ word) costs t vs more costs' u h g = absurd h
  path_join s (v ∷ us) [] costs t vs more costs' u h g = absurd h
  path_join s (v ∷ us) (x ∷ word) [] t vs more costs' u h g = absurd h
  path_join s (v ∷ us) (x ∷ word) (y ∷ costs) t vs more costs' u h g = (h.0, path_join v us word costs t vs more costs' u h.1 g)

  -- a path has one state, one character and one cost for each step
  pub path_lengths : (s : S) (us : List S) (word : List ℕ) (costs : List (List ℕ)) (t : S) → IsPath steps s us word costs t
      → (length us ≡ length word) × (length costs ≡ length word)
  path_lengths s [] [] [] t h = (refl, refl)
  path_lengths s [] [] (x ∷ costs) t h = absurd h
  path_lengths s [] (x ∷ word) costs t h = absurd h
  path_lengths s (v ∷ us) [] costs t h = absurd h
  path_lengths s (v ∷ us) (x ∷ word) [] t h = absurd h
  path_lengths s (v ∷ us) (x ∷ word) (y ∷ costs) t h = let r = path_lengths v us word costs t h.1 in (ap suc r.0, ap suc r.1)

  module _ (ends : S → List ℕ → Type 0) where
    -- a path to a state where the word may end is a pair of the language
    pub path_accepted : (s : S) (us : List S) (word : List ℕ) (costs : List (List ℕ)) (t : S) (last : List ℕ)
        → IsPath steps s us word costs t → ends t last → RunsFrom ends steps s word (total_of costs last)
    path_accepted s [] [] [] t last h e = subst (λ x. ends x last) (sym h) e
    path_accepted s [] [] (x ∷ costs) t last h e = absurd h
    path_accepted s [] (x ∷ word) costs t last h e = absurd h
    path_accepted s (v ∷ us) [] costs t last h e = absurd h
    path_accepted s (v ∷ us) (x ∷ word) [] t last h e = absurd h
    path_accepted s (v ∷ us) (x ∷ word) (y ∷ costs) t last h e = (y, v, total_of costs last, h.0, path_accepted v us word costs t last h.1 e, refl)

    -- and each pair has a path
    pub accepted_path : (word : List ℕ) (s : S) (cost : List ℕ) → RunsFrom ends steps s word cost
        → (us : List S) × (costs : List (List ℕ)) × (t : S) × (last : List ℕ) × IsPath steps s us word costs t × ends t last × (total_of costs last ≡ cost)
    accepted_path [] s cost r = ([], [], s, cost, refl, r, refl)
    accepted_path (c ∷ word) s cost r =
        let p = accepted_path word r.1 r.2 r.4 in
        (r.1 ∷ p.0, r.0 ∷ p.1, p.2, p.3, (r.3, p.4), p.5, ap (add_costs r.0) p.6 ∙ sym r.5)

    pub run_accepted : (first : S) (run : Run S) → IsRun ends steps first run → RunsFrom ends steps first run.word (run_total run)
    run_accepted first run r = path_accepted first r.after run.word run.costs r.stop run.last r.path r.last

    pub accepted_run : (first : S) (word cost : List ℕ) → RunsFrom ends steps first word cost
        → (run : Run S) × IsRun ends steps first run × (run.word ≡ word) × (run_total run ≡ cost)
    accepted_run first word cost r =
        let p = accepted_path word first cost r in (
          record { word = word; states = first ∷ p.0; costs = p.1; last = p.3 },
          record { after = p.0; stop = p.2; states = refl; path = p.4; last = p.5 },
          refl,
          p.6,
        )

  -- paths to `t` are the pairs of the language that ends in `t` alone
  pub path_stops : (width : ℕ) (s : S) (us : List S) (word : List ℕ) (costs : List (List ℕ)) (t : S)
      → IsPath steps s us word costs t → RunsFrom (StopsAt width t) steps s word (total_of costs (zeros width))
  path_stops width s us word costs t h = path_accepted (StopsAt width t) s us word costs t (zeros width) h (refl, refl)

  module _ (is_state : S → Type 0) (width : ℕ) (step_is_state : (s t : S) (c : ℕ) (cost : List ℕ) → is_state s → steps s c cost t → is_state t)
      (step_width : (s t : S) (c : ℕ) (cost : List ℕ) → is_state s → steps s c cost t → length cost ≡ width) where
    abbrev HasWidth : List ℕ → Type 0
    HasWidth cost = length cost ≡ width

    -- a path goes through states alone, and each step costs one number for each register
    pub path_formed : (s : S) (us : List S) (word : List ℕ) (costs : List (List ℕ)) (t : S) → is_state s → IsPath steps s us word costs t
        → All is_state us × All (λ k. length k ≡ width) costs × is_state t
    path_formed s [] [] [] t h p = (All-nil is_state, All-nil HasWidth, subst is_state p h)
    path_formed s [] [] (x ∷ costs) t h p = absurd p
    path_formed s [] (x ∷ word) costs t h p = absurd p
    path_formed s (v ∷ us) [] costs t h p = absurd p
    path_formed s (v ∷ us) (x ∷ word) [] t h p = absurd p
    path_formed s (v ∷ us) (x ∷ word) (y ∷ costs) t h p =
        let here = step_is_state s v x y h p.0 in
        let rest = path_formed v us word costs t here p.1 in
        (All-cons is_state v us here rest.0, All-cons HasWidth y costs (step_width s v x y h p.0) rest.1, rest.2)

    pub run_formed : (ends : S → List ℕ → Type 0) → ((s : S) (cost : List ℕ) → is_state s → ends s cost → length cost ≡ width)
        → (first : S) → is_state first → (run : Run S) → IsRun ends steps first run
        → All is_state run.states × All (λ k. length k ≡ width) run.costs × (length run.last ≡ width)
    run_formed ends end_width first h run r =
        let p = path_formed first r.after run.word run.costs r.stop h r.path in
        (subst (All is_state) (sym r.states) (All-cons is_state first r.after h p.0), p.1, end_width r.stop run.last p.2 r.last)
