-- What the runs and paths of a product cost at most.
use Rattle.std.proofs.Common.{◌≡◌, ℕ, ◌+◌, ◌*◌, ◌≤◌, List, [], ◌∷◌, length, slice_index, Contains, refl, sym, ◌∙◌, subst, arith}
use Rattle.machine_core.specs.Costs.{add_costs, zeros}
use Rattle.machine_core.specs.CostLaws.{add_costs-most, zeros-add_costs-zeros}
use Rattle.machine_core.specs.Language.{StopsAt}
use Rattle.sv_list.specs.Lists.{Contains-here, Contains-there}
use Rattle.machine_core.specs.RunBounds.{RunsWithin, PathsWithin, free_runs, free_paths}
use Rattle.machine_meet.specs.Products.{AreStates, MeetEnds, MeetSteps, EachWithin, total}
use Rattle.machine_meet.proofs.MeetRuns.{Parts, pair-out}

-- two bounds, added
sums-within : (s t b d n : ℕ) (x y cost : List ℕ) (k : ℕ) → slice_index x k ≤ s * n + b → slice_index y k ≤ t * n + d → add_costs x y ≡ cost
    → slice_index cost k ≤ (s + t) * n + (b + d)
sums-within s t b d n x y cost k p q e =
    let most = subst (λ l. slice_index l k ≤ slice_index x k + slice_index y k) e (add_costs-most x y k) in
    let spread : (s + t) * n ≡ s * n + t * n = omega arith in
    omega arith

module _ {P S : Type 0} (is_state : P → S → Type 0) (steps : P → S → ℕ → List ℕ → S → Type 0) (w register : ℕ) where
  -- without parts no step leads away, and none costs anything
  stays : (ss ts : List S) (c : ℕ) (cost : List ℕ) → AreStates is_state [] ss → MeetSteps steps w [] ss c cost ts → AreStates is_state [] ts
  stays [] ts c cost ok m = subst (AreStates is_state []) (sym m.2) tt
  stays (s ∷ ss) ts c cost ok m = absurd ok

  free_step : (ss ts : List S) (c : ℕ) (cost : List ℕ) → AreStates is_state [] ss → MeetSteps steps w [] ss c cost ts → cost ≡ zeros w
  free_step [] ts c cost ok m = m.1
  free_step (s ∷ ss) ts c cost ok m = absurd ok

  abbrev RunsOf : (P → S → List ℕ → Type 0) → P → ℕ → ℕ → Type 0
  RunsOf ends p slope base = RunsWithin (is_state p) (ends p) (steps p) register slope base

  pub meet-runs : (ends : P → S → List ℕ → Type 0) (ps : List P) (slopes bases : List ℕ) → EachWithin (RunsOf ends) ps slopes bases
      → RunsWithin (AreStates is_state ps) (MeetEnds ends w ps) (MeetSteps steps w ps) register (total slopes) (total bases)
  meet-runs ends [] [] [] h ss word cost ok run =
      free_runs (AreStates is_state []) w (MeetSteps steps w []) register stays free_step (MeetEnds ends w []) free_end ss word cost ok run
    where
      free_end : (ss : List S) (cost : List ℕ) → AreStates is_state [] ss → MeetEnds ends w [] ss cost → cost ≡ zeros w
      free_end [] cost ok e = e
      free_end (s ∷ ss) cost ok e = absurd e
  meet-runs ends [] [] (b ∷ bases) h ss word cost ok run = absurd h
  meet-runs ends [] (a ∷ slopes) bases h ss word cost ok run = absurd h
  meet-runs ends (p ∷ ps) [] bases h ss word cost ok run = absurd h
  meet-runs ends (p ∷ ps) (a ∷ slopes) [] h ss word cost ok run = absurd h
  meet-runs ends (p ∷ ps) (a ∷ slopes) (b ∷ bases) h [] word cost ok run = absurd ok
  meet-runs ends (p ∷ ps) (a ∷ slopes) (b ∷ bases) h (s ∷ ss) word cost ok run =
      let r = pair-out steps w (ends p) (MeetEnds ends w ps) (MeetEnds ends w (p ∷ ps)) (λ s ss cost e. e) p ps s ss word cost run in
      sums-within a (total slopes) b (total bases) (length word) r.0 r.1 cost register
      (h.0 s word r.0 ok.0 r.2)
      (meet-runs ends ps slopes bases h.1 ss word r.1 ok.1 r.3) r.4

  abbrev PathsOf : (P → ℕ) → P → ℕ → ℕ → Type 0
  PathsOf width p slope base = PathsWithin (is_state p) (width p) (steps p) register slope base

  pub meet-paths : (width : P → ℕ) (ps : List P) → ((p : P) → Contains ps p → width p ≡ w)
      → (slopes bases : List ℕ) → EachWithin (PathsOf width) ps slopes bases
      → PathsWithin (AreStates is_state ps) w (MeetSteps steps w ps) register (total slopes) (total bases)
  meet-paths width [] agree [] [] h t ss word cost ok run = free_paths (AreStates is_state []) w (MeetSteps steps w []) register stays free_step t ss word cost ok run
  meet-paths width [] agree [] (b ∷ bases) h t ss word cost ok run = absurd h
  meet-paths width [] agree (a ∷ slopes) bases h t ss word cost ok run = absurd h
  meet-paths width (p ∷ ps) agree [] bases h t ss word cost ok run = absurd h
  meet-paths width (p ∷ ps) agree (a ∷ slopes) [] h t ss word cost ok run = absurd h
  meet-paths width (p ∷ ps) agree (a ∷ slopes) (b ∷ bases) h t [] word cost ok run = absurd ok
  meet-paths width (p ∷ ps) agree (a ∷ slopes) (b ∷ bases) h [] (s ∷ ss) word cost ok run =
      let r = pair-out steps w (StopsAt w s) (StopsAt w ss) (StopsAt w []) none p ps s ss word cost run in
      sums-within a (total slopes) b (total bases) (length word) r.0 r.1 cost register
      (subst (λ n. PathsWithin (is_state p) n (steps p) register a b) (agree p (Contains-here p ps)) h.0 s s word r.0 ok.0 r.2)
      (meet-paths width ps (λ q c. agree q (Contains-there p ps q c)) slopes bases h.1 ss ss word r.1 ok.1 r.3) r.4
    where
      none : Parts steps w (StopsAt w s) (StopsAt w ss) (StopsAt w [])
      none u us cost e = let no = e.0 in cc
  meet-paths width (p ∷ ps) agree (a ∷ slopes) (b ∷ bases) h (t ∷ ts) (s ∷ ss) word cost ok run =
      let r = pair-out steps w (StopsAt w t) (StopsAt w ts) (StopsAt w (t ∷ ts)) stops p ps s ss word cost run in
      sums-within a (total slopes) b (total bases) (length word) r.0 r.1 cost register
      (subst (λ n. PathsWithin (is_state p) n (steps p) register a b) (agree p (Contains-here p ps)) h.0 t s word r.0 ok.0 r.2)
      (meet-paths width ps (λ q c. agree q (Contains-there p ps q c)) slopes bases h.1 ts ss word r.1 ok.1 r.3) r.4
    where
      stops : Parts steps w (StopsAt w t) (StopsAt w ts) (StopsAt w (t ∷ ts))
      stops u us cost e =
          let whole = e.0 in
          let head : u ≡ t = cc in
          let tail : us ≡ ts = cc in
          (zeros w, zeros w, (head, refl), (tail, refl), zeros-add_costs-zeros w ∙ sym e.1)
