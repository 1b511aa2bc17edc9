-- What follows from well-formed edges and ends.
use Rattle.std.specs.Prelude.{◌≡◌, ℕ, ◌<◌, ◌≤◌, ◌+◌, max, ⊤, List, [], ◌∷◌, ◌++◌, length, All}
use Rattle.std.proofs.Common.{arith, refl, ap, ◌∙◌, subst}
use Rattle.sv_word.specs.Ranges.{least_of}
use Rattle.machine_core.specs.Costs.{IsCost, add_costs, cost_top}
use Rattle.machine_core.specs.Language.{RunsFrom, StopsAt}
use Rattle.machine_core.specs.LanguageLaws.{runs_width, runs_cut}
use Rattle.machine_core.specs.CostLaws.{zeros-length, top_by-at, top_by-least, top_by-push, cost_top-at, cost_top-least}
use Rattle.machine_core.specs.RunBounds.{RunsWithin, PathsWithin, step_within, end_within, runs_from_steps, paths_from_steps}
use Rattle.machine_core.specs.Runs.{IsRun}
use Rattle.machine_core.specs.RunLaws.{run_formed}
use Rattle.machine_core.specs.Edges.{EndsAt, StepsBy, AreEdgesAndEnds, edges_top, ends_top, listed_top}
use Rattle.machine_core.specs.declared.edge.Edge.{Edge}
use Rattle.machine_core.specs.declared.end.End.{End}
use Rattle.machine_core.specs.declared.run.Run.{Run}
use Rattle.sv_word.specs.Words.{greatest_character}

-- the greatest cost after one edge or one end more
pub listed_top-edge : (edges new : List Edge) (ends : List End) (e : Edge) → new ≡ edges ++ e ∷ [] → listed_top new ends ≡ max (listed_top edges ends) (cost_top e.cost)
listed_top-edge edges new ends e h = let r = top_by-push (λ (e : Edge). cost_top e.cost) edges e in rw h (omega arith)

pub listed_top-end : (edges : List Edge) (ends new : List End) (e : End) → new ≡ ends ++ e ∷ [] → listed_top edges new ≡ max (listed_top edges ends) (cost_top e.cost)
listed_top-end edges ends new e h = let r = top_by-push (λ (e : End). cost_top e.cost) ends e in rw h (omega arith)

module _ (states width : ℕ) (edges : List Edge) (ends : List End) (formed : AreEdgesAndEnds states width edges ends) where
  pub step_target : (s t c : ℕ) (cost : List ℕ) → StepsBy edges s c cost t → t < states
  step_target s t c cost m = subst (λ n. n < states) m.4.1.2 (formed.edge m.1 (m.0, m.2, m.3)).to

  pub step_character : (s t c : ℕ) (cost : List ℕ) → StepsBy edges s c cost t → c ≤ greatest_character
  step_character s t c cost m = (formed.edge m.1 (m.0, m.2, m.3)).characters c m.4.1.0

  pub step_most : (s t c : ℕ) (cost : List ℕ) → StepsBy edges s c cost t → IsCost width (edges_top edges) cost
  step_most s t c cost m = subst (IsCost width (edges_top edges)) m.4.1.1 (record {
    entries = (formed.edge m.1 (m.0, m.2, m.3)).cost;
    below = λ k. let here = cost_top-at m.1.cost k in let top = top_by-at (λ (e : Edge). cost_top e.cost) edges m.1 (m.0, m.2, m.3) in omega arith;
  })

  pub end_most : (s : ℕ) (cost : List ℕ) → EndsAt ends s cost → IsCost width (ends_top ends) cost
  end_most s cost m = subst (IsCost width (ends_top ends)) m.4.1 (record {
    entries = (formed.ending m.1 (m.0, m.2, m.3)).cost;
    below = λ k. let here = cost_top-at m.1.cost k in let top = top_by-at (λ (e : End). cost_top e.cost) ends m.1 (m.0, m.2, m.3) in omega arith;
  })

  pub step_cost : (s t c : ℕ) (cost : List ℕ) → StepsBy edges s c cost t → IsCost width (listed_top edges ends) cost
  step_cost s t c cost m = let h = step_most s t c cost m in record { entries = h.entries; below = λ k. let b = h.below k in omega arith }

  pub end_cost : (s : ℕ) (cost : List ℕ) → EndsAt ends s cost → IsCost width (listed_top edges ends) cost
  end_cost s cost m = let h = end_most s cost m in record { entries = h.entries; below = λ k. let b = h.below k in omega arith }

  -- a run goes through states alone, and its costs have one number for each register
  pub formed_run : (first : ℕ) → first < states → (run : Run ℕ) → IsRun (EndsAt ends) (StepsBy edges) first run
      → All (λ s. s < states) run.states × All (λ k. length k ≡ width) run.costs × (length run.last ≡ width)
  formed_run = run_formed (StepsBy edges) (λ s. s < states) width (λ s t c cost h m. step_target s t c cost m) (λ s t c cost h m. (step_most s t c cost m).entries)
      (EndsAt ends) (λ s cost h m. (end_most s cost m).entries)

  -- a run has one number for each register, wherever it begins, and so has a path
  pub run_width : (word : List ℕ) (s : ℕ) (cost : List ℕ) → RunsFrom (EndsAt ends) (StepsBy edges) s word cost → length cost ≡ width
  run_width word s cost r = runs_width (λ n. ⊤) (StepsBy edges) (λ s t c cost h m. tt) (EndsAt ends) width
      (λ s t c cost h m. (step_most s t c cost m).entries) (λ s cost h m. (end_most s cost m).entries) word s cost tt r

  pub path_width : (u : ℕ) (word : List ℕ) (s : ℕ) (cost : List ℕ) → RunsFrom (StopsAt width u) (StepsBy edges) s word cost → length cost ≡ width
  path_width u word s cost r = runs_width (λ n. ⊤) (StepsBy edges) (λ s t c cost h m. tt) (StopsAt width u) width
      (λ s t c cost h m. (step_most s t c cost m).entries) (λ s cost h e. ap length e.1 ∙ zeros-length width) word s cost tt r

  -- a path from a state leads to a state
  pub path_target : (word : List ℕ) (s u : ℕ) (cost : List ℕ) → s < states → RunsFrom (StopsAt width u) (StepsBy edges) s word cost → u < states
  path_target [] s u cost h r = subst (λ n. n < states) r.0 h
  path_target (c ∷ word) s u cost h r = path_target word r.1 u r.2 (step_target s r.1 c r.0 r.3) r.4

  -- a run over two words is a path over the first and a run over the second, and the costs add up
  pub run_cut : (more word : List ℕ) (s : ℕ) (cost : List ℕ) → RunsFrom (EndsAt ends) (StepsBy edges) s (word ++ more) cost
      → (t : ℕ) × (a b : List ℕ) × RunsFrom (StopsAt width t) (StepsBy edges) s word a × RunsFrom (EndsAt ends) (StepsBy edges) t more b × (cost ≡ add_costs a b)
  run_cut = runs_cut (EndsAt ends) (StepsBy edges) width run_width

  -- a run costs at most the greatest edge for each character and the greatest end
  pub listed_runs : (register : ℕ) → RunsWithin (λ s. s < states) (EndsAt ends) (StepsBy edges) register (edges_top edges) (ends_top ends)
  listed_runs register = runs_from_steps (λ s. s < states) (StepsBy edges) register (edges_top edges) (λ s t c cost h m. step_target s t c cost m)
      (λ s t c cost h m. (step_most s t c cost m).below register) (EndsAt ends) (ends_top ends) (λ s cost h m. (end_most s cost m).below register)

  pub listed_paths : (register : ℕ) → PathsWithin (λ s. s < states) width (StepsBy edges) register (edges_top edges) 0
  listed_paths register = paths_from_steps (λ s. s < states) (StepsBy edges) register (edges_top edges) (λ s t c cost h m. step_target s t c cost m)
      (λ s t c cost h m. (step_most s t c cost m).below register) width

  -- bounds on paths and runs bound the greatest cost
  pub listed_top-within : (slope base : ℕ → ℕ) (bound : ℕ)
      → ((k : ℕ) → PathsWithin (λ s. s < states) width (StepsBy edges) k (slope k) (base k))
      → ((k : ℕ) → RunsWithin (λ s. s < states) (EndsAt ends) (StepsBy edges) k (slope k) (base k))
      → ((k : ℕ) → slope k + base k ≤ bound) → listed_top edges ends ≤ bound
  listed_top-within slope base bound paths runs h =
      let e : edges_top edges ≤ bound = top_by-least (λ (e : Edge). cost_top e.cost) edges bound (λ e i. cost_top-least e.cost bound (λ k.
      let f = formed.edge e i in
      let w = step_within (λ s. s < states) width (StepsBy edges) k (slope k) (base k) (paths k) e.from e.to (least_of e.on) e.cost f.from f.cost
      (i.0, e, i.1, i.2, (refl, (f.on, refl, refl))) in
      let b = h k in omega arith)) in
      let f : ends_top ends ≤ bound = top_by-least (λ (e : End). cost_top e.cost) ends bound (λ e i. cost_top-least e.cost bound (λ k.
      let w = end_within (λ s. s < states) (EndsAt ends) (StepsBy edges) k (slope k) (base k) (runs k) e.at e.cost (formed.ending e i).at (i.0, e, i.1, i.2, (refl, refl)) in
      let b = h k in omega arith)) in
      omega arith
