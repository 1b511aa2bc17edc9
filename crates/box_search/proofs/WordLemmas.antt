-- A machine that has a word has a short one: where a state comes twice, what lies between is left out.
use Rattle.std.proofs.Common.{◌≡◌, ℕ, suc, ◌<◌, Bool, true, false, eqb, List, [], ◌∷◌, length, refl, ap, sym, ◌∙◌, subst, arith}
use Rattle.std.specs.List.{list_any}
use Rattle.std.proofs.lemmas.Bool.Decides.{nat_tests}
use Rattle.sv_list.specs.Bools.{or-elim}
use Rattle.machine_core.specs.declared.graph.Graph.{Graph}
use Rattle.machine_core.specs.Costs.{add_costs}
use Rattle.machine_core.specs.Edges.{EndsAt, StepsBy}
use Rattle.machine_core.specs.EdgeLaws.{step_target}
use Rattle.machine_core.specs.Graphs.{Accepts}
use Rattle.machine_core.specs.Language.{RunsFrom}
use Rattle.box_search.proofs.DifferentLemmas.{AreDifferent, different-few}

module _ (m : Graph) where
  -- a run from a state, with its states
  abbrev Visits : ℕ → List ℕ → List ℕ → Type 0
  Visits s word [] = ⊥
  Visits s [] (n ∷ ns) = (n ≡ s) × (s < m.states) × (ns ≡ []) × ((k : List ℕ) × EndsAt m.ends s k)
  Visits s (c ∷ word) (n ∷ ns) = (step : List ℕ) × (to : ℕ) × (n ≡ s) × (s < m.states) × StepsBy m.edges s c step to × Visits to word ns

  visits-run : (word : List ℕ) (s : ℕ) (ns : List ℕ) → Visits s word ns → ((k : List ℕ) × RunsFrom (EndsAt m.ends) (StepsBy m.edges) s word k) × (length ns ≡ suc (length word))
  visits-run [] s [] h = absurd h
  visits-run [] s (n ∷ ns) h = (h.3, let e = ap length h.2 in omega arith)
  visits-run (c ∷ word) s [] h = absurd h
  visits-run (c ∷ word) s (n ∷ ns) h =
      let r = visits-run word h.1 ns h.5 in
      ((add_costs h.0 r.0.0, (h.0, h.1, r.0.0, h.4, r.0.1, refl)), ap suc r.1)

  -- a run without a repeated state
  abbrev HasDifferent : ℕ → Type 0
  HasDifferent s = (word ns : List ℕ) × Visits s word ns × AreDifferent ns

  -- one begins at each state of a run
  visits-at : (word : List ℕ) (s : ℕ) (ns : List ℕ) → Visits s word ns → AreDifferent ns → (q : ℕ) → list_any (eqb q) ns ≡ true → HasDifferent q × (q < m.states)
  visits-at [] s [] h d q e = absurd h
  visits-at [] s (n ∷ ns) h d q e =
      or-elim (eqb q n) (list_any (eqb q) ns) e
      (λ same. let z : q ≡ n = grind (arith, nat_tests) in let w = z ∙ h.0 in
      (subst HasDifferent (sym w) ([], n ∷ ns, h, d), subst (λ t. t < m.states) (sym w) h.1))
      (λ later. absurd (let z : list_any (eqb q) ns ≡ false = ap (list_any (eqb q)) h.2 in cc))
  visits-at (c ∷ word) s [] h d q e = absurd h
  visits-at (c ∷ word) s (n ∷ ns) h d q e =
      or-elim (eqb q n) (list_any (eqb q) ns) e
      (λ same. let z : q ≡ n = grind (arith, nat_tests) in let w = z ∙ h.2 in
      (subst HasDifferent (sym w) (c ∷ word, n ∷ ns, h, d), subst (λ t. t < m.states) (sym w) h.3))
      (visits-at word h.1 ns h.5 d.1 q)

  run-different : (word : List ℕ) (s : ℕ) (cost : List ℕ) → s < m.states → RunsFrom (EndsAt m.ends) (StepsBy m.edges) s word cost → HasDifferent s
  run-different [] s cost inside r = ([], s ∷ [], (refl, inside, refl, (cost, r)), (refl, tt))
  run-different (c ∷ word) s cost inside r =
      let next = step_target m.states m.registers m.edges m.ends m.formed s r.1 c r.0 r.3 in
      let rest = run-different word r.1 r.2 next r.4 in
      by_seen rest.0 rest.1 rest.2 rest.3 (list_any (eqb s) rest.1) refl
    where
      by_seen : (more ns : List ℕ) → Visits r.1 more ns → AreDifferent ns → (b : Bool) → list_any (eqb s) ns ≡ b → HasDifferent s
      by_seen more ns visits d true e = (visits-at more r.1 ns visits d s e).0
      by_seen more ns visits d false e = (c ∷ more, s ∷ ns, (r.0, r.1, refl, inside, r.3, visits), (e, d))

pub word-short : (m : Graph) (word cost : List ℕ) → Accepts m word cost → (short less : List ℕ) × Accepts m short less × (length short < m.states)
word-short m word cost accepts =
    let h = run-different m word 0 cost m.started accepts in
    let r = visits-run m h.0 0 h.1 h.2 in
    let few = different-few h.1 m.states h.3 (λ q e. (visits-at m h.0 0 h.1 h.2 h.3 q e).1) in
    let size = r.1 in
    (h.0, r.0.0, r.0.1, omega arith)
