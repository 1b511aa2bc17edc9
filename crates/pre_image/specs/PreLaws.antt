-- What a pre-image keeps.
use Rattle.std.specs.Prelude.{◌≡◌, ℕ, ◌+◌, ◌*◌, ◌<◌, ◌≤◌, max, List, [], ◌∷◌, length, Contains, Some}
use Rattle.std.proofs.Common.{arith, subst, mul-le-mul_left}
use Rattle.sv_word.specs.Words.{IsWord, greatest_character}
use Rattle.machine_core.specs.declared.graph.Graph.{Graph}
use Rattle.machine_core.specs.Costs.{IsCost}
use Rattle.machine_core.specs.Counts.{AreAtMost, at_most-below, at_most-pairs}
use Rattle.machine_core.specs.Language.{RunsFrom, StopsAt}
use Rattle.machine_core.specs.Edges.{StepsBy, edges_top, ends_top}
use Rattle.machine_core.specs.EdgeLaws.{step_character, path_target, path_width, run_width, listed_runs, listed_paths}
use Rattle.sv_terms.specs.Language.{Word}
use Rattle.sv_terms.specs.Transduction.{written_at, IsFormed}
use Rattle.sv_terms.specs.TransducerSizes.{edges_most, ends_most}
use Rattle.sv_terms.specs.TransducerSizeLaws.{edge_most as edge_size, end_most as end_size}
use Rattle.sv_terms.specs.declared.transducer.Item.{Item}
use Rattle.sv_terms.specs.declared.transducer.TransEdge.{TransEdge}
use Rattle.sv_terms.specs.declared.transducer.Transducer.{Transducer}
use Rattle.pre_image.specs.Spelling.{spelling, Takes, spelling-length, spelling-word}
use Rattle.pre_image.specs.PreImages.{IsPair, PreEnds, PreSteps, pre_top}

-- the number of characters that an edge or an end may write at most
pub edge_writes : (t : Transducer) (s c : ℕ) (e : TransEdge) → Takes t s c e → length (spelling c e.items) ≤ edges_most t.edges
edge_writes t s c e h =
    let most = edge_size t.edges e h.0 in
    let same = spelling-length c e.items in
    omega arith

pub end_writes : (t : Transducer) (s : ℕ) (w : Word) → Contains t.ends (s, w) → length w ≤ ends_most t.ends
end_writes t s w h = end_size t.ends (s, w) h

-- a path goes along a word
pub path_word : (m : Graph) (word : List ℕ) (s u : ℕ) (cost : List ℕ) → RunsFrom (StopsAt m.registers u) (StepsBy m.edges) s word cost → IsWord word
path_word m [] s u cost r = tt
path_word m (c ∷ word) s u cost r = (step_character m.states m.registers m.edges m.ends m.formed s r.1 c r.0 r.3, path_word m word r.1 u r.2 r.4)

-- the edge that the path goes along writes what it spells
pub path_written : (m : Graph) (c : ℕ) (is : List Item) (s u : ℕ) (cost : List ℕ) → RunsFrom (StopsAt m.registers u) (StepsBy m.edges) s (spelling c is) cost
    → written_at c is ≡ Some (spelling c is)
path_written m c is s u cost r = spelling-word c is (path_word m (spelling c is) s u cost r)

module _ (t : Transducer) (m : Graph) where
  pub pre_first : IsFormed t → IsPair t m (t.start, 0)
  pre_first h = (h.start, m.started)

  pub pre_step_is_state : IsFormed t → (s u : ℕ × ℕ) (c : ℕ) (cost : List ℕ) → IsPair t m s → PreSteps t m s c cost u → IsPair t m u
  pre_step_is_state formed s u c cost h st =
      (subst (λ n. n < t.states) st.2 ((formed.edge st.0 st.1.0).to), path_target m.states m.registers m.edges m.ends m.formed (spelling c st.0.items) s.1 u.1 cost h.1 st.3)

  pub pre_step_character : IsFormed t → (s u : ℕ × ℕ) (c : ℕ) (cost : List ℕ) → PreSteps t m s c cost u → c ≤ greatest_character
  pre_step_character formed s u c cost st = let high = (formed.edge st.0 st.1.0).high in let below = st.1.3 in omega arith

  -- a product of two numbers that aren't above these
  more : (e n most rest : ℕ) → n ≤ most → e * n + 0 ≤ e * most + rest
  more e n most rest h = let grown = mul-le-mul_left e h in omega arith

  pub pre_step_cost : (s u : ℕ × ℕ) (c : ℕ) (cost : List ℕ) → IsPair t m s → PreSteps t m s c cost u → IsCost m.registers (pre_top t m) cost
  pre_step_cost s u c cost h st =
      let w = spelling c st.0.items in
      let writes = edge_writes t s.0 c st.0 st.1 in
      record {
        entries = path_width m.states m.registers m.edges m.ends m.formed u.1 w s.1 cost st.3;
        below = λ k.
            let b = listed_paths m.states m.registers m.edges m.ends m.formed k u.1 s.1 w cost h.1 st.3 in
            let most : length w ≤ max (edges_most t.edges) (ends_most t.ends) = omega arith in
            let grown = more (edges_top m.edges) (length w) (max (edges_most t.edges) (ends_most t.ends)) (ends_top m.ends) most in
            omega arith;
      }

  pub pre_end_cost : (s : ℕ × ℕ) (cost : List ℕ) → IsPair t m s → PreEnds t m s cost → IsCost m.registers (pre_top t m) cost
  pre_end_cost s cost h e =
      let writes = end_writes t s.0 e.0 e.1 in
      record {
        entries = run_width m.states m.registers m.edges m.ends m.formed e.0 s.1 cost e.2;
        below = λ k.
            let b = listed_runs m.states m.registers m.edges m.ends m.formed k s.1 e.0 cost h.1 e.2 in
            let most : length e.0 ≤ max (edges_most t.edges) (ends_most t.ends) = omega arith in
            let grown = mul-le-mul_left (edges_top m.edges) most in
            omega arith;
      }

  pub pairs_at_most : AreAtMost (IsPair t m) (t.states * m.states)
  pairs_at_most = at_most-pairs (λ s. s < t.states) (λ s. s < m.states) t.states m.states (at_most-below t.states) (at_most-below m.states)
