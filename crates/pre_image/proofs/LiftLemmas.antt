-- A run of a pre-image taken back, step by step.
use Rattle.std.proofs.Common.{◌≡◌, ℕ, List, [], ◌∷◌, ◌++◌, zero, suc, ◌+◌, ◌<◌, ◌≤◌, take, arith, get_or, length, Contains, refl, sym, ap, ap₂, ◌∙◌, subst, append-nil}
use Rattle.std.proofs.lemmas.List.{take_more}
use Rattle.sv_word.specs.Words.{IsWord, greatest_character}
use Rattle.machine_core.specs.declared.graph.Graph.{Graph}
use Rattle.machine_core.specs.declared.run.Run.{Run}
use Rattle.machine_core.specs.Costs.{add_costs, zeros, total_of}
use Rattle.machine_core.specs.CostLaws.{total_of-append, add_costs-length, add_costs-zeros}
use Rattle.machine_core.specs.Edges.{EndsAt, StepsBy}
use Rattle.machine_core.specs.EdgeLaws.{end_most, path_width}
use Rattle.machine_core.specs.Graphs.{IsRunOf}
use Rattle.machine_core.specs.Runs.{IsPath, run_total}
use Rattle.machine_core.specs.RunLaws.{path_join, path_stops}
use Rattle.sv_terms.specs.Language.{Word}
use Rattle.sv_terms.specs.Transduction.{Transduces, Leads, Pairs}
use Rattle.sv_terms.specs.TransductionLaws.{leads_join}
use Rattle.sv_terms.specs.declared.transducer.TransEdge.{TransEdge}
use Rattle.sv_terms.specs.declared.transducer.Transducer.{Transducer}
use Rattle.pre_image.specs.Liftings.{IsLiftedStep, IsLiftedEnd, IsLifting}
use Rattle.pre_image.proofs.JoinLemmas.{behind}

-- each of a word is a character
pub word-at : (w : Word) (i : ℕ) → IsWord w → i < length w → get_or w i 0 ≤ greatest_character
word-at [] i h lt = absurd (omega (arith, lt))
word-at (c ∷ w) zero h lt = h.0
word-at (c ∷ w) (suc i) h lt = word-at w i h.1 (omega (arith, lt))

-- one edge more is taken
writes-push : (t : Transducer) (s u to : ℕ) (r w v : Word) (c : ℕ) (e : TransEdge) → Leads t s r w u → Contains t.edges e → Transduces u c v e → e.to ≡ to → Leads t s (r ++ c ∷ []) (w ++ v) to
writes-push t s u to r w v c e l has m goes = leads_join t s u to r (c ∷ []) w v l (e, v, [], has, m, sym (append-nil v), (refl, goes))

module _ (t : Transducer) (m : Graph) where
  total-width : (s : ℕ) (states : List ℕ) (word : Word) (costs : List (List ℕ)) (u : ℕ) → IsPath (StepsBy m.edges) s states word costs u → length (total_of costs (zeros m.registers)) ≡ m.registers
  total-width s states word costs u p = path_width m.states m.registers m.edges m.ends m.formed u word s (total_of costs (zeros m.registers)) (path_stops (StepsBy m.edges) m.registers s states word costs u p)

  pub lifting-first : IsLifting t m (t.start, 0) [] [] [] [] (zeros m.registers)
  lifting-first = record { writes = (refl, refl); path = refl; total = refl }

  pub lifting-step : (at : ℕ × ℕ) (read written : Word) (states : List ℕ) (costs : List (List ℕ)) (cost : List ℕ) → IsLifting t m at read written states costs cost
      → (c : ℕ) (paid : List ℕ) (to : ℕ × ℕ) (word : Word) (more : List ℕ) (prices : List (List ℕ)) → IsLiftedStep t m at c paid to word more prices
      → IsLifting t m to (read ++ c ∷ []) (written ++ word) (states ++ more) (costs ++ prices) (add_costs cost paid)
  lifting-step at read written states costs cost h c paid to word more prices s = record {
    writes = writes-push t t.start at.0 to.0 read written word c s.edge h.writes s.listed s.writes s.leads;
    path = path_join (StepsBy m.edges) 0 states written costs at.1 more word prices to.1 h.path s.way.path;
    total =
        total_of-append costs prices (zeros m.registers)
        ∙ behind costs (total_of prices (zeros m.registers)) m.registers (total-width at.1 more word prices to.1 s.way.path)
        ∙ ap₂ add_costs h.total s.way.total;
  }

  -- the same at a place of the run that is taken back
  pub lifting-next : (read : Word) (states : List (ℕ × ℕ)) (paid : List (List ℕ)) (i : ℕ) → i < length read → i < length paid
      → (written : Word) (after : List ℕ) (costs : List (List ℕ)) → IsLifting t m (get_or states i (0, 0)) (take i read) written after costs (total_of (take i paid) (zeros m.registers))
      → (from : ℕ × ℕ) → from ≡ get_or states i (0, 0) → (c : ℕ) → c ≡ get_or read i 0 → (k : List ℕ) → k ≡ get_or paid i k → (to : ℕ × ℕ) → to ≡ get_or states (i + 1) (0, 0)
      → length k ≡ m.registers → (word : Word) (more : List ℕ) (prices : List (List ℕ)) → IsLiftedStep t m from c k to word more prices
      → (written' : Word) → written' ≡ written ++ word → (after' : List ℕ) → after' ≡ after ++ more → (costs' : List (List ℕ)) → costs' ≡ costs ++ prices
      → IsLifting t m (get_or states (i + 1) (0, 0)) (take (i + 1) read) written' after' costs' (total_of (take (i + 1) paid) (zeros m.registers))
  lifting-next read states paid i lt lt' written after costs h from ef c ec k ek to et wide word more prices s written' ew after' ea costs' es =
      let so_far : IsLifting t m from (take i read) written after costs (total_of (take i paid) (zeros m.registers)) = subst (λ q. IsLifting t m q (take i read) written after costs (total_of (take i paid) (zeros m.registers))) (sym ef) h in
      let one = lifting-step from (take i read) written after costs (total_of (take i paid) (zeros m.registers)) so_far c k to word more prices s in
      let whole : take i read ++ c ∷ [] ≡ take (i + 1) read = ap (λ x. take i read ++ x ∷ []) ec ∙ sym (take_more read i 0 lt) in
      let sum : add_costs (total_of (take i paid) (zeros m.registers)) k ≡ total_of (take (i + 1) paid) (zeros m.registers) =
      sym (behind (take i paid) k m.registers wide) ∙ ap (total_of (take i paid)) (sym (add_costs-zeros k m.registers wide))
      ∙ sym (total_of-append (take i paid) (k ∷ []) (zeros m.registers))
      ∙ ap (λ l. total_of l (zeros m.registers)) (ap (λ x. take i paid ++ x ∷ []) ek ∙ sym (take_more paid i k lt')) in
      subst (λ q. IsLifting t m q (take (i + 1) read) written' after' costs' (total_of (take (i + 1) paid) (zeros m.registers))) et
      (subst (λ q. IsLifting t m to q written' after' costs' (total_of (take (i + 1) paid) (zeros m.registers))) whole
      (subst (λ q. IsLifting t m to (take i read ++ c ∷ []) q after' costs' (total_of (take (i + 1) paid) (zeros m.registers))) (sym ew)
      (subst (λ q. IsLifting t m to (take i read ++ c ∷ []) (written ++ word) q costs' (total_of (take (i + 1) paid) (zeros m.registers))) (sym ea)
      (subst (λ q. IsLifting t m to (take i read ++ c ∷ []) (written ++ word) (after ++ more) q (total_of (take (i + 1) paid) (zeros m.registers))) (sym es)
      (subst (IsLifting t m to (take i read ++ c ∷ []) (written ++ word) (after ++ more) (costs ++ prices)) sum one)))))

  -- the whole: a pair, and a run of the target on what was written, that costs what the run costs
  pub lifting-pair : (at : ℕ × ℕ) (read written : Word) (states : List ℕ) (costs : List (List ℕ)) (cost : List ℕ) → IsLifting t m at read written states costs cost
      → (last : List ℕ) (word : Word) (more : List ℕ) (prices : List (List ℕ)) (final : List ℕ) → IsLiftedEnd t m at last word more prices final → Pairs t read (written ++ word)
  lifting-pair at read written states costs cost h last word more prices final e = (at.0, written, word, h.writes, e.end, refl)

  pub lifting-run : (at : ℕ × ℕ) (read written : Word) (states : List ℕ) (costs : List (List ℕ)) (cost : List ℕ) → IsLifting t m at read written states costs cost
      → (last : List ℕ) (word : Word) (more : List ℕ) (prices : List (List ℕ)) (final : List ℕ) → IsLiftedEnd t m at last word more prices final
      → (run : Run ℕ) → run.word ≡ written ++ word → run.states ≡ 0 ∷ (states ++ more) → run.costs ≡ costs ++ prices → run.last ≡ final → IsRunOf m run
  lifting-run at read written states costs cost h last word more prices final e run ew es ec el = record {
    after = states ++ more;
    stop = e.stop;
    states = es;
    path =
        let whole = path_join (StepsBy m.edges) 0 states written costs at.1 more word prices e.stop h.path e.way.path in
        subst (λ w. IsPath (StepsBy m.edges) 0 (states ++ more) w run.costs e.stop) (sym ew)
        (subst (λ k. IsPath (StepsBy m.edges) 0 (states ++ more) (written ++ word) k e.stop) (sym ec) whole);
    last = subst (EndsAt m.ends e.stop) (sym el) e.last;
  }

  pub lifting-total : (at : ℕ × ℕ) (read written : Word) (states : List ℕ) (costs : List (List ℕ)) (cost : List ℕ) → IsLifting t m at read written states costs cost
      → (last : List ℕ) (word : Word) (more : List ℕ) (prices : List (List ℕ)) (final : List ℕ) → IsLiftedEnd t m at last word more prices final
      → (run : Run ℕ) → run.costs ≡ costs ++ prices → run.last ≡ final → run_total run ≡ add_costs cost last
  lifting-total at read written states costs cost h last word more prices final e run ec el =
      let wide = (end_most m.states m.registers m.edges m.ends m.formed e.stop final e.last).entries in
      let tail = behind prices final m.registers wide ∙ ap (λ l. add_costs l final) e.way.total ∙ e.sum in
      let size : length last ≡ m.registers = ap length (sym e.sum) ∙ add_costs-length e.paid final m.registers (ap length (sym e.way.total) ∙ total-width at.1 more word prices e.stop e.way.path) wide in
      ap₂ total_of ec el ∙ total_of-append costs prices final ∙ ap (total_of costs) tail ∙ behind costs last m.registers size ∙ ap (λ l. add_costs l last) h.total
