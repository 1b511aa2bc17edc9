-- A run of all machines in turn, cut into a run of each.
use Rattle.std.proofs.Common.{◌≡◌, ℕ, zero, suc, ◌+◌, inl, inr, List, [], ◌∷◌, ◌++◌, length, slice_get, Some, All, refl, ap, sym, ◌∙◌, subst, arith}
use Rattle.std.proofs.lemmas.List.{length-append}
use Rattle.std.proofs.lemmas.List.Elements.{All-nil, All-push}
use Rattle.std.proofs.lemmas.Option.{slice_get_within}
use Rattle.machine_core.specs.declared.graph.Graph.{Graph}
use Rattle.machine_core.specs.declared.run.Run.{Run}
use Rattle.machine_core.specs.Costs.{add_costs, zeros, total_of}
use Rattle.machine_core.specs.CostLaws.{add_costs-assoc, add_costs-length, add_costs-zeros, zeros-add_costs, zeros-length, total_of-append, total_of-length}
use Rattle.machine_core.specs.Edges.{EndsAt, StepsBy}
use Rattle.machine_core.specs.Graphs.{IsRunOf}
use Rattle.sv_list.specs.Lists.{slice_get-push_cases, slice_get-some}
use Rattle.machine_core.specs.Runs.{IsPath, run_total}
use Rattle.machine_core.specs.RunLaws.{path_push, path_lengths}
use Rattle.sv_linear.specs.declared.row.Row.{Row}
use Rattle.search_hits.specs.declared.region.Region.{Region}
use Rattle.search_hits.specs.Hits.{HaveRegisters, AreRunsOf, runs_total, characters}
use Rattle.search_hits.specs.HitLaws.{characters-push}
use Rattle.box_layers.specs.declared.layer.Layer.{Layer}
use Rattle.box_layers.specs.Layers.{layer, uppers_of, AreGoodTotals, LayerStep, Turns}
use Rattle.box_layers.specs.LayerLaws.{layer-step_cost, same-graph}
use Rattle.box_layers.specs.Cuts.{IsRunOfAll, IsCutInto, IsOpened, AddsStep, BeginsNext, CutsBy}
use Rattle.box_layers.specs.PathLaws.{path-last}

-- the runs that have ended are those of the machines before the one at work, and the last one leads to its state
pub record IsCutting (machines : List Graph) (registers : ℕ) (p : Layer) (place : ℕ) (runs : List (Run ℕ)) (current : Run ℕ) : Type 0 where
  pub turn : p.machine ≡ length runs
  pub each : (i : ℕ) (m : Graph) (r : Run ℕ) → slice_get machines i ≡ Some m → slice_get runs i ≡ Some r → IsRunOf m r
  pub after : List ℕ
  pub states : current.states ≡ 0 ∷ after
  pub path : (m : Graph) → slice_get machines p.machine ≡ Some m → IsPath (StepsBy m.edges) 0 after current.word current.costs p.state
  pub paid : p.spent ≡ add_costs (runs_total registers runs) (total_of current.costs (zeros registers))
  pub widths : All (λ k. length k ≡ registers) current.costs
  pub totals : length (runs_total registers runs) ≡ registers
  pub behind : p.machine ≡ length machines → (current.costs ≡ []) × (current.word ≡ [])
  pub size : characters runs + length runs + length current.word ≡ place

-- a run of no characters has just begun
pub just-opened : (run : Run ℕ) (last : List ℕ) → run ≡ record { word = []; states = 0 ∷ []; costs = []; last = last } → IsOpened run
just-opened run last e = record { word = ap (λ (r : Run ℕ). r.word) e; states = ap (λ (r : Run ℕ). r.states) e; costs = ap (λ (r : Run ℕ). r.costs) e }

-- totals with a cost more, and with a run more
total-last : (costs : List (List ℕ)) (k : List ℕ) (n : ℕ) → length k ≡ n → add_costs (total_of costs (zeros n)) k ≡ total_of costs k
total-last [] k n e = zeros-add_costs k n e
total-last (x ∷ costs) k n e = add_costs-assoc x (total_of costs (zeros n)) k ∙ ap (add_costs x) (total-last costs k n e)

total-push : (costs : List (List ℕ)) (k : List ℕ) (n : ℕ) → length k ≡ n → total_of (costs ++ k ∷ []) (zeros n) ≡ total_of costs k
total-push costs k n e = total_of-append costs (k ∷ []) (zeros n) ∙ ap (total_of costs) (add_costs-zeros k n e)

runs-push : (n : ℕ) (rs : List (Run ℕ)) (r : Run ℕ) → length (run_total r) ≡ n → runs_total n (rs ++ r ∷ []) ≡ add_costs (runs_total n rs) (run_total r)
runs-push n [] r e = add_costs-zeros (run_total r) n e ∙ sym (zeros-add_costs (run_total r) n e)
runs-push n (x ∷ rs) r e = ap (add_costs (run_total x)) (runs-push n rs r e) ∙ sym (add_costs-assoc (run_total x) (runs_total n rs) (run_total r))

each-run : (ms : List Graph) (rs : List (Run ℕ)) → length ms ≡ length rs → ((i : ℕ) (m : Graph) (r : Run ℕ) → slice_get ms i ≡ Some m → slice_get rs i ≡ Some r → IsRunOf m r) → AreRunsOf ms rs
each-run [] [] e h = tt
each-run [] (r ∷ rs) e h = absurd (omega arith)
each-run (m ∷ ms) [] e h = absurd (omega arith)
each-run (m ∷ ms) (r ∷ rs) e h = (h zero m r refl refl, each-run ms rs (omega arith) (λ i. h (suc i)))

path-empty : (m : Graph) (word : List ℕ) (costs : List (List ℕ)) → word ≡ [] → costs ≡ [] → IsPath (StepsBy m.edges) 0 [] word costs 0
path-empty m [] [] e f = refl
path-empty m [] (x ∷ costs) e f = cc
path-empty m (x ∷ word) costs e f = cc

module _ (machines : List Graph) (uppers : List ℕ) (good : List ℕ → Type 0) (registers : ℕ) (same : HaveRegisters registers machines) where
  -- a run has begun where no cost is paid by it yet
  begun : (p : Layer) (place : ℕ) (runs : List (Run ℕ)) (current : Run ℕ) → IsOpened current → p.machine ≡ length runs → p.state ≡ 0
      → ((i : ℕ) (m : Graph) (r : Run ℕ) → slice_get machines i ≡ Some m → slice_get runs i ≡ Some r → IsRunOf m r)
      → p.spent ≡ runs_total registers runs → length (runs_total registers runs) ≡ registers → characters runs + length runs ≡ place → IsCutting machines registers p place runs current
  begun p place runs current o turn state each paid totals size = record {
    turn = turn;
    each = each;
    after = [];
    states = o.states;
    path = λ m e. subst (λ t. IsPath (StepsBy m.edges) 0 [] current.word current.costs t) (sym state) (path-empty m current.word current.costs o.word o.costs);
    paid = paid ∙ sym (ap (λ l. add_costs (runs_total registers runs) (total_of l (zeros registers))) o.costs ∙ add_costs-zeros (runs_total registers runs) registers totals);
    widths = subst (All (λ (k : List ℕ). length k ≡ registers)) (sym o.costs) (All-nil (λ (k : List ℕ). length k ≡ registers));
    totals = totals;
    behind = λ e. (o.costs, o.word);
    size = (let w = ap length o.word in omega arith);
  }

  pub cut-start : (current : Run ℕ) → IsOpened current → IsCutting machines registers (layer 0 0 (zeros registers)) 0 [] current
  cut-start current o = begun (layer 0 0 (zeros registers)) 0 [] current o refl refl (λ i m r e f. cc) refl (zeros-length registers) (omega arith)

  module _ (p q : Layer) (c : ℕ) (k : List ℕ) (place : ℕ) (runs : List (Run ℕ)) (before : Run ℕ) (step : LayerStep machines uppers good p c k q) (cut : IsCutting machines registers p place runs before) where
    wide : length k ≡ registers
    wide = (layer-step_cost machines uppers good registers same p q c k step).entries

    goes-on : (now : Run ℕ) → q.machine ≡ p.machine → StepsBy step.graph.edges p.state c k q.state → AddsStep q c k before now → IsCutting machines registers q (place + 1) runs now
    goes-on now e s g = record {
      turn = e ∙ cut.turn;
      each = cut.each;
      after = cut.after ++ q.state ∷ [];
      states = g.states ∙ ap (λ l. l ++ q.state ∷ []) cut.states;
      path = λ m at.
          let at' = subst (λ i. slice_get machines i ≡ Some m) e at in
          let eq = same-graph machines p.machine step.graph m step.at_work at' in
          let s' = subst (λ (x : Graph). StepsBy x.edges p.state c k q.state) eq s in
          let whole = path_push (StepsBy m.edges) 0 cut.after before.word before.costs p.state c k q.state (cut.path m at') s' in
          subst (λ l. IsPath (StepsBy m.edges) 0 (cut.after ++ q.state ∷ []) now.word l q.state) (sym g.costs)
          (subst (λ l. IsPath (StepsBy m.edges) 0 (cut.after ++ q.state ∷ []) l (before.costs ++ k ∷ []) q.state) (sym g.word) whole);
      paid = step.paid ∙ ap (λ l. add_costs l k) cut.paid ∙ add_costs-assoc (runs_total registers runs) (total_of before.costs (zeros registers)) k
          ∙ ap (add_costs (runs_total registers runs)) (total-last before.costs k registers wide ∙ sym (ap (λ l. total_of l (zeros registers)) g.costs ∙ total-push before.costs k registers wide));
      widths = subst (All (λ (k : List ℕ). length k ≡ registers)) (sym g.costs) (All-push (λ (k : List ℕ). length k ≡ registers) before.costs k cut.widths wide);
      totals = cut.totals;
      behind = λ over. absurd (let lt = slice_get_within machines p.machine step.graph step.at_work in omega arith);
      size = (let a = cut.size in let w = ap length g.word ∙ length-append before.word (c ∷ []) in omega arith);
    }

    begins-next : (more : List (Run ℕ)) (now : Run ℕ) → q.machine ≡ suc p.machine → q.state ≡ 0 → EndsAt step.graph.ends p.state k → BeginsNext k runs more before now → IsCutting machines registers q (place + 1) more now
    begins-next more now e state end b =
        begun q (place + 1) more now b.opened (e ∙ ap suc cut.turn ∙ longer) state each paid totals (let a = cut.size in let n = longer in let t = count in omega arith)
      where
        longer : suc (length runs) ≡ length more
        longer = let n = length-append runs (b.ended ∷ []) in let m = ap length b.pushed in omega arith

        total : run_total b.ended ≡ total_of before.costs k
        total = ap (λ l. total_of l b.ended.last) b.costs ∙ ap (total_of before.costs) b.last

        total-wide : length (run_total b.ended) ≡ registers
        total-wide = ap length total ∙ total_of-length before.costs k registers cut.widths wide

        sum : runs_total registers more ≡ add_costs (runs_total registers runs) (run_total b.ended)
        sum = ap (runs_total registers) b.pushed ∙ runs-push registers runs b.ended total-wide

        paid : q.spent ≡ runs_total registers more
        paid = step.paid ∙ ap (λ l. add_costs l k) cut.paid ∙ add_costs-assoc (runs_total registers runs) (total_of before.costs (zeros registers)) k
            ∙ ap (add_costs (runs_total registers runs)) (total-last before.costs k registers wide ∙ sym total) ∙ sym sum

        totals : length (runs_total registers more) ≡ registers
        totals = ap length sum ∙ add_costs-length (runs_total registers runs) (run_total b.ended) registers cut.totals total-wide

        count : characters more ≡ characters runs + length before.word
        count = ap characters b.pushed ∙ characters-push runs b.ended ∙ ap (λ l. characters runs + length l) b.word

        own : IsRunOf step.graph b.ended
        own = record {
          after = cut.after;
          stop = p.state;
          states = b.states ∙ cut.states;
          path = subst (λ l. IsPath (StepsBy step.graph.edges) 0 cut.after b.ended.word l p.state) (sym b.costs)
              (subst (λ l. IsPath (StepsBy step.graph.edges) 0 cut.after l before.costs p.state) (sym b.word) (cut.path step.graph step.at_work));
          last = subst (EndsAt step.graph.ends p.state) (sym b.last) end;
        }

        each : (i : ℕ) (m : Graph) (r : Run ℕ) → slice_get machines i ≡ Some m → slice_get more i ≡ Some r → IsRunOf m r
        each i m r at of = elim (slice_get-push_cases runs b.ended i r (subst (λ l. slice_get l i ≡ Some r) b.pushed of)) [
          | inl old ↦ cut.each i m r at old
          | inr new ↦
              let at' = subst (λ n. slice_get machines n ≡ Some m) (new.0 ∙ sym cut.turn) at in
              let eq = same-graph machines p.machine step.graph m step.at_work at' in
              subst (IsRunOf m) new.1 (subst (λ (x : Graph). IsRunOf x b.ended) eq own)
        ]

    pub cut-next : (more : List (Run ℕ)) (now : Run ℕ) → CutsBy p q c k runs more before now → IsCutting machines registers q (place + 1) more now
    cut-next more now d = by_turn step.turn d
      where
        by_turn : Turns machines uppers good step.graph p c k q → CutsBy p q c k runs more before now → IsCutting machines registers q (place + 1) more now
        by_turn (inl inside) (inl on) = subst (λ l. IsCutting machines registers q (place + 1) l now) (sym on.1) (goes-on now on.0 inside.1 on.2)
        by_turn (inl inside) (inr next) = absurd (next.0 inside.0)
        by_turn (inr next) (inl on) = absurd (let e = next.0 in let f = on.0 in omega arith)
        by_turn (inr next) (inr begins) = begins-next more now next.0 next.1 next.3 begins.1

  pub cut-end : (p : Layer) (place : ℕ) (runs : List (Run ℕ)) (current : Run ℕ) → p.machine ≡ length machines → IsCutting machines registers p place runs current
      → AreRunsOf machines runs × (runs_total registers runs ≡ p.spent) × (characters runs + length machines ≡ place)
  cut-end p place runs current e cut =
      let over = cut.behind e in
      let t = cut.turn in (
        each-run machines runs (omega arith) cut.each,
        sym (cut.paid ∙ ap (λ l. add_costs (runs_total registers runs) (total_of l (zeros registers))) over.0 ∙ add_costs-zeros (runs_total registers runs) registers cut.totals),
        (let a = cut.size in let w = ap length over.1 in omega arith),
      )

-- one step of a path
pub path-at : {S : Type 0} (steps : S → ℕ → List ℕ → S → Type 0) (s : S) (us : List S) (word : List ℕ) (costs : List (List ℕ)) (t : S) (i : ℕ) (p q : S) (c : ℕ) (k : List ℕ)
    → IsPath steps s us word costs t → slice_get (s ∷ us) i ≡ Some p → slice_get us i ≡ Some q → slice_get word i ≡ Some c → slice_get costs i ≡ Some k → steps p c k q
path-at steps s [] word costs t i p q c k h a b d e = cc
path-at steps s (v ∷ us) [] costs t i p q c k h a b d e = absurd h
path-at steps s (v ∷ us) (x ∷ word) [] t i p q c k h a b d e = absurd h
path-at {S = S} steps s (v ∷ us) (x ∷ word) (y ∷ costs) t zero p q c k h a b d e =
    let ep : s ≡ p = cc in
    let eq : v ≡ q = cc in
    let ec : x ≡ c = cc in
    let ek : y ≡ k = cc in
    subst (λ (z : S). steps z c k q) ep (subst (λ (z : S). steps s c k z) eq (subst (λ z. steps s z k v) ec (subst (λ z. steps s x z v) ek h.0)))
path-at steps s (v ∷ us) (x ∷ word) (y ∷ costs) t (suc i) p q c k h a b d e = path-at steps v us word costs t i p q c k h.1 a b d e

module _ (machines : List Graph) (rows : List Row) (region : Region) (same : HaveRegisters (length region.registers) machines) (run : Run Layer) (is : IsRunOfAll machines rows region run) where
  abbrev Steps : Layer → ℕ → List ℕ → Layer → Type 0
  Steps = LayerStep machines (uppers_of region) (AreGoodTotals rows region)

  abbrev first : Layer
  first = layer 0 0 (zeros (length region.registers))

  sizes : (length is.after ≡ length run.word) × (length run.costs ≡ length run.word)
  sizes = path_lengths Steps first is.after run.word run.costs is.stop is.path

  pub states-size : length run.states ≡ suc (length run.word)
  states-size = ap length is.states ∙ ap suc sizes.0

  pub costs-size : length run.costs ≡ length run.word
  costs-size = sizes.1

  pub run-start : (runs : List (Run ℕ)) (current : Run ℕ) → runs ≡ [] → IsOpened current → (p : Layer) → slice_get run.states 0 ≡ Some p → IsCutting machines (length region.registers) p 0 runs current
  run-start runs current e o p at =
      let at' = subst (λ l. slice_get l 0 ≡ Some p) is.states at in
      let h : first ≡ p = cc in
      subst (λ q. IsCutting machines (length region.registers) q 0 runs current) h
      (subst (λ l. IsCutting machines (length region.registers) first 0 l current) (sym e) (cut-start machines (uppers_of region) (AreGoodTotals rows region) (length region.registers) same current o))

  pub run-next : (place : ℕ) (p q r : Layer) (c : ℕ) (k : List ℕ) (runs more : List (Run ℕ)) (before now : Run ℕ) → slice_get run.states place ≡ Some p → slice_get run.states (place + 1) ≡ Some q
      → slice_get run.word place ≡ Some c → slice_get run.costs place ≡ Some k → IsCutting machines (length region.registers) p place runs before → CutsBy p q c k runs more before now
      → slice_get run.states (place + 1) ≡ Some r → IsCutting machines (length region.registers) r (place + 1) more now
  run-next place p q r c k runs more before now a b d e cut by f =
      let a' = subst (λ l. slice_get l place ≡ Some p) is.states a in
      let z : place + 1 ≡ suc place = omega arith in
      let b' = subst (λ n. slice_get run.states n ≡ Some q) z b in
      let b'' = subst (λ l. slice_get l (suc place) ≡ Some q) is.states b' in
      let h : q ≡ r = cc in
      let step = path-at Steps first is.after run.word run.costs is.stop place p q c k is.path a' b'' d e in
      subst (λ (x : Layer). IsCutting machines (length region.registers) x (place + 1) more now) h
      (cut-next machines (uppers_of region) (AreGoodTotals rows region) (length region.registers) same p q c k place runs before step cut more now by)

  -- the layer behind the last machine
  pub stop-is : (p : Layer) → slice_get run.states (length run.word) ≡ Some p → is.stop ≡ p
  stop-is p at = path-last Steps first is.after run.word run.costs is.stop p is.path (subst (λ l. slice_get l (length run.word) ≡ Some p) is.states at)

  pub stop-good : (p : Layer) → slice_get run.states (length run.word) ≡ Some p → AreGoodTotals rows region p.spent
  stop-good p at = subst (λ (q : Layer). AreGoodTotals rows region q.spent) (stop-is p at) is.last.2

  pub run-end : (place : ℕ) (runs : List (Run ℕ)) (current : Run ℕ) → place ≡ length run.word
      → ((p : Layer) → slice_get run.states place ≡ Some p → IsCutting machines (length region.registers) p place runs current) → IsCutInto machines (length region.registers) run runs
  run-end place runs current e cut = record { each = done.0; total = λ p at. done.1 ∙ ap (λ (x : Layer). x.spent) (stop-is p at); size = done.2 ∙ e }
    where
      stop-at : slice_get run.states place ≡ Some is.stop
      stop-at =
          let g = slice_get-some run.states (length run.word) (let s = states-size in omega arith) in
          let h = stop-is g.0 g.1 in
          subst (λ n. slice_get run.states n ≡ Some is.stop) (sym e) (g.1 ∙ ap Some (sym h))

      done : AreRunsOf machines runs × (runs_total (length region.registers) runs ≡ is.stop.spent) × (characters runs + length machines ≡ place)
      done = cut-end machines (uppers_of region) (AreGoodTotals rows region) (length region.registers) same is.stop place runs current is.last.1 (cut is.stop stop-at)
