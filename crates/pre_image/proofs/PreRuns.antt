-- The pairs of a pre-image: what the transducer may write, and what the target's runs on it cost.
use Rattle.std.proofs.Common.{◌≡◌, ℕ, ◌↔◌, List, [], ◌∷◌, ◌++◌, length, Contains, refl, sym, ap, ◌∙◌, subst, append_assoc}
use Rattle.machine_core.specs.declared.graph.Graph.{Graph}
use Rattle.machine_core.specs.Language.{RunsFrom, StopsAt}
use Rattle.machine_core.specs.LanguageLaws.{runs_join, runs_cut}
use Rattle.machine_core.specs.Edges.{EndsAt, StepsBy}
use Rattle.machine_core.specs.EdgeLaws.{path_width, run_width}
use Rattle.sv_terms.specs.Language.{Word}
use Rattle.sv_terms.specs.Transduction.{Transduces, Leads, Writes}
use Rattle.sv_terms.specs.declared.transducer.Transducer.{Transducer}
use Rattle.pre_image.specs.Spelling.{spelling, spelling-written}
use Rattle.pre_image.specs.PreImages.{PreEnds, PreSteps, Precedes}
use Rattle.pre_image.specs.PreLaws.{path_written}

module _ (t : Transducer) (m : Graph) where
  wide : (word : List ℕ) (s : ℕ) (cost : List ℕ) → RunsFrom (EndsAt m.ends) (StepsBy m.edges) s word cost → length cost ≡ m.registers
  wide = run_width m.states m.registers m.edges m.ends m.formed

  -- an edge that the pre-image goes along transduces what is spelled
  transduces : (s : ℕ × ℕ) (c : ℕ) (cost : List ℕ) (u : ℕ × ℕ) (st : PreSteps t m s c cost u) → Transduces s.0 c (spelling c st.0.items) st.0
  transduces s c cost u st = (st.1.1, st.1.2, st.1.3, path_written m c st.0.items s.1 u.1 cost st.3)

  -- a run of the pre-image writes a word that the machine reads at the same cost
  pub pre-out : (word : List ℕ) (s : ℕ × ℕ) (cost : List ℕ) → RunsFrom (PreEnds t m) (PreSteps t m) s word cost
      → (w : Word) × Writes t s.0 word w × RunsFrom (EndsAt m.ends) (StepsBy m.edges) s.1 w cost
  pre-out [] s cost r = (r.0, (s.0, [], r.0, (refl, refl), r.1, refl), r.2)
  pre-out (c ∷ word) s cost r =
      let st = r.3 in
      let u = r.1 in
      let w = spelling c st.0.items in
      let rest = pre-out word u r.2 r.4 in
      let k = rest.1 in
      let leads = subst (λ n. Leads t n word k.1 k.0) (sym st.2) k.3 in (
        w ++ rest.0,
        (k.0, w ++ k.1, k.2, (st.0, w, k.1, st.1.0, transduces s c r.0 u st, refl, leads), k.4, ap (λ (l : List ℕ). w ++ l) k.5 ∙ sym (append_assoc w k.1 k.2)),
        subst (RunsFrom (EndsAt m.ends) (StepsBy m.edges) s.1 (w ++ rest.0)) (sym r.5)
            (runs_join (EndsAt m.ends) (StepsBy m.edges) m.registers u.1 rest.0 r.2 (wide rest.0 u.1 r.2 rest.2) rest.2 w s.1 r.0 st.3),
      )

  -- and each such word has a run
  pub pre-in : (word : List ℕ) (q : ℕ) (w : Word) → Writes t q word w → (s : ℕ) (cost : List ℕ) → RunsFrom (EndsAt m.ends) (StepsBy m.edges) s w cost
      → RunsFrom (PreEnds t m) (PreSteps t m) (q, s) word cost
  pre-in [] q w k s cost r =
      let same : w ≡ k.2 = k.5 ∙ ap (λ (l : List ℕ). l ++ k.2) k.3.0 in
      (k.2, subst (λ n. Contains {X = ℕ × List ℕ} t.ends (n, k.2)) (sym k.3.1) k.4, subst (λ l. RunsFrom (EndsAt m.ends) (StepsBy m.edges) s l cost) same r)
  pre-in (c ∷ word) q w k s cost r =
      let e = k.3.0 in
      let v = k.3.1 in
      let rest = k.3.2 in
      let whole : w ≡ v ++ (rest ++ k.2) = k.5 ∙ ap (λ (l : List ℕ). l ++ k.2) k.3.5 ∙ append_assoc v rest k.2 in
      let cut = runs_cut (EndsAt m.ends) (StepsBy m.edges) m.registers wide (rest ++ k.2) v s cost
      (subst (λ l. RunsFrom (EndsAt m.ends) (StepsBy m.edges) s l cost) whole r) in
      let goes = subst (λ l. RunsFrom (StopsAt m.registers cut.0) (StepsBy m.edges) s l cut.1) (spelling-written c e.items v k.3.4.3) cut.3 in
      (cut.1, (e.to, cut.0), cut.2, (e, (k.3.3, k.3.4.0, k.3.4.1, k.3.4.2), refl, goes), pre-in word e.to (rest ++ k.2) (k.0, rest, k.2, k.3.6, k.4, refl) cut.0 cut.2 cut.4, cut.5)

  -- a path of the pre-image writes a word along which the machine has a path
  pub paths-out : (u : ℕ × ℕ) (word : List ℕ) (s : ℕ × ℕ) (cost : List ℕ) → RunsFrom (StopsAt m.registers u) (PreSteps t m) s word cost
      → (w : Word) × Leads t s.0 word w u.0 × RunsFrom (StopsAt m.registers u.1) (StepsBy m.edges) s.1 w cost
  paths-out u [] s cost r = ([], (refl, ap (λ (p : ℕ × ℕ). p.0) r.0), (ap (λ (p : ℕ × ℕ). p.1) r.0, r.1))
  paths-out u (c ∷ word) s cost r =
      let st = r.3 in
      let w = spelling c st.0.items in
      let rest = paths-out u word r.1 r.2 r.4 in
      let leads = subst (λ n. Leads t n word rest.0 u.0) (sym st.2) rest.1 in (
        w ++ rest.0,
        (st.0, w, rest.0, st.1.0, transduces s c r.0 r.1 st, refl, leads),
        subst (RunsFrom (StopsAt m.registers u.1) (StepsBy m.edges) s.1 (w ++ rest.0)) (sym r.5)
            (runs_join (StopsAt m.registers u.1) (StepsBy m.edges) m.registers r.1.1 rest.0 r.2 (path_width m.states m.registers m.edges m.ends m.formed u.1 rest.0 r.1.1 r.2 rest.2) rest.2 w s.1 r.0 st.3),
      )

  pub pre-exact : (word cost : List ℕ) → RunsFrom (PreEnds t m) (PreSteps t m) (t.start, 0) word cost ↔ Precedes t m word cost
  pre-exact word cost = (pre-out word (t.start, 0) cost, λ h. pre-in word t.start h.0 h.1 0 cost h.2)
