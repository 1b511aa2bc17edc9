-- The definition at a place of a flat cube, carried.
use Rattle.std.proofs.Common.{◌≡◌, ℕ, ◌+◌, ◌*◌, ◌<◌, ◌≤◌, ◌↔◌, max, List, [], ◌∷◌, length, map, Some, slice_get, refl, sym, ap, ◌∙◌, subst, arith, mul-le-mul_left, mul_comm, add-mul, one-mul}
use Rattle.std.specs.Prelude.{Result, Ok, Err, IfOk}
use Rattle.std.proofs.Math.Nat.{max_comm}
use Rattle.std.proofs.lemmas.Option.{same_Some, slice_get_within}
use Rattle.sv_word.specs.Words.{IsWord}
use Rattle.machine_core.specs.declared.graph.Graph.{Graph}
use Rattle.machine_core.specs.Edges.{edges_top}
use Rattle.sv_terms.specs.Language.{Word}
use Rattle.sv_terms.specs.Replacement.{replace_first, replace_all}
use Rattle.sv_terms.specs.Transduction.{Pairs, IsFormed, WritesWithin}
use Rattle.sv_terms.specs.TransductionLaws.{within_weaker}
use Rattle.sv_terms.specs.TransducerSizeLaws.{within-most}
use Rattle.sv_terms.specs.TransducerSizes.{edges_most, ends_most}
use Rattle.sv_terms.specs.declared.transducer.Transducer.{Transducer}
use Rattle.cube_bounds.specs.NumberLaws.{slope_of, base_of}
use Rattle.flat_cubes.specs.Satisfying.{ComesBy}
use Rattle.flat_cubes.specs.declared.definition.By.{By}
use Rattle.flat_cubes.specs.declared.definition.By.TheVariants as by
use Rattle.flat_cubes.specs.declared.definition.Definition.{Definition}
use Rattle.flat_cubes.specs.declared.flat.Flat.{Flat}
use Rattle.backward.specs.Families.{Family, Words, put, Conf}
use Rattle.backward.specs.Pieces.{RunsInTurn, ConfCut}
use Rattle.backward.specs.Carried.{IsCarried, IsCarriedThrough, CanCut, CanPass}
use Rattle.backward.specs.Definitions.{definition, reads, RelatesBy, IsFor}
use Rattle.backward.specs.Chains.{ConfBefore}
use Rattle.backward.specs.Made.{IsCut, IsPassed}
use Rattle.backward.specs.Steps.{CanCutAt, CanPassAt, CanPassBy, IsCutAt, IsPassedAt, IsMadeAt, IsMadeBy, IsPassedBy, Either}
use Rattle.backward.specs.declared.leaf_state.LeafState.{LeafState}
use Rattle.backward.proofs.ConfLemmas.{take-out, put-other}
use Rattle.backward.proofs.LoopLemmas.{same-found}
use Rattle.backward.proofs.MeetingLemmas.{graph-words}

same-pieces : (ps qs : List ℕ) → by.Concat ps ≡ by.Concat qs → ps ≡ qs
same-pieces ps qs e = cc

-- one definition stands at a place
pub one-definition : (ds : List Definition) (at : ℕ) (d e : Definition) → slice_get ds at ≡ Some d → slice_get ds at ≡ Some e → d ≡ e
one-definition ds at d e f g = cc

module _ (flat : Flat) (at : ℕ) (d : Definition) (there : slice_get flat.definitions at ≡ Some d) where
  pub place-below : at < length flat.definitions
  place-below = slice_get_within flat.definitions at d there

  pub can-cut-with : {ms : Family} {cuts : List ℕ} (ps : List ℕ) → CanCutAt flat at ms cuts → d.by ≡ by.Concat ps → (m : Graph) × CanCut ms d.variable m ps cuts
  can-cut-with {ms = ms} {cuts = cuts} ps can is =
      let same = one-definition flat.definitions at d (definition can.variable (by.Concat can.pieces)) there can.defined in
      let v = ap (λ (x : Definition). x.variable) same in
      let p = same-pieces ps can.pieces (sym is ∙ ap (λ (x : Definition). x.by) same) in
      (can.target, subst (λ x. CanCut ms x can.target ps cuts) (sym v) (subst (λ l. CanCut ms can.variable can.target l cuts) (sym p) can.can))

  -- a concatenation
  module _ (s new : LeafState) (ps cuts : List ℕ) (is : d.by ≡ by.Concat ps) where
    pub cut-made : IsCut s.machines d.variable ps cuts new → IsMadeAt flat at cuts s.machines new
    cut-made made e at-e =
        subst (λ (z : Definition). IsMadeBy z.by z.variable cuts s.machines new) (one-definition flat.definitions at d e there at-e)
        (subst (λ b. IsMadeBy b d.variable cuts s.machines new) (sym is) made)

    module _ (m : Graph) (can : CanCut s.machines d.variable m ps cuts) (registers : new.registers ≡ s.registers)
        (c : IsCarried s.registers s.machines d.variable m (0 ∷ cuts) ps new.machines) where
      plain-cut : (words : Words) (totals : List ℕ) → Conf s.registers new.machines words totals ↔ ConfCut s.registers s.machines d.variable ps cuts words totals
      plain-cut words totals = (
        λ h. let r = (c.conf words totals).0 h in (m, r.0, r.1, can.machine, r.2, r.3, r.4),
        λ h.
            let same = same-found s.machines d.variable h.0 m h.3 can.machine in
            (c.conf words totals).1 (h.1, h.2, subst (λ g. RunsInTurn g (0 ∷ cuts) (map words ps) h.1) same h.4, h.5, h.6),
      )

      pub cut-conf : (words : Words) (totals : List ℕ) → Conf new.registers new.machines words totals ↔ ConfCut s.registers s.machines d.variable ps cuts words totals
      cut-conf = subst (λ w. (words : Words) (totals : List ℕ) → Conf w new.machines words totals ↔ ConfCut s.registers s.machines d.variable ps cuts words totals) (sym registers) plain-cut

      pub cut-at : IsCutAt flat at cuts s new
      cut-at x pieces e words totals =
          let same = one-definition flat.definitions at d (definition x (by.Concat pieces)) there e in
          let v = ap (λ (z : Definition). z.variable) same in
          let p = same-pieces ps pieces (sym is ∙ ap (λ (z : Definition). z.by) same) in
          subst (λ z. Conf new.registers new.machines words totals ↔ ConfCut s.registers s.machines z pieces cuts words totals) v
          (subst (λ l. Conf new.registers new.machines words totals ↔ ConfCut s.registers s.machines d.variable l cuts words totals) p (cut-conf words totals))

  -- a definition through a transducer
  pub reads-there : {ms : Family} → CanPassAt flat at ms → (v : ℕ) × (reads d.by ≡ Some v)
  reads-there can =
      let same = one-definition flat.definitions at d (definition can.variable can.how) there can.defined in
      (can.reader, ap (λ (z : Definition). reads z.by) same ∙ can.through)

  pub can-pass-with : {ms : Family} → CanPassAt flat at ms → (v : ℕ) → reads d.by ≡ Some v → (m k : Graph) × CanPassBy ms d.variable m v k d.by
  can-pass-with {ms = ms} can v e =
      let same = one-definition flat.definitions at d (definition can.variable can.how) there can.defined in
      let f : reads d.by ≡ Some can.reader = ap (λ (z : Definition). reads z.by) same ∙ can.through in
      let one = same_Some can.reader v (sym f ∙ e) in
      (can.target, can.machine, subst (λ (z : Definition). CanPassBy ms z.variable can.target v can.machine z.by) (sym same) (subst (λ u. CanPassBy ms can.variable can.target u can.machine can.how) one can.can))

pub can-pass-through : {ms : Family} {x v : ℕ} {m k : Graph} {b : By} {t : Transducer} → CanPassBy ms x m v k b → IsFor b t → CanPass ms x m v k t
can-pass-through {m = m} {b = b} {t = t} can f = record {
  machine = can.machine;
  other = can.other;
  reader = can.reader;
  formed = f.formed;
  fits = let most = mul-le-mul_left (edges_top m.edges) f.most in let room = can.fits in omega arith;
}

-- what the transducer relates comes by the definition
pub gives-comes : (b : By) (v : ℕ) → reads b ≡ Some v → (t : Transducer) → RelatesBy b t → (words : Words) (w : Word) → Pairs t (words v) w → ComesBy words w b
gives-comes (by.Concat vs) v e t g words w p = cc
gives-comes (by.First q u z) v e t g words w p = let same : v ≡ z = cc in ((g (words v) w).0 p).1 ∙ ap (λ n. replace_first q u (words n)) same
gives-comes (by.All q u z) v e t g words w p = let same : v ≡ z = cc in ((g (words v) w).0 p).1 ∙ ap (λ n. replace_all q u (words n)) same
gives-comes (by.Through s z) v e t g words w p = let same : v ≡ z = cc in subst (λ r. Pairs r (words z) w) g (subst (λ n. Pairs t (words n) w) same p)

pub comes-gives : (b : By) (v : ℕ) → reads b ≡ Some v → (t : Transducer) → RelatesBy b t → (words : Words) (w : Word) → IsWord (words v) → ComesBy words w b → Pairs t (words v) w
comes-gives (by.Concat vs) v e t g words w is p = cc
comes-gives (by.First q u z) v e t g words w is p = let same : z ≡ v = cc in (g (words v) w).1 (is, p ∙ ap (λ n. replace_first q u (words n)) same)
comes-gives (by.All q u z) v e t g words w is p = let same : z ≡ v = cc in (g (words v) w).1 (is, p ∙ ap (λ n. replace_all q u (words n)) same)
comes-gives (by.Through s z) v e t g words w is p = let same : z ≡ v = cc in subst (λ r. Pairs r (words v) w) (sym g) (subst (λ n. Pairs s (words n) w) same p)

either-in : (A : List ℕ → Type 0) (B : By → Type 0) (b : By) (v : ℕ) → reads b ≡ Some v → B b → Either A B b
either-in A B (by.Concat vs) v e h = cc
either-in A B (by.First q u z) v e h = h
either-in A B (by.All q u z) v e h = h
either-in A B (by.Through s z) v e h = h

either-out : (A : List ℕ → Type 0) (B : By → Type 0) (b : By) (v : ℕ) → reads b ≡ Some v → Either A B b → B b
either-out A B (by.Concat vs) v e h = cc
either-out A B (by.First q u z) v e h = h
either-out A B (by.All q u z) v e h = h
either-out A B (by.Through s z) v e h = h

made-by : (b : By) (x v : ℕ) (ms : Family) (ns : LeafState) (t : Transducer) → reads b ≡ Some v → RelatesBy b t → IsPassed ms x v t ns → IsMadeBy b x [] ms ns
made-by b x v ms ns t e g p = either-in (λ pieces. IsCut ms x pieces [] ns) (IsPassedBy x ms ns) b v e (t, v, e, g, p)

-- what made a family through a transducer
pub made-through : (b : By) (x v : ℕ) (cuts : List ℕ) (ms : Family) (ns : LeafState) → reads b ≡ Some v → IsMadeBy b x cuts ms ns → (t : Transducer) × RelatesBy b t × IsPassed ms x v t ns
made-through b x v cuts ms ns e h =
    let o : IsPassedBy x ms ns b = either-out (λ pieces. IsCut ms x pieces cuts ns) (IsPassedBy x ms ns) b v e h in
    (o.0, o.3, subst (λ n. IsPassed ms x n o.0 ns) (same_Some o.1 v (sym o.2 ∙ e)) o.4)

module _ (flat : Flat) (at : ℕ) (d : Definition) (there : slice_get flat.definitions at ≡ Some d) (s new : LeafState) (v : ℕ) (reading : reads d.by ≡ Some v) (t : Transducer) (f : IsFor d.by t) where
  pub passed-made : IsPassed s.machines d.variable v t new → IsMadeAt flat at [] s.machines new
  passed-made p e at-e =
      subst (λ (z : Definition). IsMadeBy z.by z.variable [] s.machines new) (one-definition flat.definitions at d e there at-e) (made-by d.by d.variable v s.machines new t reading f.gives p)

  module _ (m k : Graph) (can : CanPass s.machines d.variable m v k t) (registers : new.registers ≡ s.registers)
      (c : IsCarriedThrough (Pairs t) t.states (slope_of d.by) (base_of d.by) s.registers s.machines d.variable m v new.machines) where
    -- the variable that is read has a word
    read-word : (words : Words) (w : Word) (totals : List ℕ) → Conf s.registers s.machines (put words d.variable w) totals → IsWord (words v)
    read-word words w totals h =
        let out = take-out s.registers k s.machines v can.reader (put words d.variable w) totals h in
        subst IsWord (put-other words d.variable w v can.other) (graph-words k (put words d.variable w v) out.0 out.2)

    plain-passed : (words : Words) (totals : List ℕ) → Conf s.registers new.machines words totals ↔ ConfBefore s.registers s.machines d.variable d.by words totals
    plain-passed words totals = (
      λ h. let r = (c.conf words totals).0 h in (r.0, gives-comes d.by v reading t f.gives words r.0 r.1, r.2),
      λ h. (c.conf words totals).1 (h.0, comes-gives d.by v reading t f.gives words h.0 (read-word words h.0 totals h.2) h.1, h.2),
    )

    pub passed-conf : (words : Words) (totals : List ℕ) → Conf new.registers new.machines words totals ↔ ConfBefore s.registers s.machines d.variable d.by words totals
    passed-conf = subst (λ w. (words : Words) (totals : List ℕ) → Conf w new.machines words totals ↔ ConfBefore s.registers s.machines d.variable d.by words totals) (sym registers) plain-passed

    pub passed-at : IsPassedAt flat at s new
    passed-at x b e words totals =
        subst (λ (z : Definition). Conf new.registers new.machines words totals ↔ ConfBefore s.registers s.machines z.variable z.by words totals)
        (one-definition flat.definitions at d (definition x b) there e) (passed-conf words totals)

-- the transducers of replacements and of the text are for their definitions
pub first-for : {E : Type 0} (p u : Word) (v : ℕ) (r : Result Transducer E) → IfOk r IsFormed → IfOk r (λ t. t.states ≡ max 1 (length p) + 1)
    → IfOk r (λ t. (read written : Word) → Pairs t read written ↔ (IsWord read × (written ≡ replace_first p u read))) → IfOk r (λ t. WritesWithin t (λ n. n + length p + length u))
    → IfOk r (λ t. max (edges_most t.edges) (ends_most t.ends) ≤ 1 + length p + length u) → IfOk r (IsFor (by.First p u v))
first-for p u v (Err e) formed states exact writes most = tt
first-for p u v (Ok t) formed states exact writes most = record {
  formed = formed;
  gives = exact;
  states = states ∙ ap (λ n. n + 1) (max_comm 1 (length p));
  writes = within_weaker t (λ n. n + length p + length u) (λ n. 1 * n + (length p + length u)) (λ n. omega arith) writes;
  most = omega arith;
}

pub all-for : {E : Type 0} (p u : Word) (v : ℕ) (r : Result Transducer E) → IfOk r IsFormed → IfOk r (λ t. t.states ≡ max 1 (length p))
    → IfOk r (λ t. (read written : Word) → Pairs t read written ↔ (IsWord read × (written ≡ replace_all p u read))) → IfOk r (λ t. WritesWithin t (λ n. (n + length p) * max 1 (length u)))
    → IfOk r (λ t. max (edges_most t.edges) (ends_most t.ends) ≤ (1 + length p) * max 1 (length u)) → IfOk r (IsFor (by.All p u v))
all-for p u v (Err e) formed states exact writes most = tt
all-for p u v (Ok t) formed states exact writes most = record {
  formed = formed;
  gives = exact;
  states = states ∙ max_comm 1 (length p);
  writes = within_weaker t (λ n. (n + length p) * max 1 (length u)) (λ n. max 1 (length u) * n + length p * max 1 (length u))
      (λ n. (let a = add-mul n (length p) (max 1 (length u)) in let c = mul_comm n (max 1 (length u)) in omega arith)) writes;
  most = let a = add-mul 1 (length p) (max 1 (length u)) in let b = one-mul (max 1 (length u)) in omega arith;
}

pub through-for : (t : Transducer) (v : ℕ) → IsFormed t → IsFor (by.Through t v) t
through-for t v formed = record {
  formed = formed;
  gives = refl;
  states = refl;
  writes = within_weaker t (λ n. n * edges_most t.edges + ends_most t.ends) (λ n. edges_most t.edges * n + ends_most t.ends)
      (λ n. (let c = mul_comm n (edges_most t.edges) in omega arith)) (within-most t);
  most = omega arith;
}

-- what isn't a concatenation reads a variable through a transducer
pub reads-other : (b : By) → ((ps : List ℕ) → b ≡ by.Concat ps → ⊥) → (v : ℕ) × (reads b ≡ Some v)
reads-other (by.Concat ps) h = absurd (h ps refl)
reads-other (by.First p u v) h = (v, refl)
reads-other (by.All p u v) h = (v, refl)
reads-other (by.Through t v) h = (v, refl)
