-- Runs taken back over a concatenation: what was met, what is taken apart, and what is joined.
use Rattle.std.proofs.Common.{◌≡◌, ℕ, zero, suc, ◌-◌, ◌<◌, ◌≤◌, cond, List, [], ◌∷◌, ◌++◌, length, map, take, drop, get_or, All, Contains, Option, Some, None, MatchOption, slice_get, slice_set, refl, sym, ap, ◌∙◌, subst, arith, inl, inr, append-nil, append_assoc, length-append, length-drop}
use Rattle.std.proofs.lemmas.Bool.Decides.{eqb_tells}
use Rattle.std.proofs.lemmas.Option.{slice_get_within, slice_get-get_or}
use Rattle.std.proofs.lemmas.List.{drop_all}
use Rattle.sv_list.specs.Lists.{drop-found}
use Rattle.machine_meet.proofs.SplitLemmas.{path-end}
use Rattle.machine_core.specs.declared.graph.Graph.{Graph}
use Rattle.machine_core.specs.declared.run.Run.{Run}
use Rattle.machine_core.specs.Costs.{add_costs, zeros}
use Rattle.machine_core.specs.CostLaws.{add_costs-assoc, add_costs-zeros}
use Rattle.machine_core.specs.Edges.{EndsAt, StepsBy}
use Rattle.machine_core.specs.EdgeLaws.{step_target, step_cost, run_width}
use Rattle.machine_core.specs.Graphs.{IsRunOf}
use Rattle.machine_core.specs.RunLaws.{run_formed, run_accepted}
use Rattle.machine_core.specs.Runs.{run_total}
use Rattle.sv_terms.specs.Meaning.{joined}
use Rattle.pre_image.specs.Slices.{SliceEnds}
use Rattle.pre_image.specs.SliceLaws.{slice_end_cost}
use Rattle.pre_image.specs.Lifts.{IsJoined}
use Rattle.backward.specs.Families.{Family, Words, HasMachine, without}
use Rattle.backward.specs.Pieces.{first_of}
use Rattle.backward.specs.Kept.{IsKeptMeeting, IsPartRun, IsApart}
use Rattle.backward.specs.Made.{AreMet, IsCut}
use Rattle.backward.specs.Back.{AreBack}
use Rattle.backward.specs.PiecesBack.{met_at, HasMet, AreTakenBack}
use Rattle.backward.specs.Runs.{Runs, AreRuns, run_words, run_totals}
use Rattle.backward.specs.declared.leaf_state.LeafState.{LeafState}
use Rattle.backward.specs.declared.leaf_state.FamilyOrigin.{FamilyOrigin}
use Rattle.backward.specs.declared.leaf_state.FamilyOrigin.TheVariants as made
use Rattle.backward.specs.declared.meeting.Apart.{Apart}
use Rattle.backward.specs.declared.meeting.MetPart.{MetPart}
use Rattle.backward.proofs.ConfLemmas.{set-same, set-other, without-other}
use Rattle.backward.proofs.LoopLemmas.{same-found, first-drop}
use Rattle.backward.proofs.PlaceLemmas.{same_Some, free-held, held-once}
use Rattle.backward.proofs.RunsBack.{run-of, no-run, runs-back, totals-less, totals-more, word-there, word-other, word-of}

drop-none : {X : Type 0} (xs : List X) (i : ℕ) → slice_get xs i ≡ None → drop i xs ≡ []
drop-none [] zero e = refl
drop-none [] (suc i) e = refl
drop-none (x ∷ xs) zero e = cc
drop-none (x ∷ xs) (suc i) e = drop-none xs i e

get-behind : {X : Type 0} (xs : List X) (x : X) (ys : List X) → slice_get ((xs ++ x ∷ []) ++ ys) (length xs) ≡ Some x
get-behind [] x ys = refl
get-behind (z ∷ zs) x ys = get-behind zs x ys

set-self : {X : Type 0} (xs : List X) (i : ℕ) (x : X) → slice_get xs i ≡ Some x → slice_set xs i x ≡ xs
set-self [] i x e = refl
set-self (y ∷ ys) zero x e = let same : x ≡ y = cc in ap (λ z. z ∷ ys) same
set-self (y ∷ ys) (suc i) x e = ap (λ zs. y ∷ zs) (set-self ys i x e)

joined-same : (f g : Words) (ps : List ℕ) → ((p : ℕ) → Contains ps p → f p ≡ g p) → joined (map f ps) ≡ joined (map g ps)
joined-same f g [] h = refl
joined-same f g (p ∷ ps) h =
    ap (λ w. w ++ joined (map f ps)) (h p (zero, omega arith, refl)) ∙ ap (λ w. g p ++ w) (joined-same f g ps (λ q c. h q (suc c.0, omega (arith, c.1), c.2)))

joined-more : (f : Words) (ps : List ℕ) (i p : ℕ) → slice_get ps i ≡ Some p → joined (map f (take i ps)) ++ f p ≡ joined (map f (take (suc i) ps))
joined-more f [] i p e = cc
joined-more f (q ∷ ps) zero p e = let same : p ≡ q = cc in ap f same ∙ sym (append-nil (f q))
joined-more f (q ∷ ps) (suc i) p e = append_assoc (f q) (joined (map f (take i ps))) (f p) ∙ ap (λ w. f q ++ w) (joined-more f ps i p e)

-- the costs of a part's run have a number for each register
part-formed : (m : Graph) (from : ℕ) (to : Option ℕ) (run : Run ℕ) → from < m.states → IsPartRun m from to run → All (λ k. length k ≡ m.registers) run.costs × (length run.last ≡ m.registers)
part-formed m from to run lt r =
    let all = run_formed (StepsBy m.edges) (λ s. s < m.states) m.registers (λ s t c cost h step. step_target m.states m.registers m.edges m.ends m.formed s t c cost step)
    (λ s t c cost h step. (step_cost m.states m.registers m.edges m.ends m.formed s t c cost step).entries) (SliceEnds m.registers m.ends to)
    (λ s cost h e. (slice_end_cost m to s cost e).entries) from lt run r in
    (all.1, all.2)

-- a part's run up to a state and one from there on, joined, are a run of the longer part
abbrev pub Joins : Graph → ℕ → Option ℕ → Type 0
Joins m from to = (t : ℕ) (first second whole : Run ℕ) → IsPartRun m from (Some t) first → IsPartRun m t to second → IsJoined first second whole → IsPartRun m from to whole

-- one meeting for each piece
met-count : (target : Graph) (ss ps : List ℕ) (base : Family) (qs : List MetPart) (ns : Family) → AreMet target ss ps base qs ns → length qs ≡ length ps
met-count target [] [] base qs ns h = ap length h.0
met-count target [] (p ∷ ps) base qs ns h = absurd h
met-count target (s ∷ ss) [] base qs ns h = absurd h
met-count target (s ∷ ss) (p ∷ ps) base qs ns h =
    let rest = met-count target ss ps base h.3 h.0 h.4 in
    ap length h.7 ∙ more h.3 h.2 ∙ ap suc rest
  where
    more : (xs : List MetPart) (x : MetPart) → length (xs ++ x ∷ []) ≡ suc (length xs)
    more [] x = refl
    more (y ∷ ys) x = ap suc (more ys x)

-- the machine of a variable, where this is what it was met to
abbrev Holds : Family → ℕ → Graph → Option MetPart → Type 0
Holds ms v k o = MatchOption o (HasMachine ms v k) (λ (q : MetPart). k ≡ q.small.machine)

-- one piece more
met-step : (base mid ns : Family) (p : ℕ) (ps : List ℕ) (k : Graph) (q : MetPart) (rest qs done : List MetPart) → length rest ≡ length ps → HasMachine mid p k → qs ≡ rest ++ q ∷ []
    → ns ≡ slice_set mid p (Some q.small.machine) → (v : ℕ) (m : Graph) → HasMachine ns v m → (HasMachine mid v m → HasMet base v ps (rest ++ q ∷ done) m) → HasMet base v (p ∷ ps) (qs ++ done) m
met-step base mid ns p ps k q rest qs done count old last now v m e more = elim (eqb_tells p v) [
  | inl is ↦
      let at : slice_get (qs ++ done) (length ps) ≡ Some q = ap (λ l. slice_get (l ++ done) (length ps)) last ∙ ap (slice_get ((rest ++ q ∷ []) ++ done)) (sym count) ∙ get-behind rest q done in
      let here : HasMachine (slice_set mid p (Some q.small.machine)) p m = subst (λ u. HasMachine (slice_set mid p (Some q.small.machine)) u m) (sym is.1) (subst (λ l. HasMachine l v m) now e) in
      let there = set-same mid p (Some k) (Some q.small.machine) old in
      let same = held-once m q.small.machine (sym here ∙ there) in
      subst (λ b. Holds base v m (cond b (slice_get (qs ++ done) (length ps)) (met_at v ps (qs ++ done)))) (sym is.0) (subst (Holds base v m) (sym at) same)
  | inr off ↦
      let before : HasMachine mid v m = sym (set-other mid p v (Some q.small.machine) (λ i. off.1 (sym i))) ∙ subst (λ l. HasMachine l v m) now e in
      let list : rest ++ q ∷ done ≡ qs ++ done = sym (append_assoc rest (q ∷ []) done) ∙ ap (λ l. l ++ done) (sym last) in
      subst (λ b. Holds base v m (cond b (slice_get (qs ++ done) (length ps)) (met_at v ps (qs ++ done)))) (sym off.0) (subst (λ l. HasMet base v ps l m) list (more before))
]

-- the machine of a variable once these pieces are met
met-machine : (target : Graph) (ss ps : List ℕ) (base : Family) (qs done : List MetPart) (ns : Family) → AreMet target ss ps base qs ns
    → (v : ℕ) (m : Graph) → HasMachine ns v m → HasMet base v ps (qs ++ done) m
met-machine target [] [] base qs done ns h v m e = subst (λ l. HasMachine l v m) h.1 e
met-machine target [] (p ∷ ps) base qs done ns h v m e = absurd h
met-machine target (s ∷ ss) [] base qs done ns h v m e = absurd h
met-machine target (s ∷ ss) (p ∷ ps) base qs done ns h v m e =
    met-step base h.0 ns p ps h.1 h.2 h.3 qs done (met-count target ss ps base h.3 h.0 h.4) h.5 h.7 h.8 v m e (λ f. met-machine target ss ps base h.3 (h.2 ∷ done) h.0 h.4 v m f)

now-there : (mid ns : Family) (p : ℕ) (k : Graph) (q : MetPart) → ns ≡ slice_set mid p (Some q.small.machine) → HasMachine mid p k → HasMachine ns p q.small.machine
now-there mid ns p k q e h = subst (λ l. HasMachine l p q.small.machine) (sym e) (set-same mid p (Some k) (Some q.small.machine) h)

-- no piece is the variable that was cut
others-step : (x p : ℕ) (ps : List ℕ) (mid ns : Family) (k : Graph) (q : MetPart) → HasMachine mid p k → ns ≡ slice_set mid p (Some q.small.machine)
    → (slice_get mid x ≡ Some None) × ((r : ℕ) → Contains ps r → r ≡ x → ⊥) → (slice_get ns x ≡ Some None) × ((r : ℕ) → Contains (p ∷ ps) r → r ≡ x → ⊥)
others-step x p ps mid ns k q there now rest = (ap (λ l. slice_get l x) now ∙ set-other mid p x (Some q.small.machine) (λ e. other (sym e)) ∙ rest.0, each)
  where
    other : p ≡ x → ⊥
    other e = free-held k (sym rest.0 ∙ sym (ap (slice_get mid) e) ∙ there)

    each : (r : ℕ) → Contains (p ∷ ps) r → r ≡ x → ⊥
    each r (zero, lt, e) = subst (λ u. u ≡ x → ⊥) e other
    each r (suc i, lt, e) = rest.1 r (i, omega (arith, lt), e)

met-others : (target : Graph) (x : ℕ) (ss ps : List ℕ) (base : Family) → slice_get base x ≡ Some None → (qs : List MetPart) (ns : Family) → AreMet target ss ps base qs ns
    → (slice_get ns x ≡ Some None) × ((p : ℕ) → Contains ps p → p ≡ x → ⊥)
met-others target x [] [] base gone qs ns h = (ap (λ l. slice_get l x) h.1 ∙ gone, λ p c e. omega (arith, c.1))
met-others target x [] (p ∷ ps) base gone qs ns h = absurd h
met-others target x (s ∷ ss) [] base gone qs ns h = absurd h
met-others target x (s ∷ ss) (p ∷ ps) base gone qs ns h = others-step x p ps h.0 ns h.1 h.2 h.5 h.8 (met-others target x ss ps base gone h.3 h.0 h.4)

-- the variable's machine in the family from which it was taken out
has-met : (ms : Family) (x v : ℕ) (ps : List ℕ) (qs : List MetPart) (k : Graph) → HasMet (without ms x) v ps qs k → HasMet ms v ps qs k
has-met ms x v ps qs k h = by (met_at v ps qs) h
  where
    by : (o : Option MetPart) → Holds (without ms x) v k o → Holds ms v k o
    by None e = sym (set-other ms x v None (without-other ms x v k e)) ∙ e
    by (Some q) e = e

-- a variable has one machine
pub one-met : (ms : Family) (v : ℕ) (ps : List ℕ) (qs : List MetPart) (k g : Graph) → HasMet ms v ps qs k → HasMet ms v ps qs g → k ≡ g
one-met ms v ps qs k g = by (met_at v ps qs)
  where
    by : (o : Option MetPart) → Holds ms v k o → Holds ms v g o → k ≡ g
    by None e f = held-once k g (sym e ∙ f)
    by (Some q) e f = e ∙ sym f

-- what is known of the piece that is taken back next
record IsNext (target : Graph) (base : Family) (starts pieces : List ℕ) (qs : List MetPart) (ns : Family) (i p : ℕ) : Type 0 where
  from : ℕ
  begins : slice_get starts i ≡ Some from
  mid : Family
  k : Graph
  q : MetPart
  rest : List MetPart
  met : AreMet target (drop (suc i) starts) (drop (suc i) pieces) base rest mid
  there : HasMachine mid p k
  kept : IsKeptMeeting k target from (first_of (drop (suc i) starts)) q
  last : qs ≡ rest ++ q ∷ []
  now : ns ≡ slice_set mid p (Some q.small.machine)

is-next : (target : Graph) (base : Family) (starts pieces : List ℕ) (qs : List MetPart) (ns : Family) (i p : ℕ) → slice_get pieces i ≡ Some p
    → AreMet target (drop i starts) (drop i pieces) base qs ns → IsNext target base starts pieces qs ns i p
is-next target base starts pieces qs ns i p at met = by (slice_get starts i) refl
  where
    behind : AreMet target (drop i starts) (p ∷ drop (suc i) pieces) base qs ns
    behind = subst (λ l. AreMet target (drop i starts) l base qs ns) (drop-found pieces i p at) met

    by : (o : Option ℕ) → slice_get starts i ≡ o → IsNext target base starts pieces qs ns i p
    by None e = absurd (subst (λ l. AreMet target l (p ∷ drop (suc i) pieces) base qs ns) (drop-none starts i e) behind)
    by (Some s) e =
        let h = subst (λ l. AreMet target l (p ∷ drop (suc i) pieces) base qs ns) (drop-found starts i s e) behind in
        record { from = s; begins = e; mid = h.0; k = h.1; q = h.2; rest = h.3; met = h.4; there = h.5; kept = h.6; last = h.7; now = h.8 }

module _ (ms : Family) (x : ℕ) (target : Graph) (cuts pieces : List ℕ) (meetings : List MetPart) (old : Runs) (i : ℕ) (lt : i < length pieces) (rs : Runs) (whole : Run ℕ)
    (b : AreTakenBack target (without ms x) cuts pieces meetings old i rs whole) where
  abbrev piece : ℕ
  piece = get_or pieces i 0

  piece-at : slice_get pieces i ≡ Some piece
  piece-at = slice_get-get_or pieces i 0 lt

  next : IsNext target (without ms x) (0 ∷ cuts) pieces b.left b.family i piece
  next = is-next target (without ms x) (0 ∷ cuts) pieces b.left b.family i piece piece-at b.met

  -- where its meeting stands
  place : length pieces - 1 - i ≡ length next.rest
  place =
      let count = met-count target (drop (suc i) (0 ∷ cuts)) (drop (suc i) pieces) (without ms x) next.rest next.mid next.met in
      let behind = length-drop (suc i) pieces in
      omega arith

  meeting-at : slice_get meetings (length pieces - 1 - i) ≡ Some next.q
  meeting-at = ap (slice_get meetings) place ∙ ap (λ l. slice_get l (length next.rest)) (b.split ∙ ap (λ l. l ++ b.done) next.last) ∙ get-behind next.rest next.q b.done

  pub met-length : length meetings ≡ length pieces
  met-length =
      let count = met-count target (drop i (0 ∷ cuts)) (drop i pieces) (without ms x) b.left b.family b.met in
      let left = length-drop i pieces in
      let done = b.count in
      let all = ap length b.split ∙ length-append b.left b.done in
      omega arith

  pub meeting-below : length pieces - 1 - i < length meetings
  meeting-below = slice_get_within meetings (length pieces - 1 - i) next.q meeting-at

  -- the machine that it was met with
  machine-met : HasMet ms piece (drop (suc i) pieces) meetings next.k
  machine-met =
      let list : next.rest ++ next.q ∷ b.done ≡ meetings = sym (append_assoc next.rest (next.q ∷ []) b.done) ∙ ap (λ l. l ++ b.done) (sym next.last) ∙ sym b.split in
      has-met ms x piece (drop (suc i) pieces) meetings next.k
      (subst (λ l. HasMet (without ms x) piece (drop (suc i) pieces) l next.k) list
      (met-machine target (drop (suc i) (0 ∷ cuts)) (drop (suc i) pieces) (without ms x) next.rest (next.q ∷ b.done) next.mid next.met piece next.k next.there))

  pub machine-there : (k : Graph) × HasMet ms piece (drop (suc i) pieces) meetings k
  machine-there = (next.k, machine-met)

  small-there : HasMachine b.family piece next.q.small.machine
  small-there = now-there next.mid b.family piece next.k next.q next.now next.there

  -- its run
  run-held : (r : Run ℕ) × (slice_get rs piece ≡ Some (Some r)) × IsRunOf next.q.small.machine r
  run-held = run-of b.family piece next.q.small.machine rs small-there b.are

  pub run-there : (r : Run ℕ) × (slice_get rs piece ≡ Some (Some r))
  run-there = (run-held.0, run-held.1)

  pub piece-below : piece < length rs
  piece-below = slice_get_within rs piece (Some run-held.0) run-held.1

  module _ (g : Graph) (mg : HasMet ms piece (drop (suc i) pieces) meetings g) (q : MetPart) (mq : slice_get meetings (length pieces - 1 - i) ≡ Some q)
      (r : Run ℕ) (mr : slice_get rs piece ≡ Some (Some r)) (from : ℕ) (mf : slice_get (0 ∷ cuts) i ≡ Some from) (to : Option ℕ) (mt : to ≡ slice_get cuts i) where
    same-machine : next.k ≡ g
    same-machine = one-met ms piece (drop (suc i) pieces) meetings next.k g machine-met mg

    same-meeting : next.q ≡ q
    same-meeting = same_Some next.q q (sym meeting-at ∙ mq)

    same-from : next.from ≡ from
    same-from = same_Some next.from from (sym next.begins ∙ mf)

    same-to : first_of (drop (suc i) (0 ∷ cuts)) ≡ to
    same-to = first-drop cuts i ∙ sym mt

    pub piece-kept : IsKeptMeeting g target from to q
    piece-kept =
        let met = subst (IsKeptMeeting next.k target next.from (first_of (drop (suc i) (0 ∷ cuts)))) same-meeting next.kept in
        let begun = subst (λ s. IsKeptMeeting next.k target s (first_of (drop (suc i) (0 ∷ cuts))) q) same-from met in
        let ended = subst (λ t. IsKeptMeeting next.k target from t q) same-to begun in
        subst (λ k. IsKeptMeeting k target from to q) same-machine ended

    pub piece-run : IsRunOf q.small.machine r
    piece-run =
        let w = run-held in
        let same = held-once w.0 r (sym w.1 ∙ mr) in
        subst (λ (m : MetPart). IsRunOf m.small.machine r) same-meeting (subst (IsRunOf next.q.small.machine) same w.2)

    -- the run so far ends where the piece's part begins
    pub so-far : IsPartRun target 0 (Some from) whole
    so-far = subst (λ t. IsPartRun target 0 t whole) (first-drop (0 ∷ cuts) i ∙ mf) b.run

    module _ (a : Apart) (ap' : IsApart g target from to r a) where
      whole-formed : All (λ k. length k ≡ target.registers) whole.costs × (length whole.last ≡ target.registers)
      whole-formed = part-formed target 0 (Some from) whole target.started so-far

      part-wide : All (λ k. length k ≡ target.registers) a.part.costs × (length a.part.last ≡ target.registers)
      part-wide = part-formed target from to a.part piece-kept.begins ap'.part

      pub join-begins : 0 < length whole.states
      join-begins = let e = ap length so-far.states in omega arith

      pub join-meets : slice_get whole.states (length whole.states - 1) ≡ slice_get a.part.states 0
      join-meets =
          let e = ap length so-far.states in
          let n : length whole.states - 1 ≡ length so-far.after = omega arith in
          ap (slice_get whole.states) n ∙ ap (λ l. slice_get l (length so-far.after)) so-far.states
          ∙ path-end (StepsBy target.edges) 0 so-far.after whole.word whole.costs so-far.stop so-far.path ∙ ap Some so-far.last.0 ∙ sym (ap (λ l. slice_get l 0) ap'.part.states)

      pub join-first : All (λ k. length k ≡ length a.part.last) whole.costs
      join-first = λ j d below. whole-formed.0 j d below ∙ sym part-wide.1

      pub join-second : All (λ k. length k ≡ length a.part.last) a.part.costs
      join-second = λ j d below. part-wide.0 j d below ∙ sym part-wide.1

      pub join-free : whole.last ≡ zeros (length a.part.last)
      join-free = so-far.last.1 ∙ ap zeros (sym part-wide.1)

      -- and one piece more is taken back
      pub taken-next : (longer : Run ℕ) → IsJoined whole a.part longer → run_total longer ≡ add_costs (run_total whole) (run_total a.part) → IsPartRun target 0 to longer
          → (new : Runs) → new ≡ slice_set rs piece (Some a.whole) → AreTakenBack target (without ms x) cuts pieces meetings old (suc i) new longer
      taken-next longer is total run new e = record {
        family = next.mid;
        left = next.rest;
        done = next.q ∷ b.done;
        split = b.split ∙ ap (λ l. l ++ b.done) next.last ∙ append_assoc next.rest (next.q ∷ []) b.done;
        count = ap suc b.count;
        met = next.met;
        are = subst (AreRuns next.mid) (sym e) (runs-back next.mid piece (Some next.q.small.machine) next.k rs a.whole next.there (subst (λ l. AreRuns l rs) next.now b.are)
            (subst (λ k. IsRunOf k a.whole) (sym same-machine) ap'.whole));
        words = λ v. ap (λ (l : Runs). run_words l v) e ∙ kept v ∙ b.words v;
        totals = λ n.
            ap (λ (l : Runs). add_costs (run_total longer) (run_totals n l)) e
            ∙ ap (λ k. add_costs k (run_totals n (slice_set rs piece (Some a.whole)))) total
            ∙ add_costs-assoc (run_total whole) (run_total a.part) (run_totals n (slice_set rs piece (Some a.whole)))
            ∙ ap (add_costs (run_total whole)) (totals-less n rs piece r a.whole (run_total a.part) mr ap'.total) ∙ b.totals n;
        word =
            is.word ∙ ap (λ w. w ++ a.part.word) b.word
            ∙ ap (λ w. joined (map (run_words old) (take i pieces)) ++ w) (ap'.part_word ∙ sym (word-of rs piece r mr) ∙ b.words piece)
            ∙ joined-more (run_words old) pieces i piece piece-at;
        run = subst (λ t. IsPartRun target 0 t longer) (sym same-to) run;
      }
        where
          kept : (v : ℕ) → run_words (slice_set rs piece (Some a.whole)) v ≡ run_words rs v
          kept v = elim (eqb_tells v piece) [
            | inl same ↦
                ap (run_words (slice_set rs piece (Some a.whole))) same.1 ∙ word-there rs piece (Some r) a.whole mr ∙ ap'.whole_word ∙ sym (word-of rs piece r mr) ∙ ap (run_words rs) (sym same.1)
            | inr off ↦ word-other rs piece v a.whole off.1
          ]

same-cut : (p q : List MetPart) → ◌≡◌ {A = FamilyOrigin} (made.Cut p) (made.Cut q) → p ≡ q
same-cut p q e = cc

-- what was met, where these meetings were kept
pub cut-with : {ms : Family} {x : ℕ} {pieces cuts : List ℕ} {ns : LeafState} {meetings : List MetPart} {g : Graph} → IsCut ms x pieces cuts ns → ns.made ≡ made.Cut meetings → HasMachine ms x g
    → AreMet g (0 ∷ cuts) pieces (without ms x) meetings ns.machines
cut-with {ms = ms} {x = x} {pieces = pieces} {cuts = cuts} {ns = ns} {meetings = meetings} {g = g} c e hg =
    subst (λ qs. AreMet g (0 ∷ cuts) pieces (without ms x) qs ns.machines) (same-cut c.meetings meetings (sym c.made ∙ e))
    (subst (λ m. AreMet m (0 ∷ cuts) pieces (without ms x) c.meetings ns.machines) (same-found ms x c.target g c.machine hg) c.met)

-- before the first piece is taken back
module _ (ms : Family) (x : ℕ) (target : Graph) (cuts pieces : List ℕ) (meetings : List MetPart) (ns : Family) (met : AreMet target (0 ∷ cuts) pieces (without ms x) meetings ns)
    (rs : Runs) (runs : AreRuns ns rs) where
  some-pieces : (ps : List ℕ) → AreMet target (0 ∷ cuts) ps (without ms x) meetings ns → 0 < length ps
  some-pieces [] h = absurd h
  some-pieces (p ∷ ps) h = omega arith

  first : IsNext target (without ms x) (0 ∷ cuts) pieces meetings ns 0 (get_or pieces 0 0)
  first = is-next target (without ms x) (0 ∷ cuts) pieces meetings ns 0 (get_or pieces 0 0) (slice_get-get_or pieces 0 0 (some-pieces pieces met)) met

  nothing-more : (n : ℕ) → add_costs (zeros target.registers) (run_totals n rs) ≡ run_totals n rs
  nothing-more n =
      let p = get_or pieces 0 0 in
      let m = first.q.small.machine in
      let there = subst (λ l. HasMachine l p m) (sym first.now) (set-same first.mid p (Some first.k) (Some m) first.there) in
      let r = run-of ns p m rs there runs in
      let accepted = run_accepted (StepsBy m.edges) (EndsAt m.ends) 0 r.0 r.2 in
      let wide : length (run_total r.0) ≡ target.registers =
      run_width m.states m.registers m.edges m.ends m.formed r.0.word 0 (run_total r.0) accepted ∙ first.kept.meets.grown.registers ∙ first.kept.registers in
      sym (ap (λ (l : Runs). add_costs (zeros target.registers) (run_totals n l)) (set-self rs p (Some r.0) r.1))
      ∙ totals-less n rs p r.0 r.0 (zeros target.registers) r.1 (add_costs-zeros (run_total r.0) target.registers wide)

  pub taken-first : (whole : Run ℕ) → whole.word ≡ [] → whole.states ≡ 0 ∷ [] → whole.costs ≡ [] → whole.last ≡ zeros target.registers
      → AreTakenBack target (without ms x) cuts pieces meetings rs 0 rs whole
  taken-first whole word states costs last = record {
    family = ns;
    left = meetings;
    done = [];
    split = sym (append-nil meetings);
    count = refl;
    met = met;
    are = runs;
    words = λ v. refl;
    totals = λ n. ap (λ k. add_costs k (run_totals n rs)) total ∙ nothing-more n;
    word = word;
    run = record { after = []; stop = 0; states = states; path = rw (word, costs) refl; last = (refl, last) };
  }
    where
      total : run_total whole ≡ zeros target.registers
      total = rw costs last

-- once all are taken back, the run of the machine that was cut goes in its place
module _ (ms : Family) (x : ℕ) (target : Graph) (there : HasMachine ms x target) (cuts pieces : List ℕ) (meetings : List MetPart) (ns : Family)
    (met : AreMet target (0 ∷ cuts) pieces (without ms x) meetings ns) (old rs : Runs) (whole : Run ℕ)
    (b : AreTakenBack target (without ms x) cuts pieces meetings old (length pieces) rs whole) where
  all-done : (starts : List ℕ) → AreMet target starts [] (without ms x) b.left b.family → (starts ≡ []) × (b.family ≡ without ms x)
  all-done [] h = (refl, h.1)
  all-done (s ∷ starts) h = absurd h

  ended : (drop (length pieces) (0 ∷ cuts) ≡ []) × (b.family ≡ without ms x)
  ended = all-done (drop (length pieces) (0 ∷ cuts)) (subst (λ l. AreMet target (drop (length pieces) (0 ∷ cuts)) l (without ms x) b.left b.family) (drop_all (length pieces) pieces (omega arith)) b.met)

  whole-run : IsRunOf target whole
  whole-run = subst (λ l. IsPartRun target 0 (first_of l) whole) ended.0 b.run

  left-runs : AreRuns (without ms x) rs
  left-runs = subst (λ l. AreRuns l rs) ended.1 b.are

  gone : slice_get (without ms x) x ≡ Some None
  gone = set-same ms x (Some target) None there

  none-there : slice_get rs x ≡ Some None
  none-there = no-run (without ms x) x rs gone left-runs

  pub cut-below : x < length rs
  cut-below = slice_get_within rs x None none-there

  module _ (new : Runs) (is : new ≡ slice_set rs x (Some whole)) where
    other-words : (v : ℕ) → (v ≡ x → ⊥) → run_words new v ≡ run_words old v
    other-words v ne = ap (λ (l : Runs). run_words l v) is ∙ word-other rs x v whole ne ∙ b.words v

    pub cut-back : AreBack ms x old new
    cut-back = record {
      runs = subst (AreRuns ms) (sym is) (runs-back ms x None target rs whole there left-runs whole-run);
      totals = λ n. ap (run_totals n) is ∙ totals-more n rs x whole none-there ∙ b.totals n;
      others = other-words;
    }

    pub cut-joined : run_words new x ≡ joined (map (run_words new) pieces)
    cut-joined =
        let all : joined (map (run_words old) (take (length pieces) pieces)) ≡ joined (map (run_words old) pieces) = ap (λ l. joined (map (run_words old) l)) (take-whole pieces) in
        let others = (met-others target x (0 ∷ cuts) pieces (without ms x) gone meetings ns met).1 in
        ap (λ (l : Runs). run_words l x) is ∙ word-there rs x None whole none-there ∙ b.word ∙ all
        ∙ joined-same (run_words old) (run_words new) pieces (λ p c. sym (other-words p (others p c)))
      where
        take-whole : {X : Type 0} (xs : List X) → take (length xs) xs ≡ xs
        take-whole [] = refl
        take-whole (y ∷ ys) = ap (λ l. y ∷ l) (take-whole ys)

pub met-end : (v : ℕ) (ps : List ℕ) (i : ℕ) (qs : List MetPart) → length ps ≤ i → met_at v (drop i ps) qs ≡ None
met-end v ps i qs h = ap (λ l. met_at v l qs) (drop_all i ps h)

pub met-none : (ms : Family) (v : ℕ) (ps : List ℕ) (qs : List MetPart) (k : Graph) → met_at v ps qs ≡ None → HasMet ms v ps qs k → HasMachine ms v k
met-none ms v ps qs k e h = subst (λ o. MatchOption o (HasMachine ms v k) (λ (q : MetPart). k ≡ q.small.machine)) e h
