-- Runs of a machine met with a part of another one's runs, and runs of the product of two slices.
use Rattle.std.proofs.Common.{◌≡◌, ℕ, List, [], ◌∷◌, ◌++◌, length, map, Option, None, refl, sym, ap, ◌∙◌, subst}
use Rattle.machine_core.specs.declared.graph.Graph.{Graph}
use Rattle.machine_core.specs.declared.run.Run.{Run}
use Rattle.machine_core.specs.Costs.{add_costs, sum_costs}
use Rattle.machine_core.specs.CostLaws.{add_costs-zeros}
use Rattle.machine_core.specs.Edges.{StepsBy}
use Rattle.machine_core.specs.Graphs.{IsRunOf}
use Rattle.machine_core.specs.Runs.{IsPath, IsRun, run_total}
use Rattle.machine_core.specs.RunLaws.{run_accepted}
use Rattle.machine_meet.specs.Products.{MeetEnds, MeetSteps, meet_width}
use Rattle.machine_meet.specs.Splits.{ArePartRuns}
use Rattle.pre_image.specs.Slices.{SliceEnds}
use Rattle.pre_image.specs.declared.slice.Slice.{Slice}
use Rattle.backward.specs.Kept.{MachinePart, part_ends, part_steps, IsPartRun, IsRunOfBoth}
use Rattle.backward.proofs.MeetingLemmas.{slice_width, slice_first, slice_ends, slice_steps, AreTwo, between-width}

module _ {S : Type 0} (E F : S → List ℕ → Type 0) (M N : S → ℕ → List ℕ → S → Type 0) (ends : (s : S) (k : List ℕ) → E s k → F s k) (steps : (s t : S) (c : ℕ) (k : List ℕ) → M s c k t → N s c k t) where
  path-within : (s : S) (us : List S) (word : List ℕ) (costs : List (List ℕ)) (t : S) → IsPath M s us word costs t → IsPath N s us word costs t
  path-within s [] [] [] t h = h
  path-within s [] [] (k ∷ costs) t h = absurd h
  path-within s [] (c ∷ word) costs t h = absurd h
  path-within s (u ∷ us) [] costs t h = absurd h
  path-within s (u ∷ us) (c ∷ word) [] t h = absurd h
  path-within s (u ∷ us) (c ∷ word) (k ∷ costs) t h = (steps s u c k h.0, path-within u us word costs t h.1)

  pub run-within : (first : S) (run : Run S) → IsRun E M first run → IsRun F N first run
  run-within first run r = record { after = r.after; stop = r.stop; states = r.states; path = path-within first r.after run.word run.costs r.stop r.path; last = ends r.stop run.last r.last }

abbrev part_of : Slice → MachinePart
part_of s = (s.target.now, s.from, s.to)

module _ (w p : Slice) (width : ℕ) where
  ends-parts : (ss : List ℕ) (k : List ℕ) → MeetEnds slice_ends width (w ∷ p ∷ []) ss k → MeetEnds part_ends width (part_of w ∷ part_of p ∷ []) ss k
  ends-parts [] k h = h
  ends-parts (s ∷ []) k h = absurd h.3
  ends-parts (s ∷ t ∷ []) k h = h
  ends-parts (s ∷ t ∷ u ∷ ss) k h = absurd h.3.3

  parts-ends : (ss : List ℕ) (k : List ℕ) → MeetEnds part_ends width (part_of w ∷ part_of p ∷ []) ss k → MeetEnds slice_ends width (w ∷ p ∷ []) ss k
  parts-ends [] k h = h
  parts-ends (s ∷ []) k h = absurd h.3
  parts-ends (s ∷ t ∷ []) k h = h
  parts-ends (s ∷ t ∷ u ∷ ss) k h = absurd h.3.3

  steps-parts : (ss us : List ℕ) (c : ℕ) (k : List ℕ) → MeetSteps slice_steps width (w ∷ p ∷ []) ss c k us → MeetSteps part_steps width (part_of w ∷ part_of p ∷ []) ss c k us
  steps-parts [] us c k h = h
  steps-parts (s ∷ []) us c k h = absurd h.5
  steps-parts (s ∷ t ∷ []) us c k h = h
  steps-parts (s ∷ t ∷ u ∷ ss) us c k h = absurd h.5.5

  parts-steps : (ss us : List ℕ) (c : ℕ) (k : List ℕ) → MeetSteps part_steps width (part_of w ∷ part_of p ∷ []) ss c k us → MeetSteps slice_steps width (w ∷ p ∷ []) ss c k us
  parts-steps [] us c k h = h
  parts-steps (s ∷ []) us c k h = absurd h.5
  parts-steps (s ∷ t ∷ []) us c k h = h
  parts-steps (s ∷ t ∷ u ∷ ss) us c k h = absurd h.5.5

part-same : (g h : Graph) (i j : ℕ) (t u : Option ℕ) → g ≡ h → i ≡ j → t ≡ u → ◌≡◌ {A = MachinePart} (g, i, t) (h, j, u)
part-same g h i j t u e f k = ap (λ (x : Graph). (x, i, t)) e ∙ ap (λ (x : ℕ). (h, x, t)) f ∙ ap (λ (x : Option ℕ). (h, j, x)) k

abbrev IsSliceRun : Slice → Slice → Run (List ℕ) → Type 0
IsSliceRun w p run = IsRun (MeetEnds slice_ends (meet_width slice_width (w ∷ p ∷ [])) (w ∷ p ∷ [])) (MeetSteps slice_steps (meet_width slice_width (w ∷ p ∷ [])) (w ∷ p ∷ [])) (map slice_first (w ∷ p ∷ [])) run

abbrev IsPartsRun : ℕ → MachinePart → MachinePart → Run (List ℕ) → Type 0
IsPartsRun width a b run = IsRun (MeetEnds part_ends width (a ∷ b ∷ [])) (MeetSteps part_steps width (a ∷ b ∷ [])) (a.1 ∷ b.1 ∷ []) run

module _ (w p : Slice) (m target : Graph) (from : ℕ) (to : Option ℕ) (two : AreTwo w p m target from to) where
  whole-is : part_of w ≡ (m, 0, None)
  whole-is = part-same w.target.now m w.from 0 w.to None two.whole two.first two.last

  part-is : part_of p ≡ (target, from, to)
  part-is = part-same p.target.now target p.from from p.to to two.part two.begins two.ends

  width-is : w.target.now.registers ≡ m.registers
  width-is = ap (λ (g : Graph). g.registers) two.whole

  pub both-out : (run : Run (List ℕ)) → IsSliceRun w p run → IsRunOfBoth m target from to run
  both-out run r =
      let width = w.target.now.registers in
      let plain : IsPartsRun width (part_of w) (part_of p) run =
      run-within (MeetEnds slice_ends width (w ∷ p ∷ [])) (MeetEnds part_ends width (part_of w ∷ part_of p ∷ [])) (MeetSteps slice_steps width (w ∷ p ∷ [])) (MeetSteps part_steps width (part_of w ∷ part_of p ∷ []))
      (ends-parts w p width) (steps-parts w p width) (map slice_first (w ∷ p ∷ [])) run r in
      subst (λ n. IsPartsRun n (m, 0, None) (target, from, to) run) width-is
      (subst (λ a. IsPartsRun width a (target, from, to) run) whole-is (subst (λ b. IsPartsRun width (part_of w) b run) part-is plain))

  pub both-in : (run : Run (List ℕ)) → IsRunOfBoth m target from to run → IsSliceRun w p run
  both-in run r =
      let width = w.target.now.registers in
      let plain : IsPartsRun width (part_of w) (part_of p) run =
      subst (λ b. IsPartsRun width (part_of w) b run) (sym part-is) (subst (λ a. IsPartsRun width a (target, from, to) run) (sym whole-is)
      (subst (λ n. IsPartsRun n (m, 0, None) (target, from, to) run) (sym width-is) r)) in
      run-within (MeetEnds part_ends width (part_of w ∷ part_of p ∷ [])) (MeetEnds slice_ends width (w ∷ p ∷ [])) (MeetSteps part_steps width (part_of w ∷ part_of p ∷ [])) (MeetSteps slice_steps width (w ∷ p ∷ []))
      (parts-ends w p width) (parts-steps w p width) (map slice_first (w ∷ p ∷ [])) run plain

  -- one run of each
  pub two-runs : (word : List ℕ) (runs : List (Run ℕ)) → ArePartRuns slice_ends slice_steps slice_first (w ∷ p ∷ []) word runs
      → (a b : Run ℕ) × (runs ≡ a ∷ b ∷ []) × IsRunOf m a × IsPartRun target from to b × (a.word ≡ word) × (b.word ≡ word)
  two-runs word [] h = absurd h
  two-runs word (a ∷ []) h = absurd h.2
  two-runs word (a ∷ b ∷ []) h = (
    a,
    b,
    refl,
    subst (λ (q : MachinePart). IsPartRun q.0 q.1 q.2 a) whole-is h.0,
    subst (λ (q : MachinePart). IsPartRun q.0 q.1 q.2 b) part-is h.2.0,
    h.1,
    h.2.1,
  )
  two-runs word (a ∷ b ∷ c ∷ runs) h = absurd h.2.2

  pub two-costs : (a b : Run ℕ) → IsPartRun target from to b → (total : List ℕ) → sum_costs w.target.now.registers (run_total a ∷ run_total b ∷ []) ≡ total → add_costs (run_total a) (run_total b) ≡ total
  two-costs a b r total e =
      let wide = between-width target from to b.word (run_total b) (run_accepted (StepsBy target.edges) (SliceEnds target.registers target.ends to) from b r) in
      let same : length (run_total b) ≡ w.target.now.registers = wide ∙ sym two.registers ∙ sym width-is in
      ap (add_costs (run_total a)) (sym (add_costs-zeros (run_total b) w.target.now.registers same)) ∙ e

-- the last two of two
two-only : {X : Type 0} (s : List X) (a b x y : X) → a ∷ b ∷ [] ≡ (s ++ x ∷ []) ++ y ∷ [] → (x ≡ a) × (y ≡ b)
two-only [] a b x y e = (cc, cc)
two-only (z ∷ []) a b x y e = cc
two-only (z ∷ u ∷ []) a b x y e = cc
two-only (z ∷ u ∷ v ∷ s) a b x y e = cc

pub last-two : {X : Type 0} (runs : List X) (a b x y : X) (r s : List X) → runs ≡ a ∷ b ∷ [] → runs ≡ r ++ y ∷ [] → r ≡ s ++ x ∷ [] → (x ≡ a) × (y ≡ b)
last-two runs a b x y r s e f g = two-only s a b x y (sym e ∙ f ∙ ap (λ l. l ++ y ∷ []) g)
