-- A machine met with a part of another one's runs: what the explored and trimmed product of two slices is.
use Rattle.std.proofs.Common.{◌≡◌, ℕ, ◌+◌, ◌*◌, ◌<◌, ◌≤◌, ◌↔◌, List, [], ◌∷◌, length, map, Option, Some, None, sym, ap, ◌∙◌, subst, arith}
use Rattle.sv_word.specs.Words.{IsWord}
use Rattle.machine_core.specs.declared.graph.Graph.{Graph}
use Rattle.machine_core.specs.Language.{RunsFrom, SameRuns}
use Rattle.machine_core.specs.LanguageLaws.{runs_are_words}
use Rattle.machine_core.specs.RunBounds.{RunsWithin, PathsWithin}
use Rattle.machine_core.specs.Edges.{EndsAt, StepsBy, listed_top}
use Rattle.machine_core.specs.EdgeLaws.{step_target, step_character, run_width, path_width}
use Rattle.machine_core.specs.Graphs.{Accepts, graph_top, GraphRunsWithin, GraphPathsWithin}
use Rattle.machine_meet.specs.Products.{AreStates, MeetEnds, MeetSteps, MeetsAll, EachWithin, meet_width, summed, multiplied, total}
use Rattle.pre_image.specs.Slices.{SliceEnds, Between}
use Rattle.pre_image.specs.SliceLaws.{slice_runs_within}
use Rattle.pre_image.specs.declared.slice.Slice.{Slice}
use Rattle.backward.specs.Meetings.{IsCostWithin, IsTrimmed, IsMeeting}
use Rattle.backward.proofs.CarryLemmas.{first-power}
use Rattle.backward.proofs.PairLemmas.{both-out, both-in}

-- what a slice means
abbrev pub slice_width : Slice → ℕ
slice_width s = s.target.now.registers

abbrev pub slice_state : Slice → ℕ → Type 0
slice_state s n = n < s.target.now.states

abbrev pub slice_first : Slice → ℕ
slice_first s = s.from

abbrev pub slice_ends : Slice → ℕ → List ℕ → Type 0
slice_ends s = SliceEnds s.target.now.registers s.target.now.ends s.to

abbrev pub slice_steps : Slice → ℕ → ℕ → List ℕ → ℕ → Type 0
slice_steps s = StepsBy s.target.now.edges

abbrev pub slice_size : Slice → ℕ
slice_size s = s.target.now.states

abbrev pub slice_top : Slice → ℕ
slice_top s = listed_top s.target.now.edges s.target.now.ends

-- the runs of a slice are those of its machine
slice-between : (s : Slice) (m : Graph) (from : ℕ) (to : Option ℕ) → s.target.now ≡ m → s.from ≡ from → s.to ≡ to
    → (word cost : List ℕ) → RunsFrom (slice_ends s) (slice_steps s) (slice_first s) word cost → Between m from to word cost
slice-between s m from to em ef et word cost r =
    subst (λ g. Between g from to word cost) em (subst (λ f. Between s.target.now f to word cost) ef (subst (λ t. Between s.target.now s.from t word cost) et r))

between-slice : (s : Slice) (m : Graph) (from : ℕ) (to : Option ℕ) → s.target.now ≡ m → s.from ≡ from → s.to ≡ to
    → (word cost : List ℕ) → Between m from to word cost → RunsFrom (slice_ends s) (slice_steps s) (slice_first s) word cost
between-slice s m from to em ef et word cost r =
    subst (λ t. Between s.target.now s.from t word cost) (sym et) (subst (λ f. Between s.target.now f to word cost) (sym ef) (subst (λ g. Between g from to word cost) (sym em) r))

pub between-width : (m : Graph) (from : ℕ) (to : Option ℕ) (word cost : List ℕ) → Between m from to word cost → length cost ≡ m.registers
between-width m from None word cost r = run_width m.states m.registers m.edges m.ends m.formed word from cost r
between-width m from (Some t) word cost r = path_width m.states m.registers m.edges m.ends m.formed t word from cost r

pub graph-words : (m : Graph) (word cost : List ℕ) → Accepts m word cost → IsWord word
graph-words m word cost r = runs_are_words (λ s. s < m.states) (StepsBy m.edges) (λ s t c cost ok st. step_target m.states m.registers m.edges m.ends m.formed s t c cost st) (EndsAt m.ends)
    (λ s t c cost ok st. step_character m.states m.registers m.edges m.ends m.formed s t c cost st) word 0 cost m.started r

-- two slices: the whole of one machine, and a part of another one's runs
pub record AreTwo (w p : Slice) (m target : Graph) (from : ℕ) (to : Option ℕ) : Type 0 where
  pub whole : w.target.now ≡ m
  pub first : w.from ≡ 0
  pub last : w.to ≡ None
  pub part : p.target.now ≡ target
  pub begins : p.from ≡ from
  pub ends : p.to ≡ to
  pub registers : m.registers ≡ target.registers

-- what the product of two slices was explored to
pub record IsBuiltOf (qs : List Slice) (built : Graph) : Type 0 where
  pub runs : SameRuns (MeetEnds slice_ends (meet_width slice_width qs) qs) (MeetSteps slice_steps (meet_width slice_width qs) qs) (map slice_first qs) (EndsAt built.ends) (StepsBy built.edges) 0
  pub registers : built.registers ≡ meet_width slice_width qs
  pub states : built.states ≤ multiplied slice_size qs
  pub top : graph_top built ≤ summed slice_top qs
  pub runs_within : (register slope base : ℕ)
      → RunsWithin (AreStates slice_state qs) (MeetEnds slice_ends (meet_width slice_width qs) qs) (MeetSteps slice_steps (meet_width slice_width qs) qs) register slope base
      → GraphRunsWithin built register slope base
  pub paths_within : (register slope base : ℕ)
      → PathsWithin (AreStates slice_state qs) (meet_width slice_width qs) (MeetSteps slice_steps (meet_width slice_width qs) qs) register slope base
      → GraphPathsWithin built register slope base
  pub runs_bounded : (register : ℕ) (slopes bases : List ℕ) → EachWithin (λ q slope base. RunsWithin (slice_state q) (slice_ends q) (slice_steps q) register slope base) qs slopes bases
      → RunsWithin (AreStates slice_state qs) (MeetEnds slice_ends (meet_width slice_width qs) qs) (MeetSteps slice_steps (meet_width slice_width qs) qs) register (total slopes) (total bases)
  pub paths_bounded : (register : ℕ) (slopes bases : List ℕ) → EachWithin (λ q slope base. PathsWithin (slice_state q) (slice_width q) (slice_steps q) register slope base) qs slopes bases
      → PathsWithin (AreStates slice_state qs) (meet_width slice_width qs) (MeetSteps slice_steps (meet_width slice_width qs) qs) register (total slopes) (total bases)

-- what trimming leaves
pub record IsTrimmedOf (built small : Graph) : Type 0 where
  pub language : (word cost : List ℕ) → Accepts small word cost ↔ Accepts built word cost
  pub registers : small.registers ≡ built.registers
  pub used : IsTrimmed small
  pub states : small.states ≤ built.states
  pub top : graph_top small ≤ graph_top built
  pub runs_within : (register slope base : ℕ) → GraphRunsWithin built register slope base → GraphRunsWithin small register slope base
  pub paths_within : (register slope base : ℕ) → GraphPathsWithin built register slope base → GraphPathsWithin small register slope base

module _ (w p : Slice) (m target : Graph) (from : ℕ) (to : Option ℕ) (two : AreTwo w p m target from to)
    (meets : MeetsAll slice_ends slice_steps slice_first (meet_width slice_width (w ∷ p ∷ [])) (w ∷ p ∷ []))
    (built small : Graph) (b : IsBuiltOf (w ∷ p ∷ []) built) (t : IsTrimmedOf built small) where
  wide : (word cost : List ℕ) → RunsFrom (slice_ends p) (slice_steps p) (slice_first p) word cost → length cost ≡ w.target.now.registers
  wide word cost r =
      between-width target from to word cost (slice-between p target from to two.part two.begins two.ends word cost r)
      ∙ sym two.registers ∙ ap (λ (g : Graph). g.registers) (sym two.whole)

  whole-within : (register s d : ℕ) → IsCostWithin m register s d → IsCostWithin w.target.now register s d
  whole-within register s d h = subst (λ g. IsCostWithin g register s d) (sym two.whole) h

  part-within : (register s d : ℕ) → IsCostWithin target register s d → IsCostWithin p.target.now register s d
  part-within register s d h = subst (λ g. IsCostWithin g register s d) (sym two.part) h

  pub meeting-is : IsMeeting m target from to small
  meeting-is = record {
    language = λ word cost. (
      λ r.
          let all = (meets word cost).0 ((b.runs word cost).1 ((t.language word cost).0 r)) in
          let both = both-out slice_ends slice_steps slice_first w.target.now.registers w p wide word cost all in (
            both.0,
            both.1,
            slice-between w m 0 None two.whole two.first two.last word both.0 both.2,
            slice-between p target from to two.part two.begins two.ends word both.1 both.3,
            both.4,
          ),
      λ r.
          let run = between-slice w m 0 None two.whole two.first two.last word r.0 r.2 in
          let rest = between-slice p target from to two.part two.begins two.ends word r.1 r.3 in
          (t.language word cost).1 ((b.runs word cost).0 ((meets word cost).1
          (both-in slice_ends slice_steps slice_first w.target.now.registers w p wide word cost (graph-words m word r.0 r.2) (r.0, r.1, run, rest, r.4)))),
    );
    grown = record {
      registers = t.registers ∙ b.registers ∙ ap (λ (g : Graph). g.registers) two.whole;
      states =
          let count = b.states in
          let less = t.states in
          let alone : p.target.now.states * 1 ≡ p.target.now.states = omega arith in
          let product = ap (λ n. w.target.now.states * n) alone in
          let whole = ap (λ (g : Graph). g.states * p.target.now.states) two.whole in
          let part = ap (λ (g : Graph). m.states * g.states) two.part in
          let one = ap (λ n. m.states * n) (first-power target.states) in
          omega arith;
      top =
          let less = t.top in
          let sum = b.top in
          let whole = ap (λ (g : Graph). graph_top g) two.whole in
          let part = ap (λ (g : Graph). graph_top g) two.part in
          omega arith;
      within = λ register s d more up h k.
          let h' = whole-within register s d h in
          let k' = part-within register more up k in
          let slopes = s ∷ more ∷ [] in
          let bases = d ∷ up ∷ [] in
          let runs = b.runs_bounded register slopes bases (slice_runs_within w.target.now w.to register s d h'.runs h'.paths, (slice_runs_within p.target.now p.to register more up k'.runs k'.paths, tt)) in
          let paths = b.paths_bounded register slopes bases (h'.paths, (k'.paths, tt)) in
          let a = t.runs_within register (total slopes) (total bases) (b.runs_within register (total slopes) (total bases) runs) in
          let c = t.paths_within register (total slopes) (total bases) (b.paths_within register (total slopes) (total bases) paths) in
          let whole : IsCostWithin small register (total slopes) (total bases) = record { runs = a; paths = c } in
          subst (λ n. IsCostWithin small register n (d + 1 * up)) (one-time s more) (subst (IsCostWithin small register (total slopes)) (one-time d up) whole);
      trimmed = λ h. t.used;
    };
    trimmed = t.used;
  }
    where
      one-time : (i j : ℕ) → total (i ∷ j ∷ []) ≡ i + 1 * j
      one-time i j = omega arith
