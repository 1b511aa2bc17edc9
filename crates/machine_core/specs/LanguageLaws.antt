-- Laws of languages, over bare relations.
use Rattle.std.specs.Prelude.{◌≡◌, ℕ, ◌≤◌, List, [], ◌∷◌, ◌++◌, length}
use Rattle.std.proofs.Common.{refl, sym, ap, ◌∙◌, subst}
use Rattle.sv_word.specs.Words.{IsWord, greatest_character}
use Rattle.machine_core.specs.Costs.{add_costs, zeros}
use Rattle.machine_core.specs.CostLaws.{add_costs-assoc, add_costs-length, zeros-add_costs}
use Rattle.machine_core.specs.Language.{RunsFrom, IsReached, here, next, StopsAt}

-- a machine with more ends and more steps has more pairs; so machines with the same ends and steps have the same
pub runs_within : {S : Type 0} (ends ends' : S → List ℕ → Type 0) (steps steps' : S → ℕ → List ℕ → S → Type 0)
    → ((s : S) (cost : List ℕ) → ends s cost → ends' s cost) → ((s : S) (c : ℕ) (cost : List ℕ) (t : S) → steps s c cost t → steps' s c cost t)
    → (word : List ℕ) (s : S) (cost : List ℕ) → RunsFrom ends steps s word cost → RunsFrom ends' steps' s word cost
runs_within ends ends' steps steps' f g [] s cost r = f s cost r
runs_within ends ends' steps steps' f g (c ∷ word) s cost r =
    (r.0, r.1, r.2, g s c r.0 r.1 r.3, runs_within ends ends' steps steps' f g word r.1 r.2 r.4, r.5)

module _ {S : Type 0} (is_state : S → Type 0) (steps : S → ℕ → List ℕ → S → Type 0)
    (step_is_state : (s t : S) (c : ℕ) (cost : List ℕ) → is_state s → steps s c cost t → is_state t) where
  -- what is reached from a state is a state
  pub reached_is_state : (first : S) → is_state first → (s : S) → IsReached steps first s → is_state s
  reached_is_state first h s here = h
  reached_is_state first h s (next {s = t} {c = c} {step = step} r st) = step_is_state t s c step (reached_is_state first h t r) st

  module _ (ends : S → List ℕ → Type 0) where
    -- a machine that steps on characters alone has words in its language, and no other lists
    pub runs_are_words : ((s t : S) (c : ℕ) (cost : List ℕ) → is_state s → steps s c cost t → c ≤ greatest_character)
        → (word : List ℕ) (s : S) (cost : List ℕ) → is_state s → RunsFrom ends steps s word cost → IsWord word
    runs_are_words step_character [] s cost h r = tt
    runs_are_words step_character (c ∷ word) s cost h r =
        (step_character s r.1 c r.0 h r.3, runs_are_words step_character word r.1 r.2 (step_is_state s r.1 c r.0 h r.3) r.4)

    -- where steps and ends have one number for each register, so have the costs of the language
    pub runs_width : (width : ℕ) → ((s t : S) (c : ℕ) (cost : List ℕ) → is_state s → steps s c cost t → length cost ≡ width)
        → ((s : S) (cost : List ℕ) → is_state s → ends s cost → length cost ≡ width)
        → (word : List ℕ) (s : S) (cost : List ℕ) → is_state s → RunsFrom ends steps s word cost → length cost ≡ width
    runs_width width wide wide_end [] s cost h r = wide_end s cost h r
    runs_width width wide wide_end (c ∷ word) s cost h r =
        let t = step_is_state s r.1 c r.0 h r.3 in
        ap length r.5 ∙ add_costs-length r.0 r.2 width (wide s r.1 c r.0 h r.3) (runs_width width wide wide_end word r.1 r.2 t r.4)

module _ {S : Type 0} (ends : S → List ℕ → Type 0) (steps : S → ℕ → List ℕ → S → Type 0) where
  -- a pair of a joined word: the first part leads to some state, the second is read from there, and the costs add up
  pub runs_join : (width : ℕ) (t : S) (more rest : List ℕ) → length rest ≡ width → RunsFrom ends steps t more rest
      → (word : List ℕ) (s : S) (cost : List ℕ) → RunsFrom (StopsAt width t) steps s word cost → RunsFrom ends steps s (word ++ more) (add_costs cost rest)
  runs_join width t more rest e r [] s cost h =
      let same : add_costs cost rest ≡ rest = ap (λ l. add_costs l rest) h.1 ∙ zeros-add_costs rest width e in
      rw same (subst (λ x. RunsFrom ends steps x more rest) (sym h.0) r)
  runs_join width t more rest e r (c ∷ word) s cost h =
      (h.0, h.1, add_costs h.2 rest, h.3, runs_join width t more rest e r word h.1 h.2 h.4, ap (λ l. add_costs l rest) h.5 ∙ add_costs-assoc h.0 h.2 rest)

  pub runs_cut : (width : ℕ) (wide : (word : List ℕ) (s : S) (cost : List ℕ) → RunsFrom ends steps s word cost → length cost ≡ width)
      → (more word : List ℕ) (s : S) (cost : List ℕ) → RunsFrom ends steps s (word ++ more) cost
      → (t : S) × (a b : List ℕ) × RunsFrom (StopsAt width t) steps s word a × RunsFrom ends steps t more b × (cost ≡ add_costs a b)
  runs_cut width wide more [] s cost h = (s, zeros width, cost, (refl, refl), h, sym (zeros-add_costs cost width (wide more s cost h)))
  runs_cut width wide more (c ∷ word) s cost h =
      let r = runs_cut width wide more word h.1 h.2 h.4 in
      (r.0, add_costs h.0 r.1, r.2, (h.0, h.1, r.1, h.3, r.3, refl), r.4, h.5 ∙ ap (add_costs h.0) r.5 ∙ sym (add_costs-assoc h.0 r.1 r.2))
