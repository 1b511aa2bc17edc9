-- Words that are read from the states of a machine without registers.
use Rattle.std.proofs.Common.{◌≡◌, ℕ, ◌<◌, ◌↔◌, Bool, true, false, IsTrue, List, [], ◌∷◌, length, drop, get_or, refl, ap, ◌∙◌, subst, arith}
use Rattle.std.proofs.lemmas.List.{nil_from_length}
use Rattle.machine_core.specs.declared.graph.Graph.{Graph}
use Rattle.machine_core.specs.Costs.{add_costs}
use Rattle.machine_core.specs.Language.{RunsFrom}
use Rattle.machine_core.specs.Edges.{EndsAt, StepsBy}
use Rattle.machine_core.specs.EdgeLaws.{step_cost, end_cost}
use Rattle.sv_terms.specs.Language.{Word}
use Rattle.regex_machine.specs.Joined.{HasWords}

-- the words that are read from a state
abbrev pub From : Graph → ℕ → Word → Type 0
From m s w = RunsFrom (EndsAt m.ends) (StepsBy m.edges) s w []

module _ (m : Graph) (plain : m.registers ≡ 0) where
  pub step-free : (s t c : ℕ) (k : List ℕ) → StepsBy m.edges s c k t → k ≡ []
  step-free s t c k st = nil_from_length k ((step_cost m.states m.registers m.edges m.ends m.formed s t c k st).entries ∙ plain)

  pub end-free : (s : ℕ) (k : List ℕ) → EndsAt m.ends s k → k ≡ []
  end-free s k e = nil_from_length k ((end_cost m.states m.registers m.edges m.ends m.formed s k e).entries ∙ plain)

  pub run-free : (w : Word) (s : ℕ) (k : List ℕ) → RunsFrom (EndsAt m.ends) (StepsBy m.edges) s w k → k ≡ []
  run-free [] s k r = end-free s k r
  run-free (c ∷ w) s k r =
      let a = step-free s r.1 c r.0 r.3 in
      let b = run-free w r.1 r.2 r.4 in
      r.5 ∙ ap (λ x. add_costs x r.2) a

  -- the first step of a word that is read
  pub from-step : (s c : ℕ) (w : Word) → From m s (c ∷ w) → (t : ℕ) × StepsBy m.edges s c [] t × From m t w
  from-step s c w r = (
    r.1,
    subst (λ k. StepsBy m.edges s c k r.1) (step-free s r.1 c r.0 r.3) r.3,
    subst (λ k. RunsFrom (EndsAt m.ends) (StepsBy m.edges) r.1 w k) (run-free w r.1 r.2 r.4) r.4,
  )

pub step-from : (m : Graph) (s c t : ℕ) (w : Word) → StepsBy m.edges s c [] t → From m t w → From m s (c ∷ w)
step-from m s c t w st r = ([], t, [], st, r, refl)

-- a machine whose words are others that are the same
pub reads-same : (P Q : Word → Type 0) (m : Graph) → ((w : Word) → P w ↔ Q w) → HasWords P m → HasWords Q m
reads-same P Q m same r = record {
  plain = r.plain;
  words = λ w. (λ h. (same w).0 ((r.words w).0 h), λ h. (r.words w).1 ((same w).1 h));
}

-- what a test says
pub surely : (b : Bool) (P : Type 0) → IsTrue b ↔ P → b ≡ true → P
surely b P says t = says.0 t

pub never : (b : Bool) (P : Type 0) → IsTrue b ↔ P → b ≡ false → P → ⊥
never b P says f p = let t = says.1 p in cc

pub split-first : {X : Type 0} (xs : List X) (x : X) → 0 < length xs → x ≡ get_or xs 0 x → x ∷ drop 1 xs ≡ xs
split-first [] x some is = absurd (omega arith)
split-first (y ∷ ys) x some is = ap (λ z. z ∷ ys) is
