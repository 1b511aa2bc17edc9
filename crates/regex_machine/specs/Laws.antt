-- What machines that are put together keep: steps lead to states, read characters and cost nothing.
use Rattle.std.specs.Prelude.{◌≡◌, ℕ, zero, suc, ◌+◌, ◌*◌, ◌<◌, ◌≤◌, ◌⊎◌, Bool, true, false, cond, ◌&&◌, not, nat_eq, List, [], ◌∷◌, drop, slice_get, Some, refl}
use Rattle.std.proofs.Common.{inl, inr, sym, ap, ◌∙◌, subst, arith}
use Rattle.std.proofs.lemmas.Bool.Decides.{nat_tests}
use Rattle.machine_core.specs.declared.graph.Graph.{Graph}
use Rattle.machine_core.specs.Costs.{IsCost}
use Rattle.machine_core.specs.CostLaws.{IsCost-zeros}
use Rattle.machine_core.specs.Counts.{AreAtMost, at_most-weaker, at_most-one, at_most-either, at_most-pairs, at_most-below}
use Rattle.machine_core.specs.Edges.{StepsBy}
use Rattle.machine_core.specs.EdgeLaws.{step_target, step_character}
use Rattle.regex_machine.specs.Copied.{NextCopy, IsCopyState, CopySteps, copy_start, copies_size}
use Rattle.sv_word.specs.Words.{greatest_character}

pub no-cost : (cost : List ℕ) → cost ≡ [] → IsCost 0 0 cost
no-cost cost e = subst (IsCost 0 0) (sym e) (IsCost-zeros 0 0)

to-state : (m : Graph) (s c t : ℕ) → StepsBy m.edges s c [] t → t < m.states
to-state m s c t st = step_target m.states m.registers m.edges m.ends m.formed s t c [] st

on-character : (m : Graph) (s c t : ℕ) → StepsBy m.edges s c [] t → c ≤ greatest_character
on-character m s c t st = step_character m.states m.registers m.edges m.ends m.formed s t c [] st

-- what is left of a list has its first element and the rest at the next places
pub drop-get : {X : Type 0} (xs : List X) (k : ℕ) (x : X) (rest : List X) → drop k xs ≡ x ∷ rest → (slice_get xs k ≡ Some x) × (drop (suc k) xs ≡ rest)
drop-get [] zero x rest e = cc
drop-get [] (suc k) x rest e = cc
drop-get (y ∷ ys) zero x rest e = (cc, cc)
drop-get (y ∷ ys) (suc k) x rest e = drop-get ys k x rest e

pub copy-first : (m : Graph) (least most : ℕ) (empty : Bool) → 0 < most → IsCopyState m least most (copy_start least most empty)
copy-first m least most empty h = by_test (nat_eq least 0) empty refl
  where
    by_test : (b : Bool) (e : Bool) → nat_eq least 0 ≡ b → IsCopyState m least most (cond (b && not e) (most, 0) (0, 0))
    by_test true false t = inr (grind (arith, nat_tests), refl, refl)
    by_test true true t = inl (h, m.started)
    by_test false e t = inl (h, m.started)

pub copy-state : (m : Graph) (least most : ℕ) (again : Bool) → 0 < most → (at : ℕ × ℕ) (c : ℕ) (cost : List ℕ) (to : ℕ × ℕ) → CopySteps m most again at c cost to → IsCopyState m least most to
copy-state m least most again some at c cost to h = elim h.1 [
  | inl st ↦ inl (subst (λ k. k < most) (sym st.1) st.0, to-state m at.1 c to.1 st.2)
  | inr other ↦ elim other [
    | inl st ↦ inl (next-below at.0 to.0 st.2, to-state m 0 c to.1 st.3)
    | inr st ↦ inl (subst (λ k. k < most) (sym st.1) some, to-state m 0 c to.1 st.2)
  ]
]
  where
    next-below : (k l : ℕ) → NextCopy most again k l → l < most
    next-below k l (inl g) = omega arith
    next-below k l (inr g) = omega arith

pub copy-character : (m : Graph) (most : ℕ) (again : Bool) (at : ℕ × ℕ) (c : ℕ) (cost : List ℕ) (to : ℕ × ℕ) → CopySteps m most again at c cost to → c ≤ greatest_character
copy-character m most again at c cost to h = elim h.1 [
  | inl st ↦ on-character m at.1 c to.1 st.2
  | inr other ↦ elim other [
    | inl st ↦ on-character m 0 c to.1 st.3
    | inr st ↦ on-character m 0 c to.1 st.2
  ]
]

pub copy-states : (m : Graph) (least most : ℕ) → AreAtMost (IsCopyState m least most) (copies_size least most m.states)
copy-states m least most = by_test (nat_eq least 0) refl
  where
    copies : AreAtMost (λ (at : ℕ × ℕ). (at.0 < most) × (at.1 < m.states)) (most * m.states)
    copies = at_most-pairs (λ k. k < most) (λ s. s < m.states) most m.states (at_most-below most) (at_most-below m.states)

    copy-or-start : (at : ℕ × ℕ) → IsCopyState m least most at → ((at.0 < most) × (at.1 < m.states)) ⊎ ((most, 0) ≡ at)
    copy-or-start at (inl h) = inl h
    copy-or-start at (inr h) = inr (ap (λ k. (k, 0)) (sym h.1) ∙ ap (λ s. (at.0, s)) (sym h.2))

    in-copy : nat_eq least 0 ≡ false → (at : ℕ × ℕ) → IsCopyState m least most at → (at.0 < most) × (at.1 < m.states)
    in-copy t at (inl h) = h
    in-copy t at (inr h) = absurd (let e = h.0 in grind (arith, nat_tests))

    by_test : (b : Bool) → nat_eq least 0 ≡ b → AreAtMost (IsCopyState m least most) (cond b (most * m.states + 1) (most * m.states))
    by_test true t =
        at_most-weaker (λ (at : ℕ × ℕ). ((at.0 < most) × (at.1 < m.states)) ⊎ ((most, 0) ≡ at)) (IsCopyState m least most) (most * m.states + 1) (most * m.states + 1) copy-or-start (omega arith)
        (at_most-either (λ (at : ℕ × ℕ). (at.0 < most) × (at.1 < m.states)) (λ at. (most, 0) ≡ at) (most * m.states) 1 copies (at_most-one (most, 0)))
    by_test false t =
        at_most-weaker (λ (at : ℕ × ℕ). (at.0 < most) × (at.1 < m.states)) (IsCopyState m least most) (most * m.states) (most * m.states) (in-copy t) (omega arith) copies
