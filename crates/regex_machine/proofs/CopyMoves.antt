-- What leaves a state of copies.
use Rattle.std.proofs.Common.{◌≡◌, ℕ, suc, ◌+◌, ◌<◌, ◌↔◌, inl, inr, Bool, false, IsTrue, List, [], Any, arith}
use Rattle.machine_core.specs.declared.graph.Graph.{Graph}
use Rattle.machine_core.specs.declared.machine.Move.{Move}
use Rattle.machine_core.specs.Edges.{EndsAt}
use Rattle.machine_core.specs.Moves.{Moves}
use Rattle.regex_machine.specs.Stepped.{AddsSteps, AreLed, AreEndsIf}
use Rattle.regex_machine.specs.Copied.{NextCopy, AreEnough, IsCopyState, CopyEnds, CopySteps}

module _ (m : Graph) (least most : ℕ) (again empty : Bool) (k s : ℕ) where
  -- in the start of its own
  pub own-ends : (costs : List (List ℕ)) (may : Bool) → k ≡ most → IsTrue may ↔ AreEnough least empty 0 → AreEndsIf may costs
      → (cost : List ℕ) → CopyEnds m least most empty (k, s) cost ↔ Any (λ e. e ≡ cost) costs
  own-ends costs may at says h cost = (
    λ c. (h cost).1 (c.0, elim c.1 [ inl e ↦ absurd (omega arith) | inr e ↦ says.1 e.1 ]),
    λ a. let r = (h cost).0 a in (r.0, inr (at, says.0 r.1)),
  )

  pub own-moves : (all : List (Move (ℕ × ℕ))) → k ≡ most → AreLed m 0 0 all → (c : ℕ) (cost : List ℕ) (to : ℕ × ℕ) → CopySteps m most again (k, s) c cost to ↔ Any (Moves c cost to) all
  own-moves all at own c cost to = (
    λ h. (own c cost to).1 (elim h.1 [
      | inl st ↦ absurd (omega arith)
      | inr other ↦ elim other [ inl st ↦ absurd (omega arith) | inr st ↦ (h.0, st.1, st.2) ]
    ]),
    λ a. let r = (own c cost to).0 a in (r.0, inr (inr (at, r.1, r.2))),
  )

  -- in a copy
  module _ (lt : k < most) where
    enough-one : AreEnough least empty (suc k) → AreEnough least empty (k + 1)
    enough-one (inl h) = inl (omega arith)
    enough-one (inr h) = inr h

    enough-suc : AreEnough least empty (k + 1) → AreEnough least empty (suc k)
    enough-suc (inl h) = inl (omega arith)
    enough-suc (inr h) = inr h

    pub copy-ends : (costs : List (List ℕ)) (may : Bool) → EndsAt m.ends s [] → IsTrue may ↔ AreEnough least empty (k + 1) → AreEndsIf may costs
        → (cost : List ℕ) → CopyEnds m least most empty (k, s) cost ↔ Any (λ e. e ≡ cost) costs
    copy-ends costs may end says h cost = (
      λ c. (h cost).1 (c.0, elim c.1 [ inl e ↦ says.1 (enough-one e.2) | inr e ↦ absurd (omega arith) ]),
      λ a. let r = (h cost).0 a in (r.0, inl (lt, end, enough-suc (says.0 r.1))),
    )

    pub copy-ends_not : (costs : List (List ℕ)) → (EndsAt m.ends s [] → ⊥) → AreEndsIf false costs → (cost : List ℕ) → CopyEnds m least most empty (k, s) cost ↔ Any (λ e. e ≡ cost) costs
    copy-ends_not costs never h cost = (
      λ c. elim c.1 [ inl e ↦ absurd (never e.1) | inr e ↦ absurd (omega arith) ],
      λ a. (let r = (h cost).0 a in let t = r.1 in cc),
    )

    module _ (all : List (Move (ℕ × ℕ))) (own : AreLed m s k all) where
      -- where a word may not end in the copy, or none comes after it
      pub copy-stays : ((l : ℕ) → EndsAt m.ends s [] → NextCopy most again k l → ⊥) → (c : ℕ) (cost : List ℕ) (to : ℕ × ℕ) → CopySteps m most again (k, s) c cost to ↔ Any (Moves c cost to) all
      copy-stays never c cost to = (
        λ h. elim h.1 [
          | inl st ↦ (own c cost to).1 (h.0, st.1, st.2)
          | inr other ↦ elim other [ inl st ↦ absurd (never to.0 st.1 st.2) | inr st ↦ absurd (omega arith) ]
        ],
        λ a. let r = (own c cost to).0 a in (r.0, inl (lt, r.1, r.2)),
      )

      pub copy-goes_on : (n : ℕ) (new : List (Move (ℕ × ℕ))) → EndsAt m.ends s [] → ((l : ℕ) → NextCopy most again k l ↔ (l ≡ n)) → AddsSteps m 0 n all new
          → (c : ℕ) (cost : List ℕ) (to : ℕ × ℕ) → CopySteps m most again (k, s) c cost to ↔ Any (Moves c cost to) new
      copy-goes_on n new end next adds c cost to = (
        λ h. (adds c cost to).1 (elim h.1 [
          | inl st ↦ inl ((own c cost to).1 (h.0, st.1, st.2))
          | inr other ↦ elim other [ inl st ↦ inr (h.0, (next to.0).0 st.2, st.3) | inr st ↦ absurd (omega arith) ]
        ]),
        λ a. elim ((adds c cost to).0 a) [
          | inl o ↦ (let r = (own c cost to).0 o in (r.0, inl (lt, r.1, r.2)))
          | inr st ↦ (st.0, inr (inl (lt, end, (next to.0).1 st.1, st.2)))
        ],
      )

pub in-copy : (m : Graph) (least most : ℕ) (at : ℕ × ℕ) → IsCopyState m least most at → (at.0 ≡ most → ⊥) → at.0 < most
in-copy m least most at (inl h) other = h.0
in-copy m least most at (inr h) other = absurd (other h.1)
