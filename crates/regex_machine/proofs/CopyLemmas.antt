-- The words of copies of a machine: pieces that aren't empty, each a word of the machine.
use Rattle.std.proofs.Common.{◌≡◌, ℕ, zero, suc, ◌+◌, ◌<◌, ◌≤◌, ◌⊎◌, inl, inr, Bool, IsTrue, List, [], ◌∷◌, ◌++◌, refl, ap, sym, subst, arith}
use Rattle.machine_core.specs.declared.graph.Graph.{Graph}
use Rattle.machine_core.specs.Language.{RunsFrom}
use Rattle.sv_terms.specs.Language.{Word}
use Rattle.sv_terms.specs.CutOff.{split-at}
use Rattle.regex_machine.proofs.WordLemmas.{From, from-step, step-from}
use Rattle.regex_machine.specs.Copied.{NextCopy, AreEnough, CopyEnds, CopySteps}

-- so many pieces, none of them empty, each with the fact
pub data Pieces (P : Word → Type 0) : ℕ → Word → Type 0 where
  last : Pieces P 0 []
  piece : {c : ℕ} {u v w : Word} {n : ℕ} → w ≡ (c ∷ u) ++ v → P (c ∷ u) → Pieces P n v → Pieces P (suc n) w

module _ (m : Graph) (plain : m.registers ≡ 0) where
  module _ (least most : ℕ) (again empty : Bool) (few : IsTrue again → least ≤ 1) where
    -- so many pieces more have room after a copy
    abbrev pub HaveRoom : ℕ → ℕ → Type 0
    HaveRoom k n = (k + n < most) ⊎ IsTrue again

    -- the rest of a piece, and some pieces more
    abbrev pub ReadsFrom : ℕ → ℕ → Word → Type 0
    ReadsFrom k s w = (u v : Word) × (n : ℕ) × (w ≡ u ++ v) × From m s u × Pieces (From m 0) n v × HaveRoom k n × AreEnough least empty (suc (k + n))

    abbrev pub Runs : ℕ × ℕ → Word → Type 0
    Runs at w = RunsFrom (CopyEnds m least most empty) (CopySteps m most again) at w []

    room-next : (k l n : ℕ) → NextCopy most again k l → HaveRoom l n → HaveRoom k (suc n)
    room-next k l n (inl h) (inl r) = inl (omega arith)
    room-next k l n (inl h) (inr a) = inr a
    room-next k l n (inr h) r = inr h.0

    enough-next : (k l n : ℕ) → NextCopy most again k l → AreEnough least empty (suc (l + n)) → AreEnough least empty (suc (k + suc n))
    enough-next k l n next (inr e) = inr e
    enough-next k l n (inl h) (inl e) = inl (omega arith)
    enough-next k l n (inr h) (inl e) = inl (omega arith)

    pub runs-out : (w : Word) (k s : ℕ) (cost : List ℕ) → k < most → RunsFrom (CopyEnds m least most empty) (CopySteps m most again) (k, s) w cost → ReadsFrom k s w
    runs-out [] k s cost lt r = elim r.1 [
      | inl e ↦ ([], [], 0, refl, e.1, last, inl (omega arith), enough e.2)
      | inr e ↦ absurd (omega arith)
    ]
      where
        enough : AreEnough least empty (suc k) → AreEnough least empty (suc (k + 0))
        enough (inl h) = inl (omega arith)
        enough (inr h) = inr h
    runs-out (c ∷ w) k s cost lt r = elim r.3.1 [
      | inl st ↦
          let rest = runs-out w r.1.0 r.1.1 r.2 (omega arith) r.4 in
          let same : r.1.0 ≡ k = st.1 in (
            c ∷ rest.0,
            rest.1,
            rest.2,
            ap (λ x. c ∷ x) rest.3,
            step-from m s c r.1.1 rest.0 st.2 rest.4,
            rest.5,
            subst (λ x. HaveRoom x rest.2) same rest.6,
            subst (λ x. AreEnough least empty (suc (x + rest.2))) same rest.7,
          )
      | inr other ↦ elim other [
        | inl st ↦
            let rest = runs-out w r.1.0 r.1.1 r.2 (below k r.1.0 st.2) r.4 in (
              [],
              c ∷ w,
              suc rest.2,
              refl,
              st.1,
              piece (ap (λ x. c ∷ x) rest.3) (step-from m 0 c r.1.1 rest.0 st.3 rest.4) rest.5,
              room-next k r.1.0 rest.2 st.2 rest.6,
              enough-next k r.1.0 rest.2 st.2 rest.7,
            )
        | inr st ↦ absurd (omega arith)
      ]
    ]
      where
        below : (k l : ℕ) → NextCopy most again k l → l < most
        below k l (inl h) = omega arith
        below k l (inr h) = omega arith

    -- the copy after a copy, where one more piece has room
    next-copy : (k n : ℕ) → k < most → HaveRoom k (suc n) → AreEnough least empty (suc (k + suc n))
        → (l : ℕ) × NextCopy most again k l × (l < most) × HaveRoom l n × AreEnough least empty (suc (l + n))
    next-copy k n lt (inl h) (inl e) = (suc k, inl (omega arith, refl), omega arith, inl (omega arith), inl (omega arith))
    next-copy k n lt (inl h) (inr e) = (suc k, inl (omega arith, refl), omega arith, inl (omega arith), inr e)
    next-copy k n lt (inr a) e = elim (split-at (suc k) most) [
      | inl le ↦ let same : suc k ≡ most = omega arith in (k, inr (a, same, refl), lt, inr a, let f = few a in inl (omega arith))
      | inr gt ↦ (suc k, inl (gt, refl), gt, inr a, let f = few a in inl (omega arith))
    ]

    pub runs-in : (n : ℕ) (u v : Word) (k s : ℕ) → k < most → From m s u → Pieces (From m 0) n v → HaveRoom k n → AreEnough least empty (suc (k + n)) → Runs (k, s) (u ++ v)
    runs-in n (c ∷ u) v k s lt r p room enough =
        let st = from-step m plain s c u r in
        ([], (k, st.0), [], (refl, inl (lt, refl, st.1)), runs-in n u v k st.0 lt st.2 p room enough, refl)
    runs-in zero [] v k s lt r last room enough = (refl, inl (lt, r, at-end enough))
      where
        at-end : AreEnough least empty (suc (k + 0)) → AreEnough least empty (suc k)
        at-end (inl h) = inl (omega arith)
        at-end (inr h) = inr h
    runs-in (suc n) [] v k s lt r (piece {c = c} {u = u} {v = rest} w-is q p) room enough =
        let next = next-copy k n lt room enough in
        let st = from-step m plain 0 c u q in
        subst (Runs (k, s)) (sym w-is)
        ([], (next.0, st.0), [], (refl, inr (inl (lt, r, next.1, st.1))), runs-in n u rest next.0 st.0 next.2 st.2 p next.3 next.4, refl)
