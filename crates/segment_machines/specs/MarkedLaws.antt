-- A marked word is the words of its phases.
use Rattle.std.specs.Prelude.{◌≡◌, ◌↔◌, ℕ, ◌≤◌, true, false, if◌then◌else◌, [], ◌∷◌, ◌++◌, nat_eq}
use Rattle.std.proofs.Common.{refl, sym, ap, ◌∙◌, subst, arith, ⊎_elim}
use Rattle.std.proofs.lemmas.Bool.{cases_lt}
use Rattle.std.proofs.lemmas.List.{append-nil}
use Rattle.sv_terms.specs.Language.{Word}
use Rattle.segment_machines.specs.Marked.{phase, IsMarked, in_phase, marked, IsPhased, picked}

pub picked-same : (s : ℕ) (w z : Word) → nat_eq (phase s) (phase s) ≡ true → picked s (in_phase s w ++ z) ≡ w ++ picked s z
picked-same s [] z t = refl
picked-same s (c ∷ w) z t =
    ap (λ b. if b then c ∷ picked s (in_phase s w ++ z) else picked s (in_phase s w ++ z)) t
    ∙ ap (λ (v : Word). c ∷ v) (picked-same s w z t)

pub picked-other : (s r : ℕ) (w z : Word) → nat_eq (phase r) (phase s) ≡ false → picked s (in_phase r w ++ z) ≡ picked s z
picked-other s r [] z t = refl
picked-other s r (c ∷ w) z t =
    ap (λ b. if b then c ∷ picked s (in_phase r w ++ z) else picked s (in_phase r w ++ z)) t
    ∙ picked-other s r w z t

pub phased-more : (s : ℕ) (w z : Word) → s ≤ 2 → IsPhased z → IsPhased (in_phase s w ++ z)
phased-more s [] z h p = p
phased-more s (c ∷ w) z h p = (omega arith, omega (arith, h), phased-more s w z h p)

module _ (a b c : Word) where
  pub marked-phased : IsPhased (marked a b c)
  marked-phased =
      let last : IsPhased (in_phase 2 c) = subst IsPhased (append-nil (in_phase 2 c)) (phased-more 2 c [] (omega arith) tt) in
      phased-more 0 a (in_phase 1 b ++ in_phase 2 c) (omega arith) (phased-more 1 b (in_phase 2 c) (omega arith) last)

  last-of : (s : ℕ) → picked s (in_phase 2 c) ≡ picked s (in_phase 2 c ++ [])
  last-of s = ap (picked s) (sym (append-nil (in_phase 2 c)))

  pub marked-before : picked 0 (marked a b c) ≡ a
  marked-before =
      picked-same 0 a (in_phase 1 b ++ in_phase 2 c) refl
      ∙ ap (λ (v : Word). a ++ v) (picked-other 0 1 b (in_phase 2 c) refl ∙ last-of 0 ∙ picked-other 0 2 c [] refl)
      ∙ append-nil a

  pub marked-part : picked 1 (marked a b c) ≡ b
  marked-part =
      picked-other 1 0 a (in_phase 1 b ++ in_phase 2 c) refl
      ∙ picked-same 1 b (in_phase 2 c) refl
      ∙ ap (λ (v : Word). b ++ v) (last-of 1 ∙ picked-other 1 2 c [] refl)
      ∙ append-nil b

  pub marked-after : picked 2 (marked a b c) ≡ c
  marked-after =
      picked-other 2 0 a (in_phase 1 b ++ in_phase 2 c) refl
      ∙ picked-other 2 1 b (in_phase 2 c) refl
      ∙ last-of 2
      ∙ picked-same 2 c [] refl
      ∙ append-nil c

-- it may begin with a lower phase
marked-lower : (low s : ℕ) (w z : Word) → low ≤ s → IsMarked s w z → IsMarked low w z
marked-lower low s [] z h m = m
marked-lower low s (c ∷ w) z h m = (m.0, m.1, (let x = m.2 in omega (arith, h, x)), m.3, m.4, m.5)

-- a word in one phase, and then a marked word whose phases aren't below it
in_phase-marked : (s : ℕ) (a w z : Word) → s ≤ 2 → IsMarked s w z → IsMarked s (a ++ w) (in_phase s a ++ z)
in_phase-marked s [] w z h m = m
in_phase-marked s (c ∷ a) w z h m = (s, in_phase s a ++ z, omega arith, h, refl, in_phase-marked s a w z h m)

parts-marked : (a b c : Word) → IsMarked 0 (a ++ (b ++ c)) (marked a b c)
parts-marked a b c =
    let last : IsMarked 2 c (in_phase 2 c) = subst (λ (v : Word). IsMarked 2 v (in_phase 2 c)) (append-nil c) (subst (λ (v : Word). IsMarked 2 (c ++ []) v) (append-nil (in_phase 2 c)) (in_phase-marked 2 c [] [] (omega arith) refl)) in
    let part : IsMarked 1 (b ++ c) (in_phase 1 b ++ in_phase 2 c) = in_phase-marked 1 b c (in_phase 2 c) (omega arith) (marked-lower 1 2 c (in_phase 2 c) (omega arith) last) in
    in_phase-marked 0 a (b ++ c) (in_phase 1 b ++ in_phase 2 c) (omega arith) (marked-lower 0 1 (b ++ c) (in_phase 1 b ++ in_phase 2 c) (omega arith) part)

mark_more : (s r c : ℕ) (z rest : Word) → z ≡ phase s ∷ (c ∷ rest) → s ≡ r → z ≡ phase r ∷ (c ∷ rest)
mark_more s r c z rest e f = e ∙ ap (λ n. phase n ∷ (c ∷ rest)) f

marked-last : (low : ℕ) (w z : Word) → 2 ≤ low → IsMarked low w z → z ≡ in_phase 2 w
marked-last low [] z h m = m
marked-last low (c ∷ w) z h (s, rest, l, t, e, m) =
    mark_more s 2 c z rest e (omega (arith, h, l, t)) ∙ ap (λ (v : Word). phase 2 ∷ (c ∷ v)) (marked-last s w rest (omega (arith, h, l)) m)

-- z is b in phase 1 and c in phase 2
abbrev AreTwo : Word → Word → Type 0
AreTwo w z = (b c : Word) × (w ≡ b ++ c) × (z ≡ in_phase 1 b ++ in_phase 2 c)

marked-two : (low : ℕ) (w z : Word) → 1 ≤ low → IsMarked low w z → AreTwo w z
marked-two low [] z h m = ([], [], refl, m)
marked-two low (c ∷ w) z h (s, rest, l, t, e, m) = ⊎_elim
    (λ k.
    let r = marked-two s w rest (omega (arith, h, l)) m in
    (c ∷ r.0, r.1, ap (λ (v : Word). c ∷ v) r.2, mark_more s 1 c z rest e (omega (arith, h, l, k)) ∙ ap (λ (v : Word). phase 1 ∷ (c ∷ v)) r.3))
    (λ k. ([], c ∷ w, refl, mark_more s 2 c z rest e (omega (arith, t, k)) ∙ ap (λ (v : Word). phase 2 ∷ (c ∷ v)) (marked-last s w rest k m)))
    (cases_lt s 2)

marked-three : (low : ℕ) (w z : Word) → IsMarked low w z → (a b c : Word) × (w ≡ a ++ (b ++ c)) × (z ≡ marked a b c)
marked-three low [] z m = ([], [], [], refl, m)
marked-three low (c ∷ w) z (s, rest, l, t, e, m) = ⊎_elim
    (λ k.
    let r = marked-three s w rest m in
    (c ∷ r.0, r.1, r.2, ap (λ (v : Word). c ∷ v) r.3, mark_more s 0 c z rest e (omega (arith, k)) ∙ ap (λ (v : Word). phase 0 ∷ (c ∷ v)) r.4))
    (λ k.
    let r = marked-two 1 (c ∷ w) z (omega arith) (s, rest, k, t, e, m) in
    ([], r.0, r.1, r.2, r.3))
    (cases_lt s 1)

-- phases that never fall are those of three words, one after another
pub marked-parts : (w z : Word) → IsMarked 0 w z ↔ ((a b c : Word) × (w ≡ a ++ (b ++ c)) × (z ≡ marked a b c))
marked-parts w z = (
  marked-three 0 w z,
  λ k. subst (IsMarked 0 w) (sym k.4) (subst (λ (v : Word). IsMarked 0 v (marked k.0 k.1 k.2)) (sym k.3) (parts-marked k.0 k.1 k.2)),
)
