-- The languages of machines that are put together, over bare relations.
use Rattle.std.proofs.Common.{◌≡◌, ℕ, ◌+◌, ◌<◌, ◌↔◌, ◌⊎◌, inl, inr, List, [], ◌∷◌, ◌++◌, refl, ap, sym, ◌∙◌, subst, arith}
use Rattle.machine_core.specs.Costs.{add_costs}
use Rattle.machine_core.specs.CostLaws.{add_costs-assoc}
use Rattle.machine_core.specs.Language.{RunsFrom}
use Rattle.machine_meet.specs.Builds.{InTurn, Repeated, done, more}

-- the states of a machine stand in the whole, counted from `offset`, with its ends and its steps alone
pub record IsPlaced (E : ℕ → List ℕ → Type 0) (S : ℕ → ℕ → List ℕ → ℕ → Type 0) (e : ℕ → List ℕ → Type 0) (s : ℕ → ℕ → List ℕ → ℕ → Type 0) (n offset : ℕ) : Type 0 where
  pub ends : (u : ℕ) → u < n → (k : List ℕ) → E (offset + u) k ↔ e u k
  pub steps : (u : ℕ) → u < n → (c : ℕ) (k : List ℕ) (t : ℕ) → S (offset + u) c k t ↔ ((v : ℕ) × (t ≡ offset + v) × s u c k v)
  pub within : (u c v : ℕ) (k : List ℕ) → s u c k v → v < n

no-start : (t v : ℕ) → t ≡ 0 → t ≡ 1 + v → ⊥
no-start t v e f = omega arith

module _ (E : ℕ → List ℕ → Type 0) (S : ℕ → ℕ → List ℕ → ℕ → Type 0) where
  module _ (e : ℕ → List ℕ → Type 0) (s : ℕ → ℕ → List ℕ → ℕ → Type 0) (n offset : ℕ) (placed : IsPlaced E S e s n offset) where
    pub placed-out : (w : List ℕ) (u : ℕ) (k : List ℕ) → u < n → RunsFrom E S (offset + u) w k → RunsFrom e s u w k
    placed-out [] u k lt r = (placed.ends u lt k).0 r
    placed-out (c ∷ w) u k lt r =
        let q = (placed.steps u lt c r.0 r.1).0 r.3 in
        (r.0, q.0, r.2, q.2, placed-out w q.0 r.2 (placed.within u c q.0 r.0 q.2) (subst (λ x. RunsFrom E S x w r.2) q.1 r.4), r.5)

    pub placed-in : (w : List ℕ) (u : ℕ) (k : List ℕ) → u < n → RunsFrom e s u w k → RunsFrom E S (offset + u) w k
    placed-in [] u k lt r = (placed.ends u lt k).1 r
    placed-in (c ∷ w) u k lt r =
        (r.0, offset + r.1, r.2, (placed.steps u lt c r.0 (offset + r.1)).1 (r.1, refl, r.3), placed-in w r.1 r.2 (placed.within u c r.1 r.0 r.3) r.4, r.5)

  -- a start that has the ends and the steps of two starts
  module _ (ea eb : ℕ → List ℕ → Type 0) (sa sb : ℕ → ℕ → List ℕ → ℕ → Type 0) (n m i j : ℕ) (pa : IsPlaced E S ea sa n i) (pb : IsPlaced E S eb sb m j)
      (ends : (k : List ℕ) → E 0 k ↔ (ea 0 k ⊎ eb 0 k))
      (steps : (c : ℕ) (k : List ℕ) (t : ℕ) → S 0 c k t ↔ (((v : ℕ) × (t ≡ i + v) × sa 0 c k v) ⊎ ((v : ℕ) × (t ≡ j + v) × sb 0 c k v))) where
    pub union-runs : (w k : List ℕ) → RunsFrom E S 0 w k ↔ (RunsFrom ea sa 0 w k ⊎ RunsFrom eb sb 0 w k)
    union-runs [] k = ends k
    union-runs (c ∷ w) k = (
      λ r. elim ((steps c r.0 r.1).0 r.3) [
        | inl q ↦ inl (r.0, q.0, r.2, q.2, placed-out ea sa n i pa w q.0 r.2 (pa.within 0 c q.0 r.0 q.2) (subst (λ x. RunsFrom E S x w r.2) q.1 r.4), r.5)
        | inr q ↦ inr (r.0, q.0, r.2, q.2, placed-out eb sb m j pb w q.0 r.2 (pb.within 0 c q.0 r.0 q.2) (subst (λ x. RunsFrom E S x w r.2) q.1 r.4), r.5)
      ],
      λ h. elim h [
        | inl r ↦ (r.0, i + r.1, r.2, (steps c r.0 (i + r.1)).1 (inl (r.1, refl, r.3)), placed-in ea sa n i pa w r.1 r.2 (pa.within 0 c r.1 r.0 r.3) r.4, r.5)
        | inr r ↦ (r.0, j + r.1, r.2, (steps c r.0 (j + r.1)).1 (inr (r.1, refl, r.3)), placed-in eb sb m j pb w r.1 r.2 (pb.within 0 c r.1 r.0 r.3) r.4, r.5)
      ],
    )

  -- where the first machine may end, the whole has the ends and the steps of the second machine's start after each end
  module _ (ea eb : ℕ → List ℕ → Type 0) (sa sb : ℕ → ℕ → List ℕ → ℕ → Type 0) (n m : ℕ) (pb : IsPlaced E S eb sb m n)
      (within : (u c v : ℕ) (k : List ℕ) → sa u c k v → v < n)
      (ends : (u : ℕ) (k : List ℕ) → u < n → E u k ↔ ((a b : List ℕ) × ea u a × eb 0 b × (k ≡ add_costs a b)))
      (steps : (u c : ℕ) (k : List ℕ) (t : ℕ) → u < n → S u c k t ↔ (sa u c k t
      ⊎ ((a b : List ℕ) × (v : ℕ) × ea u a × sb 0 c b v × (k ≡ add_costs a b) × (t ≡ n + v)))) where
    concat-out : (w : List ℕ) (u : ℕ) (k : List ℕ) → u < n → RunsFrom E S u w k → InTurn (RunsFrom ea sa u) (RunsFrom eb sb 0) w k
    concat-out [] u k lt r = let q = (ends u k lt).0 r in ([], [], q.0, q.1, refl, q.2, q.3, q.4)
    concat-out (c ∷ w) u k lt r = elim ((steps u c r.0 r.1 lt).0 r.3) [
      | inl q ↦
          let h = concat-out w r.1 r.2 (within u c r.1 r.0 q) r.4 in
          let total : k ≡ add_costs (add_costs r.0 h.2) h.3 = r.5 ∙ ap (add_costs r.0) h.7 ∙ sym (add_costs-assoc r.0 h.2 h.3) in
          (c ∷ h.0, h.1, add_costs r.0 h.2, h.3, ap (λ l. c ∷ l) h.4, (r.0, r.1, h.2, q, h.5, refl), h.6, total)
      | inr q ↦
          let total : k ≡ add_costs q.0 (add_costs q.1 r.2) = r.5 ∙ ap (λ l. add_costs l r.2) q.5 ∙ add_costs-assoc q.0 q.1 r.2 in
          let rest = placed-out eb sb m n pb w q.2 r.2 (pb.within 0 c q.2 q.1 q.4) (subst (λ x. RunsFrom E S x w r.2) q.6 r.4) in
          ([], c ∷ w, q.0, add_costs q.1 r.2, refl, q.3, (q.1, q.2, r.2, q.4, rest, refl), total)
    ]

    concat-in : (x y : List ℕ) (u : ℕ) (a b : List ℕ) → u < n → RunsFrom ea sa u x a → RunsFrom eb sb 0 y b → RunsFrom E S u (x ++ y) (add_costs a b)
    concat-in [] [] u a b lt ra rb = (ends u (add_costs a b) lt).1 (a, b, ra, rb, refl)
    concat-in [] (c ∷ y) u a b lt ra rb =
        let total : add_costs a b ≡ add_costs (add_costs a rb.0) rb.2 = ap (add_costs a) rb.5 ∙ sym (add_costs-assoc a rb.0 rb.2) in
        let step = (steps u c (add_costs a rb.0) (n + rb.1) lt).1 (inr (a, rb.0, rb.1, ra, rb.3, refl, refl)) in
        (add_costs a rb.0, n + rb.1, rb.2, step, placed-in eb sb m n pb y rb.1 rb.2 (pb.within 0 c rb.1 rb.0 rb.3) rb.4, total)
    concat-in (c ∷ x) y u a b lt ra rb =
        let total : add_costs a b ≡ add_costs ra.0 (add_costs ra.2 b) = ap (λ l. add_costs l b) ra.5 ∙ add_costs-assoc ra.0 ra.2 b in
        let rest = concat-in x y ra.1 ra.2 b (within u c ra.1 ra.0 ra.3) ra.4 rb in
        (ra.0, ra.1, add_costs ra.2 b, (steps u c ra.0 ra.1 lt).1 (inl ra.3), rest, total)

    pub concat-runs : 0 < n → (w k : List ℕ) → RunsFrom E S 0 w k ↔ InTurn (RunsFrom ea sa 0) (RunsFrom eb sb 0) w k
    concat-runs lt w k = (
      λ r. concat-out w 0 k lt r,
      λ h. subst (λ l. RunsFrom E S 0 l k) (sym h.4) (subst (RunsFrom E S 0 (h.0 ++ h.1)) (sym h.7) (concat-in h.0 h.1 0 h.2 h.3 lt h.5 h.6)),
    )

  -- each step of a machine to an end also leads back to a new start, which has an end and the steps of the machine's start
  module _ (e : ℕ → List ℕ → Type 0) (s : ℕ → ℕ → List ℕ → ℕ → Type 0) (n : ℕ) (some : 0 < n)
      (within : (u c v : ℕ) (k : List ℕ) → s u c k v → v < n)
      (free_steps : (u c v : ℕ) (k : List ℕ) → s u c k v → k ≡ []) (free_ends : (u : ℕ) (k : List ℕ) → e u k → k ≡ [])
      (ends : (u : ℕ) (k : List ℕ) → E u k ↔ ((u ≡ 0) × (k ≡ [])))
      (steps : (u c : ℕ) (k : List ℕ) (t : ℕ) → u < n → S (1 + u) c k t ↔ (((v : ℕ) × (t ≡ 1 + v) × s u c k v)
      ⊎ ((a b : List ℕ) × (v : ℕ) × s u c a v × e v b × (k ≡ add_costs a b) × (t ≡ 0))))
      (starts : (c : ℕ) (k : List ℕ) (t : ℕ) → S 0 c k t ↔ S 1 c k t) where
    abbrev pub Word : List ℕ → Type 0
    Word w = RunsFrom e s 0 w []

    -- a word from `u` that isn't empty, and then words of the machine
    abbrev pub Onward : ℕ → List ℕ → Type 0
    Onward u w = (c : ℕ) × (x y : List ℕ) × (w ≡ (c ∷ x) ++ y) × RunsFrom e s u (c ∷ x) [] × Repeated Word y

    abbrev pub Next : ℕ → ℕ → List ℕ → ℕ → Type 0
    Next u c k t = ((v : ℕ) × (t ≡ 1 + v) × s u c k v) ⊎ ((a b : List ℕ) × (v : ℕ) × s u c a v × e v b × (k ≡ add_costs a b) × (t ≡ 0))

    nil-step : (u c v : ℕ) (k : List ℕ) → s u c k v → s u c [] v
    nil-step u c v k st = subst (λ l. s u c l v) (free_steps u c v k st) st

    nil-end : (u : ℕ) (k : List ℕ) → e u k → e u []
    nil-end u k h = subst (e u) (free_ends u k h) h

    onward : (w : List ℕ) (u c : ℕ) (k : List ℕ) (t : ℕ) (rest : List ℕ) → Next u c k t → RunsFrom E S t w rest → Onward u (c ∷ w) × (add_costs k rest ≡ [])
    onward [] u c k t rest (inl q) r = absurd (no-start t q.0 ((ends t rest).0 r).0 q.1)
    onward [] u c k t rest (inr q) r = (
      (c, [], [], refl, ([], q.2, [], nil-step u c q.2 q.0 q.3, nil-end q.2 q.1 q.4, refl), done),
      ap (λ l. add_costs l rest) (q.5 ∙ ap (λ l. add_costs l q.1) (free_steps u c q.2 q.0 q.3)),
    )
    onward (d ∷ w) u c k t rest (inl q) r =
        let lt = within u c q.0 k q.2 in
        let next = (steps q.0 d r.0 r.1 lt).0 (subst (λ x. S x d r.0 r.1) q.1 r.3) in
        let h = (onward w q.0 d r.0 r.1 r.2 next r.4).0 in
        ((c, h.0 ∷ h.1, h.2, ap (λ l. c ∷ l) h.3, ([], q.0, [], nil-step u c q.0 k q.2, h.4, refl), h.5), ap (λ l. add_costs l rest) (free_steps u c q.0 k q.2))
    onward (d ∷ w) u c k t rest (inr q) r =
        let next = (steps 0 d r.0 r.1 some).0 ((starts d r.0 r.1).0 (subst (λ x. S x d r.0 r.1) q.6 r.3)) in
        let h = (onward w 0 d r.0 r.1 r.2 next r.4).0 in (
          (c, [], d ∷ w, refl, ([], q.2, [], nil-step u c q.2 q.0 q.3, nil-end q.2 q.1 q.4, refl), more h.3 h.4 h.5),
          ap (λ l. add_costs l rest) (q.5 ∙ ap (λ l. add_costs l q.1) (free_steps u c q.2 q.0 q.3)),
        )

    star-out : (w k : List ℕ) → RunsFrom E S 0 w k → (k ≡ []) × Repeated Word w
    star-out [] k r = (((ends 0 k).0 r).1, done)
    star-out (c ∷ w) k r =
        let h = onward w 0 c r.0 r.1 r.2 ((steps 0 c r.0 r.1 some).0 ((starts c r.0 r.1).0 r.3)) r.4 in
        (r.5 ∙ h.1, more h.0.3 h.0.4 h.0.5)

    onward-in : (x : List ℕ) (c : ℕ) (y : List ℕ) (u : ℕ) → u < n → RunsFrom e s u (c ∷ x) [] → RunsFrom E S 0 y [] → RunsFrom E S (1 + u) ((c ∷ x) ++ y) []
    onward-in [] c y u lt r rest = ([], 0, [], (steps u c [] 0 lt).1 (inr ([], [], r.1, nil-step u c r.1 r.0 r.3, nil-end r.1 r.2 r.4, refl, refl)), rest, refl)
    onward-in (d ∷ x) c y u lt r rest =
        let tail = subst (RunsFrom e s r.1 (d ∷ x)) (runs-free (d ∷ x) r.1 r.2 r.4) r.4 in
        ([], 1 + r.1, [], (steps u c [] (1 + r.1) lt).1 (inl (r.1, refl, nil-step u c r.1 r.0 r.3)), onward-in x d y r.1 (within u c r.1 r.0 r.3) tail rest, refl)
      where
        runs-free : (w : List ℕ) (v : ℕ) (k : List ℕ) → RunsFrom e s v w k → k ≡ []
        runs-free [] v k h = free_ends v k h
        runs-free (b ∷ w) v k h = h.5 ∙ ap (λ l. add_costs l h.2) (free_steps v b h.1 h.0 h.3)

    star-in : (w : List ℕ) → Repeated Word w → RunsFrom E S 0 w []
    star-in w done = (ends 0 []).1 (refl, refl)
    star-in w (more {c = c} {u = x} {v = y} eq p rest) =
        let r = onward-in x c y 0 some p (star-in y rest) in
        subst (λ l. RunsFrom E S 0 l []) (sym eq) (r.0, r.1, r.2, (starts c r.0 r.1).1 r.3, r.4, r.5)

    pub star-runs : (w k : List ℕ) → RunsFrom E S 0 w k ↔ (Repeated Word w × (k ≡ []))
    star-runs w k = (λ r. let h = star-out w k r in (h.1, h.0), λ h. subst (RunsFrom E S 0 w) (sym h.1) (star-in w h.0))
