-- The machine that picks the characters of a phase.
use Rattle.std.proofs.Common.{◌≡◌, refl, sym, ap, ◌∙◌, subst, ℕ, zero, suc, ◌-◌, ◌≤◌, ◌<◌, ⊎_elim, arith, Bool, true, false, nat_eq, if◌then◌else◌, List, [], ◌∷◌, ◌++◌, Contains, Some}
use Rattle.std.specs.Prelude.{pos}
use Rattle.std.specs.Option.{option_map}
use Rattle.std.proofs.lemmas.Option.{same_Some}
use Rattle.sv_word.specs.Words.{IsWord, greatest_character}
use Rattle.sv_terms.specs.Language.{Word}
use Rattle.sv_terms.specs.Transduction.{then_word, written_at, IsFormed, IsFormedEdge, IsFormedEnd}
use Rattle.sv_terms.specs.TransducerSizes.{items_size}
use Rattle.sv_terms.specs.declared.transducer.Item.TheVariants.{Shift}
use Rattle.sv_terms.specs.declared.transducer.TransEdge.{TransEdge}
use Rattle.sv_terms.specs.declared.transducer.Transducer.{Transducer}
use Rattle.replace_machines.proofs.RowLemmas.{same_or_not}
use Rattle.replace_machines.proofs.WordLemmas.{shift-none}
use Rattle.segment_machines.specs.Marked.{phase, IsPhased, picked, IsPicked}
use Rattle.segment_machines.specs.Edges.{phase_edge, take_edge, pass_edge, machine}
use Rattle.segment_machines.specs.Relating.{Relates}
use Rattle.segment_machines.proofs.MeaningLemmas.{Moves, IsMove, Means, relates, each_member}

-- the character that is read is picked where this holds
abbrev pick_if : Bool → ℕ → Word → Word
pick_if b c v = if b then c ∷ v else v

module _ (s : ℕ) where
  abbrev pick_edges : List TransEdge
  pick_edges = phase_edge s 0 ∷ (phase_edge s 1 ∷ (phase_edge s 2 ∷ (take_edge ∷ (pass_edge ∷ []))))

  abbrev pick_ends : List (ℕ × Word)
  pick_ends = (0, []) ∷ []

  abbrev pick_machine : Transducer
  pick_machine = machine 3 0 pick_edges pick_ends

  -- where a phase is to come; where a character is to come that is picked, or passed over
  abbrev pick_meaning : ℕ → Word → Word → Type 0
  pick_meaning zero z v = IsWord z × IsPicked s z v
  pick_meaning (suc k) [] v = ⊥
  pick_meaning (suc zero) (c ∷ z) v = IsWord (c ∷ z) × IsPhased z × (v ≡ c ∷ picked s z)
  pick_meaning (suc (suc k)) (c ∷ z) v = IsWord (c ∷ z) × IsPhased z × (v ≡ picked s z)

  -- from the state after a phase
  phase-back : (h : ℕ) (z v : Word) → h ≤ 2 → pick_meaning (if nat_eq h s then 1 else 2) z v → IsWord (phase h ∷ z) × IsPicked s (phase h ∷ z) v
  phase-back h z v t m = ⊎_elim
      (λ e. taken z (subst (λ b. pick_meaning (if b then 1 else 2) z v) e.1 m) (same-phase e.0))
      (λ e. passed z (subst (λ b. pick_meaning (if b then 1 else 2) z v) e.1 m) (other-phase e.0))
      (same_or_not h s)
    where
      same-phase : h ≡ s → nat_eq (phase h) (phase s) ≡ true
      same-phase e = ⊎_elim (λ k. k.1) (λ k. absurd (k.0 (ap phase e))) (same_or_not (phase h) (phase s))

      other-phase : (h ≡ s → ⊥) → nat_eq (phase h) (phase s) ≡ false
      other-phase n = ⊎_elim (λ k. let x = k.0 in absurd (n (omega (arith, x)))) (λ k. k.1) (same_or_not (phase h) (phase s))

      taken : (z : Word) → pick_meaning 1 z v → nat_eq (phase h) (phase s) ≡ true → IsWord (phase h ∷ z) × IsPicked s (phase h ∷ z) v
      taken [] m e = absurd m
      taken (c ∷ z) m e = ((omega (arith, t), m.0), ((omega arith, omega (arith, t), m.1), m.2 ∙ sym (ap (λ b. pick_if b c (picked s z)) e)))

      passed : (z : Word) → pick_meaning 2 z v → nat_eq (phase h) (phase s) ≡ false → IsWord (phase h ∷ z) × IsPicked s (phase h ∷ z) v
      passed [] m e = absurd m
      passed (c ∷ z) m e = ((omega (arith, t), m.0), ((omega arith, omega (arith, t), m.1), m.2 ∙ sym (ap (λ b. pick_if b c (picked s z)) e)))

  phase-on : (h c : ℕ) (z v : Word) → h ≤ 2 → IsWord (c ∷ z) → IsPhased z → v ≡ pick_if (nat_eq (phase h) (phase s)) c (picked s z) → pick_meaning (if nat_eq h s then 1 else 2) (c ∷ z) v
  phase-on h c z v t word phased is = ⊎_elim
      (λ e. subst (λ b. pick_meaning (if b then 1 else 2) (c ∷ z) v) (sym e.1) (word, phased, is ∙ ap (λ b. pick_if b c (picked s z)) (same-phase e.0)))
      (λ e. subst (λ b. pick_meaning (if b then 1 else 2) (c ∷ z) v) (sym e.1) (word, phased, is ∙ ap (λ b. pick_if b c (picked s z)) (other-phase e.0)))
      (same_or_not h s)
    where
      same-phase : h ≡ s → nat_eq (phase h) (phase s) ≡ true
      same-phase e = ⊎_elim (λ k. k.1) (λ k. absurd (k.0 (ap phase e))) (same_or_not (phase h) (phase s))

      other-phase : (h ≡ s → ⊥) → nat_eq (phase h) (phase s) ≡ false
      other-phase n = ⊎_elim (λ k. let x = k.0 in absurd (n (omega (arith, x)))) (λ k. k.1) (same_or_not (phase h) (phase s))

  take-written : (c : ℕ) → c ≤ greatest_character → written_at c (Shift (pos 0) ∷ []) ≡ Some (c ∷ [])
  take-written c h = ap (λ o. then_word (option_map (λ d. d ∷ []) o) (Some [])) (shift-none c h)

  phase-moves : (h : ℕ) → h ≤ 2 → Moves pick_meaning (phase_edge s h)
  phase-moves h t c v z w top l m e p =
      let same : [] ≡ v = same_Some [] v e in
      let one : phase h ≡ c = omega (arith, l, m) in
      subst (λ (x : Word). pick_meaning 0 (c ∷ z) (x ++ w)) same
      (subst (λ n. pick_meaning 0 (n ∷ z) w) one (phase-back h z w t p))

  take-moves : Moves pick_meaning take_edge
  take-moves c v z w top l m e p =
      let same : c ∷ [] ≡ v = same_Some (c ∷ []) v (sym (take-written c top) ∙ e) in
      subst (λ (x : Word). pick_meaning 1 (c ∷ z) (x ++ w)) same ((top, p.0), p.1.0, ap (λ (x : Word). c ∷ x) p.1.1)

  pass-moves : Moves pick_meaning pass_edge
  pass-moves c v z w top l m e p =
      let same : [] ≡ v = same_Some [] v e in
      subst (λ (x : Word). pick_meaning 2 (c ∷ z) (x ++ w)) same ((top, p.0), p.1.0, p.1.1)

  phase-has : (h : ℕ) → h ≤ 2 → Contains pick_edges (phase_edge s h)
  phase-has zero t = (0, omega arith, refl)
  phase-has (suc zero) t = (1, omega arith, refl)
  phase-has (suc (suc zero)) t = (2, omega arith, refl)
  phase-has (suc (suc (suc h))) t = absurd (omega (arith, t))

  pick-means : Means pick_machine pick_meaning
  pick-means = record { move = moves; step = steps; ending = ends; last = lasts }
    where
      moves : (e : TransEdge) → Contains pick_edges e → Moves pick_meaning e
      moves = each_member (Moves pick_meaning) pick_edges ((phase-moves 0 (omega arith)), ((phase-moves 1 (omega arith)), ((phase-moves 2 (omega arith)), (take-moves, (pass-moves, tt)))))

      step-phase : (h c : ℕ) (z v : Word) → pick_meaning 0 (h ∷ (c ∷ z)) v → IsMove pick_machine pick_meaning 0 h (c ∷ z) v
      step-phase h c z v (word, (phased, is)) =
          let k = h - 48 in
          let low = phased.0 in
          let high = phased.1 in
          let small : k ≤ 2 = omega (arith, low, high) in
          let same : phase k ≡ h = omega (arith, low) in
          record {
            edge = phase_edge s k;
            text = [];
            rest = v;
            has = phase-has k small;
            moves = (refl, omega (arith, low), omega (arith, low), refl);
            splits = refl;
            goes = phase-on k c z v small word.1 phased.2 (is ∙ ap (λ n. pick_if (nat_eq n (phase s)) c (picked s z)) (sym same));
          }

      steps : (k c : ℕ) (z v : Word) → k < 3 → pick_meaning k (c ∷ z) v → IsMove pick_machine pick_meaning k c z v
      steps zero h [] v l (word, (phased, is)) = absurd phased
      steps zero h (c ∷ z) v l m = step-phase h c z v m
      steps (suc zero) c z v l (word, phased, is) = record {
        edge = take_edge;
        text = c ∷ [];
        rest = picked s z;
        has = (3, omega arith, refl);
        moves = (refl, omega arith, word.0, take-written c word.0);
        splits = is;
        goes = (word.1, (phased, refl));
      }
      steps (suc (suc zero)) c z v l (word, phased, is) = record {
        edge = pass_edge;
        text = [];
        rest = v;
        has = (4, omega arith, refl);
        moves = (refl, omega arith, word.0, refl);
        splits = refl;
        goes = (word.1, (phased, is));
      }
      steps (suc (suc (suc k))) c z v l m = absurd (omega (arith, l))

      ends : (e : ℕ × Word) → Contains pick_ends e → pick_meaning e.0 [] e.1
      ends = each_member (λ (e : ℕ × Word). pick_meaning e.0 [] e.1) pick_ends ((tt, (tt, refl)), tt)

      lasts : (k : ℕ) (v : Word) → k < 3 → pick_meaning k [] v → Contains pick_ends (k, v)
      lasts zero v l (word, (phased, is)) = subst (λ (u : Word). Contains pick_ends (0, u)) (sym is) (0, omega arith, refl)
      lasts (suc k) v l m = absurd m

  phase-formed : (h : ℕ) → h ≤ 2 → IsFormedEdge 3 (phase_edge s h)
  phase-formed h t = record { from = omega arith; to = to (nat_eq h s); order = omega arith; high = omega (arith, t); items = tt }
    where
      to : (b : Bool) → (if b then 1 else 2) < 3
      to true = omega arith
      to false = omega arith

  abbrev IsSmall : TransEdge → Type 0
  IsSmall e = items_size e.items ≤ 1

  pub pick-relates : Relates pick_machine (IsPicked s) 1 (λ n. n)
  pick-relates = relates pick_machine pick_meaning (IsPicked s) 1 (λ n. n) formed pick-means (λ z v. (λ m. m, λ m. m)) most nothing (λ n. omega arith)
    where
      formed : IsFormed pick_machine
      formed = record {
        start = omega arith;
        edge = each_member (IsFormedEdge 3) pick_edges ((phase-formed 0 (omega arith)), ((phase-formed 1 (omega arith)), ((phase-formed 2 (omega arith)), ((record { from = omega arith; to = omega arith; order = omega arith; high = omega arith; items = tt }), ((record { from = omega arith; to = omega arith; order = omega arith; high = omega arith; items = tt }), tt)))));
        ending = each_member (IsFormedEnd 3) pick_ends ((record { at = omega arith; word = tt }), tt);
      }

      most : (e : TransEdge) → Contains pick_edges e → IsSmall e
      most = each_member IsSmall pick_edges ((omega arith), ((omega arith), ((omega arith), ((omega arith), ((omega arith), tt)))))

      nothing : (e : ℕ × Word) → Contains pick_ends e → e.1 ≡ []
      nothing = each_member (λ (e : ℕ × Word). e.1 ≡ []) pick_ends (refl, tt)

-- the edges and ends as they were made
pub pick-is : (s : ℕ) (edges : List TransEdge) (ends : List (ℕ × Word)) → edges ≡ pick_edges s → ends ≡ pick_ends s → Relates (machine 3 0 edges ends) (IsPicked s) 1 (λ n. n)
pick-is s edges ends e d = subst (λ (es : List TransEdge). Relates (machine 3 0 es ends) (IsPicked s) 1 (λ n. n)) (sym e) (subst (λ (xs : List (ℕ × Word)). Relates (machine 3 0 (pick_edges s) xs) (IsPicked s) 1 (λ n. n)) (sym d) (pick-relates s))
