-- The machines of replacement, from their edges and ends.
use Rattle.std.proofs.Common.{◌≡◌, refl, sym, ap, ◌∙◌, subst, ℕ, zero, suc, ◌+◌, ◌-◌, ◌*◌, ◌≤◌, ◌<◌, ◌⊎◌, inl, inr, ⊎_elim, arith, Bool, true, false, nat_eq, if◌then◌else◌, List, [], ◌∷◌, ◌++◌, length, take, Some, Contains, max, add-mul}
use Rattle.std.specs.Prelude.{nat_lt, pos}
use Rattle.std.specs.Option.{option_map}
use Rattle.std.proofs.lemmas.List.{append-nil, append_assoc, length-append, length-take-le}
use Rattle.std.proofs.lemmas.List.Elements.{Contains-append_left, Contains-append_right, Contains-append_cases}
use Rattle.std.proofs.lemmas.Option.{same_Some}
use Rattle.sv_list.specs.Lists.{Contains-cases, Contains-here, Contains-there}
use Rattle.sv_word.specs.Words.{IsWord, greatest_character}
use Rattle.sv_terms.specs.Replacement.{replace_first, replace_all}
use Rattle.sv_terms.specs.ReplacementLaws.{first-here, first-skips, all-here, all-skips}
use Rattle.sv_terms.specs.Transduction.{then_word, written_at, Transduces, AreItems, IsFormed, IsFormedEdge, IsFormedEnd}
use Rattle.sv_terms.specs.TransducerSizes.{items_size, edges_most, ends_most}
use Rattle.sv_terms.specs.TransducerSizeLaws.{written_size}
use Rattle.sv_terms.specs.TransductionLaws.{Computes, computes-exact, Owes, owes_within, within_weaker, one_more}
use Rattle.sv_terms.specs.declared.transducer.Item.TheVariants.{Text, Shift}
use Rattle.sv_terms.specs.declared.transducer.TransEdge.{TransEdge}
use Rattle.sv_terms.specs.declared.transducer.Transducer.{Transducer}
use Rattle.replace_machines.specs.Relating.{Relates}
use Rattle.replace_machines.specs.Edges.{items_for, to_for, edge_for, AreEdges, AreEnds, copy_edge, front_edge, machine}
use Rattle.replace_machines.proofs.RowLemmas.{same_or_not, less_or_not}
use Rattle.replace_machines.proofs.WordLemmas.{Replaces, answer, answer-held, answer-end, IsStep, step, shift-none}

take_word : (n : ℕ) (w : List ℕ) → IsWord w → IsWord (take n w)
take_word zero [] h = tt
take_word zero (c ∷ w) h = tt
take_word (suc n) [] h = tt
take_word (suc n) (c ∷ w) h = (h.0, take_word n w h.1)

one_times : (n rate : ℕ) → 1 ≤ rate → n ≤ n * rate
one_times zero rate h = omega arith
one_times (suc n) rate h = let x = one_more n rate in let y = one_times n rate h in omega (arith, x, y, h)

times_more : (a b rate : ℕ) → a ≤ b → a * rate ≤ b * rate
times_more a b rate h =
    let x = add-mul (b - a) a rate in
    let s : b - a + a ≡ b = omega (arith, h) in
    let y = ap (λ n. n * rate) s in
    omega (arith, x, y)

items-words : (p u : List ℕ) (q j : ℕ) → IsWord p → IsWord u → AreItems (items_for p u q j)
items-words p u q j h g = by (nat_eq j (length p)) (nat_eq j 0)
  where
    by : (a b : Bool) → AreItems (if a then Text u ∷ [] else (if b then Text (take q p) ∷ (Shift (pos 0) ∷ []) else (Text (take (q + 1 - j) p) ∷ [])))
    by true b = (g, tt)
    by false true = (take_word q p h, tt)
    by false false = (take_word (q + 1 - j) p h, tt)

-- what the edges that hold a part of the pattern owe
pub record Pays (p u : List ℕ) (after rate : ℕ) (owed : ℕ → ℕ) : Type 0 where
  pub whole : (q : ℕ) → suc q ≡ length p → length u + owed after ≤ rate + owed q
  pub part : (q j n : ℕ) → q < length p → j < length p → n + j ≡ q + 1 → n + owed j ≤ rate + owed q

module _ (p u : List ℕ) (after : ℕ) (edges : List TransEdge) (are : AreEdges p u after (length p) edges) where
  held-to : (states : ℕ) → after < states → length p ≤ states → (e : TransEdge) → Contains edges e → e.to < states
  held-to states a l e has =
      let k = are.edge e has in
      let m = k.3 e.lo (omega arith) k.1 in
      let next = m.1 in
      let small : m.0 ≤ length p = ⊎_elim (λ z. omega (arith, z)) (λ f. let s = f.1 in let b = f.2.0 in let h = k.0 in omega (arith, s, b, h)) next.fits in
      let to : e.to ≡ to_for p after m.0 = ap (λ (x : TransEdge). x.to) m.2 in
      ⊎_elim
      (λ w. let s = to ∙ ap (λ b. if b then after else m.0) w.1 in omega (arith, s, a))
      (λ n. let s = to ∙ ap (λ b. if b then after else m.0) n.1 in
      ⊎_elim (λ y. let x = y.0 in omega (arith, s, x, l)) (λ y. let x = y.0 in absurd (n.0 (omega (arith, x, small)))) (less_or_not m.0 (length p)))
      (same_or_not m.0 (length p))

  held-formed : (states : ℕ) → after < states → length p ≤ states → IsWord p → IsWord u → (e : TransEdge) → Contains edges e → IsFormedEdge states e
  held-formed states a l h g e has =
      let k = are.edge e has in
      let m = k.3 e.lo (omega arith) k.1 in
      record {
        from = (let x = k.0 in omega (arith, x, l));
        to = held-to states a l e has;
        order = k.1;
        high = k.2;
        items = subst AreItems (sym (ap (λ (x : TransEdge). x.items) m.2)) (items-words p u e.from m.0 h g);
      }

  module _ (whole next : List ℕ → List ℕ) (r : Replaces p u whole next) (goes : (w : List ℕ) → answer p whole after w ≡ next w) where
    held-step : (e : TransEdge) → Contains edges e → (c : ℕ) → e.lo ≤ c → c ≤ e.hi → (j : ℕ) × (e ≡ edge_for p u after e.from e.lo e.hi j) × IsStep p u whole after e.from c j
    held-step e has c lo hi =
        let k = are.edge e has in
        let m = k.3 c lo hi in
        let top = k.2 in
        (m.0, m.2, step p u whole next r after goes e.from c m.0 k.0 (omega (arith, hi, top)) m.1)

    held-move : (e : TransEdge) → Contains edges e → (c : ℕ) → e.lo ≤ c → c ≤ e.hi → (v : List ℕ) × (written_at c e.items ≡ Some v) × ((w : List ℕ) → answer p whole e.from (c ∷ w) ≡ v ++ answer p whole e.to w)
    held-move e has c lo hi =
        let k = held-step e has c lo hi in
        let s = k.2 in
        (s.text, ap (λ (x : TransEdge). written_at c x.items) k.1 ∙ s.written, λ w. s.answers w ∙ ap (λ n. s.text ++ answer p whole n w) (sym (ap (λ (x : TransEdge). x.to) k.1)))

    held-owes : (rate : ℕ) (owed : ℕ → ℕ) → Pays p u after rate owed → (e : TransEdge) (s c : ℕ) (v : List ℕ) → Contains edges e → Transduces s c v e → length v + owed e.to ≤ rate + owed s
    held-owes rate owed pays e s c v has moves =
        let k = held-step e has c moves.1 moves.2 in
        let st = k.2 in
        let same : v ≡ st.text = same_Some v st.text (sym moves.3 ∙ ap (λ (x : TransEdge). written_at c x.items) k.1 ∙ st.written) in
        let size = ap length same in
        let to = ap (λ (x : TransEdge). owed x.to) k.1 in
        let from = ap owed moves.0 in
        ⊎_elim
        (λ w. let n = ap owed w.0 in let l = w.1 in let y = pays.whole e.from w.2 in omega (arith, size, to, from, n, l, y))
        (λ w. let n = ap owed w.0 in let q = (are.edge e has).0 in let y = pays.part e.from k.0 (length st.text) q w.1 w.2 in omega (arith, size, to, from, n, y))
        st.size

edges-least : (es : List TransEdge) (b : ℕ) → ((e : TransEdge) → Contains es e → items_size e.items ≤ b) → edges_most es ≤ b
edges-least [] b h = omega arith
edges-least (e ∷ es) b h = let x = h e (Contains-here e es) in let y = edges-least es b (λ d c. h d (Contains-there e es d c)) in omega (arith, x, y)

ends-least : (es : List (ℕ × List ℕ)) (b : ℕ) → ((e : ℕ × List ℕ) → Contains es e → length e.1 ≤ b) → ends_most es ≤ b
ends-least [] b h = omega arith
ends-least (e ∷ es) b h = let x = h e (Contains-here e es) in let y = ends-least es b (λ d c. h d (Contains-there e es d c)) in omega (arith, x, y)

relates : (t : Transducer) (answer : ℕ → List ℕ → List ℕ) (value : List ℕ → List ℕ) (rate base : ℕ) (owed bound : ℕ → ℕ)
    → IsFormed t → Computes t answer → Owes t rate owed → ((w : List ℕ) → answer t.start w ≡ value w) → ((s : ℕ) → s < t.states → owed s ≤ base) → ((n : ℕ) → n * rate + base ≤ bound n)
    → Relates t value bound
relates t answer value rate base owed bound formed computes owes first most less = record {
  formed = formed;
  exact = λ read written.
      let k = computes-exact t answer formed computes t.start read written formed.start in
      (λ p. let m = k.0 p in (m.0, m.1 ∙ first read), λ q. k.1 (q.0, q.1 ∙ sym (first read)));
  growth = within_weaker t (λ n. n * rate + base) bound less (owes_within t rate owed owes base most);
  most =
      let a = edges-least t.edges (rate + base) (λ e has.
      let f = formed.edge e has in
      let m = computes.move e has e.lo (omega arith) f.order in
      let x = owes.move e e.from e.lo m.0 has (refl, omega arith, f.order, m.1) in
      let y = written_size e.lo e.items m.0 m.1 in
      let z = most e.from f.from in
      omega (arith, x, y, z)) in
      let b = ends-least t.ends (rate + base) (λ e has.
      let x = owes.ended e has in
      let z = most e.0 (formed.ending e has).at in
      omega (arith, x, z)) in
      let c = less 1 in
      omega (arith, a, b, c);
}

-- every occurrence is replaced
module _ (a : ℕ) (p u : List ℕ) (edges : List TransEdge) (ends : List (ℕ × List ℕ)) (are : AreEdges (a ∷ p) u 0 (length (a ∷ p)) edges) (end : AreEnds (a ∷ p) (length (a ∷ p)) ends) (h : IsWord (a ∷ p)) (g : IsWord u) where
  all-replaces : Replaces (a ∷ p) u (replace_all (a ∷ p) u) (replace_all (a ∷ p) u)
  all-replaces = record { skips = all-skips a p u; here = all-here a p u; none = refl }

  all-goes : (w : List ℕ) → answer (a ∷ p) (replace_all (a ∷ p) u) 0 w ≡ replace_all (a ∷ p) u w
  all-goes w = answer-held (a ∷ p) u (replace_all (a ∷ p) u) (replace_all (a ∷ p) u) all-replaces 0 w (omega arith)

  all-pays : (rate : ℕ) → 1 ≤ rate → length u ≤ rate → Pays (a ∷ p) u 0 rate (λ s. s * rate)
  all-pays rate one most = record {
    whole = λ q e. omega (arith, most);
    part = λ q j n l m e.
        let x = add-mul n j rate in
        let y = one_times n rate one in
        let z = one_more q rate in
        let s : n + j ≡ suc q = omega (arith, e) in
        let w = ap (λ k. k * rate) s in
        omega (arith, x, y, z, w);
  }

  pub all-made : (k : ℕ) → k ≡ length (a ∷ p) → Relates (machine k edges ends) (replace_all (a ∷ p) u) (λ n. (n + length (a ∷ p)) * max 1 (length u))
  all-made k e = subst (λ s. Relates (machine s edges ends) (replace_all (a ∷ p) u) (λ n. (n + length (a ∷ p)) * max 1 (length u))) (sym e)
      (relates (machine (length (a ∷ p)) edges ends) (answer (a ∷ p) (replace_all (a ∷ p) u)) (replace_all (a ∷ p) u) (max 1 (length u)) (length (a ∷ p) * max 1 (length u)) (λ s. s * max 1 (length u)) (λ n. (n + length (a ∷ p)) * max 1 (length u))
      (record { start = omega arith; edge = held-formed (a ∷ p) u 0 edges are (length (a ∷ p)) (omega arith) (omega arith) h g; ending = ended })
      (record { move = held-move (a ∷ p) u 0 edges are (replace_all (a ∷ p) u) (replace_all (a ∷ p) u) all-replaces all-goes; edge = are.some; ending = last; ended = last-only })
      (record { move = held-owes (a ∷ p) u 0 edges are (replace_all (a ∷ p) u) (replace_all (a ∷ p) u) all-replaces all-goes (max 1 (length u)) (λ s. s * max 1 (length u)) (all-pays (max 1 (length u)) (omega arith) (omega arith)); ended = owed-last })
      all-goes
      (λ s l. times_more s (length (a ∷ p)) (max 1 (length u)) (omega (arith, l)))
      (λ n. let x = add-mul n (length (a ∷ p)) (max 1 (length u)) in omega (arith, x)))
    where
      ended : (e : ℕ × List ℕ) → Contains ends e → IsFormedEnd (length (a ∷ p)) e
      ended e c = let m = end.ending e c in record { at = m.0; word = subst IsWord (sym m.1) (take_word e.0 (a ∷ p) h) }

      last : (s : ℕ) → s < length (a ∷ p) → Contains ends (s, answer (a ∷ p) (replace_all (a ∷ p) u) s [])
      last s l = subst (λ (w : List ℕ). Contains ends (s, w)) (sym (answer-end (a ∷ p) u (replace_all (a ∷ p) u) (replace_all (a ∷ p) u) all-replaces s l)) (end.some s l)

      last-only : (e : ℕ × List ℕ) → Contains ends e → e.1 ≡ answer (a ∷ p) (replace_all (a ∷ p) u) e.0 []
      last-only e c = let m = end.ending e c in m.1 ∙ sym (answer-end (a ∷ p) u (replace_all (a ∷ p) u) (replace_all (a ∷ p) u) all-replaces e.0 m.0)

      owed-last : (e : ℕ × List ℕ) → Contains ends e → length e.1 ≤ e.0 * max 1 (length u)
      owed-last e c =
          let m = end.ending e c in
          let n = ap length m.1 in
          let l = m.0 in
          let t = length-take-le e.0 (a ∷ p) (omega (arith, l)) in
          let y = one_times e.0 (max 1 (length u)) (omega arith) in
          omega (arith, n, t, y)

copy-move : (k c : ℕ) → c ≤ greatest_character → written_at c (Shift (pos 0) ∷ []) ≡ Some (c ∷ [])
copy-move k c h = ap (λ o. then_word (option_map (λ d. d ∷ []) o) (Some [])) (shift-none c h)

copy-formed : (states k : ℕ) → k < states → IsFormedEdge states (copy_edge k)
copy-formed states k h = record { from = h; to = h; order = omega arith; high = omega arith; items = tt }

-- the first occurrence is replaced
module _ (a : ℕ) (p u : List ℕ) (held : List TransEdge) (held_ends : List (ℕ × List ℕ)) (are : AreEdges (a ∷ p) u (length (a ∷ p)) (length (a ∷ p)) held) (end : AreEnds (a ∷ p) (length (a ∷ p)) held_ends) (h : IsWord (a ∷ p)) (g : IsWord u) where
  first-replaces : Replaces (a ∷ p) u (replace_first (a ∷ p) u) (λ w. w)
  first-replaces = record { skips = first-skips (a ∷ p) u; here = first-here (a ∷ p) u; none = refl }

  first-copies : (w : List ℕ) → answer (a ∷ p) (replace_first (a ∷ p) u) (length (a ∷ p)) w ≡ w
  first-copies w = ⊎_elim (λ l. let x = l.0 in absurd (omega (arith, x))) (λ m. ap (λ b. if b then replace_first (a ∷ p) u (take (length (a ∷ p)) (a ∷ p) ++ w) else w) m.1) (less_or_not (length (a ∷ p)) (length (a ∷ p)))

  abbrev first-owed : ℕ → ℕ
  first-owed s = if nat_lt s (length (a ∷ p)) then s + length u else 0

  owed-held : (s : ℕ) → s < length (a ∷ p) → first-owed s ≡ s + length u
  owed-held s l = ⊎_elim (λ m. ap (λ b. if b then s + length u else 0) m.1) (λ m. let x = m.0 in absurd (omega (arith, x, l))) (less_or_not s (length (a ∷ p)))

  owed-copy : first-owed (length (a ∷ p)) ≡ 0
  owed-copy = ⊎_elim (λ m. let x = m.0 in absurd (omega (arith, x))) (λ m. ap (λ b. if b then length (a ∷ p) + length u else 0) m.1) (less_or_not (length (a ∷ p)) (length (a ∷ p)))

  first-pays : Pays (a ∷ p) u (length (a ∷ p)) 1 first-owed
  first-pays = record {
    whole = λ q e. let x = owed-copy in let y = owed-held q (omega (arith, e)) in omega (arith, x, y);
    part = λ q j n l m e. let x = owed-held q l in let y = owed-held j m in omega (arith, x, y, e);
  }

  pub first-made : (k : ℕ) (edges : List TransEdge) (ends : List (ℕ × List ℕ)) → k ≡ length (a ∷ p) → edges ≡ held ++ copy_edge k ∷ [] → ends ≡ held_ends ++ (k, []) ∷ []
      → Relates (machine (k + 1) edges ends) (replace_first (a ∷ p) u) (λ n. n + length (a ∷ p) + length u)
  first-made k edges ends ek ee ed = subst (λ (es : List TransEdge). Relates (machine (k + 1) es ends) (replace_first (a ∷ p) u) (λ n. n + length (a ∷ p) + length u)) (sym (ee ∙ ap (λ s. held ++ copy_edge s ∷ []) ek))
      (subst (λ (xs : List (ℕ × List ℕ)). Relates (machine (k + 1) (held ++ copy_edge (length (a ∷ p)) ∷ []) xs) (replace_first (a ∷ p) u) (λ n. n + length (a ∷ p) + length u)) (sym (ed ∙ ap (λ s. held_ends ++ (s, []) ∷ []) ek))
      (subst (λ s. Relates (machine (s + 1) (held ++ copy_edge (length (a ∷ p)) ∷ []) (held_ends ++ (length (a ∷ p), []) ∷ [])) (replace_first (a ∷ p) u) (λ n. n + length (a ∷ p) + length u)) (sym ek) made))
    where
      size : ℕ
      size = length (a ∷ p)

      copy : TransEdge
      copy = copy_edge size

      all_edges : List TransEdge
      all_edges = held ++ copy ∷ []

      last_end : ℕ × List ℕ
      last_end = (size, [])

      all_ends : List (ℕ × List ℕ)
      all_ends = held_ends ++ last_end ∷ []

      either : (P : TransEdge → Type 0) → ((e : TransEdge) → Contains held e → P e) → P copy → (e : TransEdge) → Contains all_edges e → P e
      either P f x e c = ⊎_elim (f e) (λ d. ⊎_elim (λ s. subst P s x) (λ z. let k = z.1 in absurd (omega (arith, k))) (Contains-cases copy [] e d)) (Contains-append_cases held (copy ∷ []) e c)

      either_end : (P : ℕ × List ℕ → Type 0) → ((e : ℕ × List ℕ) → Contains held_ends e → P e) → P last_end → (e : ℕ × List ℕ) → Contains all_ends e → P e
      either_end P f x e c = ⊎_elim (f e) (λ d. ⊎_elim (λ s. subst P s x) (λ z. let k = z.1 in absurd (omega (arith, k))) (Contains-cases last_end [] e d)) (Contains-append_cases held_ends (last_end ∷ []) e c)

      formed : IsFormed (machine (size + 1) all_edges all_ends)
      formed = record {
        start = omega arith;
        edge = either (IsFormedEdge (size + 1)) (held-formed (a ∷ p) u size held are (size + 1) (omega arith) (omega arith) h g) (copy-formed (size + 1) size (omega arith));
        ending = either_end (IsFormedEnd (size + 1)) (λ e c. let m = end.ending e c in record { at = (let x = m.0 in omega (arith, x)); word = subst IsWord (sym m.1) (take_word e.0 (a ∷ p) h) }) (record { at = omega arith; word = tt });
      }

      computes : Computes (machine (size + 1) all_edges all_ends) (answer (a ∷ p) (replace_first (a ∷ p) u))
      computes = record {
        move = either (λ e. (c : ℕ) → e.lo ≤ c → c ≤ e.hi → (v : List ℕ) × (written_at c e.items ≡ Some v) × ((w : List ℕ) → answer (a ∷ p) (replace_first (a ∷ p) u) e.from (c ∷ w) ≡ v ++ answer (a ∷ p) (replace_first (a ∷ p) u) e.to w))
            (held-move (a ∷ p) u size held are (replace_first (a ∷ p) u) (λ w. w) first-replaces first-copies)
            (λ c l m. (c ∷ [], copy-move size c m, λ w. first-copies (c ∷ w) ∙ ap (λ (v : List ℕ). c ∷ v) (sym (first-copies w))));
        edge = λ s c l t. ⊎_elim
            (λ x. let k = are.some s c x.0 t in (k.0, Contains-append_left held (copy ∷ []) k.0 k.1, k.2, k.3, k.4))
            (λ y. (copy, Contains-append_right held (copy ∷ []) copy (Contains-here copy []), (let x = y.0 in omega (arith, x, l)), omega arith, t))
            (less_or_not s size);
        ending = λ s l. ⊎_elim
            (λ x. subst (λ (w : List ℕ). Contains all_ends (s, w)) (sym (answer-end (a ∷ p) u (replace_first (a ∷ p) u) (λ w. w) first-replaces s x.0)) (Contains-append_left held_ends (last_end ∷ []) (s, take s (a ∷ p)) (end.some s x.0)))
            (λ y. let same : size ≡ s = (let x = y.0 in omega (arith, x, l)) in
            subst (λ n. Contains all_ends (n, answer (a ∷ p) (replace_first (a ∷ p) u) n [])) same
            (subst (λ (w : List ℕ). Contains all_ends (size, w)) (sym (first-copies [])) (Contains-append_right held_ends (last_end ∷ []) last_end (Contains-here last_end []))))
            (less_or_not s size);
        ended = either_end (λ e. e.1 ≡ answer (a ∷ p) (replace_first (a ∷ p) u) e.0 [])
            (λ e c. let m = end.ending e c in m.1 ∙ sym (answer-end (a ∷ p) u (replace_first (a ∷ p) u) (λ w. w) first-replaces e.0 m.0))
            (sym (first-copies []));
      }

      owes : Owes (machine (size + 1) all_edges all_ends) 1 first-owed
      owes = record {
        move = λ e s c v has moves. either (λ e. (s c : ℕ) (v : List ℕ) → Transduces s c v e → length v + first-owed e.to ≤ 1 + first-owed s)
            (λ e has s c v moves. held-owes (a ∷ p) u size held are (replace_first (a ∷ p) u) (λ w. w) first-replaces first-copies 1 first-owed first-pays e s c v has moves)
            (λ s c v moves.
            let same : c ∷ [] ≡ v = same_Some (c ∷ []) v (sym (copy-move size c moves.2) ∙ moves.3) in
            let n = ap length same in
            let m = ap first-owed moves.0 in
            omega (arith, n, m))
            e has s c v moves;
        ended = either_end (λ e. length e.1 ≤ first-owed e.0)
            (λ e c.
            let m = end.ending e c in
            let n = ap length m.1 in
            let l = m.0 in
            let t = length-take-le e.0 (a ∷ p) (omega (arith, l)) in
            let y = owed-held e.0 l in
            omega (arith, n, t, y))
            (omega arith);
      }

      most : (s : ℕ) → s < size + 1 → first-owed s ≤ size + length u
      most s l = ⊎_elim (λ x. let y = owed-held s x.0 in let z = x.0 in omega (arith, y, z)) (λ y. let x = y.0 in let same : s ≡ size = omega (arith, x, l) in let z = ap first-owed same in let w = owed-copy in omega (arith, z, w)) (less_or_not s size)

      made : Relates (machine (size + 1) all_edges all_ends) (replace_first (a ∷ p) u) (λ n. n + length (a ∷ p) + length u)
      made = relates (machine (size + 1) all_edges all_ends) (answer (a ∷ p) (replace_first (a ∷ p) u)) (replace_first (a ∷ p) u) 1 (size + length u) first-owed (λ n. n + length (a ∷ p) + length u)
          formed computes owes
          (λ w. answer-held (a ∷ p) u (replace_first (a ∷ p) u) (λ v. v) first-replaces 0 w (omega arith))
          most
          (λ n. omega arith)

pub all-relates : (pattern u : List ℕ) (edges : List TransEdge) (ends : List (ℕ × List ℕ)) (k : ℕ) → (pattern ≡ [] → ⊥) → k ≡ length pattern
    → AreEdges pattern u 0 (length pattern) edges → AreEnds pattern (length pattern) ends → IsWord pattern → IsWord u
    → Relates (machine k edges ends) (replace_all pattern u) (λ n. (n + length pattern) * max 1 (length u))
all-relates [] u edges ends k n e are end h g = absurd (n refl)
all-relates (a ∷ p) u edges ends k n e are end h g = all-made a p u edges ends are end h g k e

pub first-relates : (pattern u : List ℕ) (held edges : List TransEdge) (held_ends ends : List (ℕ × List ℕ)) (k : ℕ) → (pattern ≡ [] → ⊥) → k ≡ length pattern
    → AreEdges pattern u k (length pattern) held → AreEnds pattern (length pattern) held_ends → IsWord pattern → IsWord u
    → edges ≡ held ++ copy_edge k ∷ [] → ends ≡ held_ends ++ (k, []) ∷ []
    → Relates (machine (k + 1) edges ends) (replace_first pattern u) (λ n. n + length pattern + length u)
first-relates [] u held edges held_ends ends k n e are end h g ee ed = absurd (n refl)
first-relates (a ∷ p) u held edges held_ends ends k n e are end h g ee ed =
    first-made a p u held held_ends (subst (λ s. AreEdges (a ∷ p) u s (length (a ∷ p)) held) e are) end h g k edges ends e ee ed

only_one : {X : Type 0} (P : X → Type 0) (x : X) → P x → (y : X) → Contains (x ∷ []) y → P y
only_one P x h y c = ⊎_elim (λ s. subst P s h) (λ z. let k = z.1 in absurd (omega (arith, k))) (Contains-cases x [] y c)

only_two : {X : Type 0} (P : X → Type 0) (x z : X) → P x → P z → (y : X) → Contains (x ∷ z ∷ []) y → P y
only_two P x z h g y c = ⊎_elim (λ s. subst P s h) (only_one P z g y) (Contains-cases x (z ∷ []) y c)

below_one : (s : ℕ) → s < 1 → 0 ≡ s
below_one s h = omega (arith, h)

-- the empty pattern: the word is copied
pub copy-relates : (u : List ℕ) → Relates (machine 1 (copy_edge 0 ∷ []) ((0, []) ∷ [])) (replace_all [] u) (λ n. (n + 0) * max 1 (length u))
copy-relates u = relates t (λ s w. w) (replace_all [] u) 1 0 (λ s. 0) (λ n. (n + 0) * max 1 (length u))
    (record {
      start = omega arith;
      edge = only_one (IsFormedEdge 1) (copy_edge 0) (copy-formed 1 0 (omega arith));
      ending = only_one (IsFormedEnd 1) (0, []) (record { at = omega arith; word = tt });
    })
    (record {
      move = only_one (λ e. (c : ℕ) → e.lo ≤ c → c ≤ e.hi → (v : List ℕ) × (written_at c e.items ≡ Some v) × ((w : List ℕ) → c ∷ w ≡ v ++ w)) (copy_edge 0) (λ c l m. (c ∷ [], copy-move 0 c m, λ w. refl));
      edge = λ s c l m. (copy_edge 0, Contains-here (copy_edge 0) [], below_one s l, omega arith, m);
      ending = λ s l. subst (λ n. Contains {X = ℕ × List ℕ} ((0, []) ∷ []) (n, [])) (below_one s l) (Contains-here (0, []) []);
      ended = only_one (λ e. e.1 ≡ []) (0, []) refl;
    })
    (record {
      move = λ e s c v has moves. only_one (λ e. (s c : ℕ) (v : List ℕ) → Transduces s c v e → length v + 0 ≤ 1 + 0) (copy_edge 0)
          (λ s c v m. let n = ap length (same_Some (c ∷ []) v (sym (copy-move 0 c m.2) ∙ m.3)) in omega (arith, n)) e has s c v moves;
      ended = only_one (λ e. length e.1 ≤ 0) (0, []) (omega arith);
    })
    (λ w. refl)
    (λ s l. omega arith)
    (λ n. let x = one_times n (max 1 (length u)) (omega arith) in let s : n + 0 ≡ n = omega arith in let y = ap (λ k. k * max 1 (length u)) s in omega (arith, x, y))
  where
    t : Transducer
    t = machine 1 (copy_edge 0 ∷ []) ((0, []) ∷ [])

-- the empty pattern: the replacement is put in front
abbrev front_answer : List ℕ → ℕ → List ℕ → List ℕ
front_answer u zero w = u ++ w
front_answer u (suc s) w = w

abbrev front_owed : List ℕ → ℕ → ℕ
front_owed u zero = length u
front_owed u (suc s) = 0

below_two : (s : ℕ) → s < 2 → (0 ≡ s) ⊎ (1 ≡ s)
below_two zero h = inl refl
below_two (suc zero) h = inr refl
below_two (suc (suc s)) h = absurd (omega (arith, h))

front-move : (u : List ℕ) (c : ℕ) → c ≤ greatest_character → written_at c (Text u ∷ (Shift (pos 0) ∷ [])) ≡ Some (u ++ (c ∷ []))
front-move u c h = ap (then_word (Some u)) (copy-move 0 c h)

pub front-relates : (u : List ℕ) → IsWord u → Relates (machine 2 (front_edge u ∷ copy_edge 1 ∷ []) ((0, u) ∷ (1, []) ∷ [])) (replace_first [] u) (λ n. n + 0 + length u)
front-relates u g = relates (machine 2 (front_edge u ∷ copy_edge 1 ∷ []) ((0, u) ∷ (1, []) ∷ [])) (front_answer u) (replace_first [] u) 1 (length u) (front_owed u) (λ n. n + 0 + length u)
    (record {
      start = omega arith;
      edge = only_two (IsFormedEdge 2) (front_edge u) (copy_edge 1) (record { from = omega arith; to = omega arith; order = omega arith; high = omega arith; items = (g, tt) }) (copy-formed 2 1 (omega arith));
      ending = only_two (IsFormedEnd 2) (0, u) (1, []) (record { at = omega arith; word = g }) (record { at = omega arith; word = tt });
    })
    (record {
      move = only_two (λ e. (c : ℕ) → e.lo ≤ c → c ≤ e.hi → (v : List ℕ) × (written_at c e.items ≡ Some v) × ((w : List ℕ) → front_answer u e.from (c ∷ w) ≡ v ++ front_answer u e.to w)) (front_edge u) (copy_edge 1)
          (λ c l m. (u ++ (c ∷ []), front-move u c m, λ w. sym (append_assoc u (c ∷ []) w)))
          (λ c l m. (c ∷ [], copy-move 1 c m, λ w. refl));
      edge = λ s c l m. ⊎_elim
          (λ e. (front_edge u, Contains-here (front_edge u) (copy_edge 1 ∷ []), e, omega arith, m))
          (λ e. (copy_edge 1, Contains-there (front_edge u) (copy_edge 1 ∷ []) (copy_edge 1) (Contains-here (copy_edge 1) []), e, omega arith, m))
          (below_two s l);
      ending = λ s l. ⊎_elim
          (λ e. subst (λ n. Contains {X = ℕ × List ℕ} ((0, u) ∷ (1, []) ∷ []) (n, front_answer u n [])) e (subst (λ (w : List ℕ). Contains {X = ℕ × List ℕ} ((0, u) ∷ (1, []) ∷ []) (0, w)) (sym (append-nil u)) (Contains-here (0, u) ((1, []) ∷ []))))
          (λ e. subst (λ n. Contains {X = ℕ × List ℕ} ((0, u) ∷ (1, []) ∷ []) (n, front_answer u n [])) e (Contains-there (0, u) ((1, []) ∷ []) (1, []) (Contains-here (1, []) [])))
          (below_two s l);
      ended = only_two (λ e. e.1 ≡ front_answer u e.0 []) (0, u) (1, []) (sym (append-nil u)) refl;
    })
    (record {
      move = λ e s c v has moves. only_two (λ e. (s c : ℕ) (v : List ℕ) → Transduces s c v e → length v + front_owed u e.to ≤ 1 + front_owed u s) (front_edge u) (copy_edge 1)
          (λ s c v m. let n = ap length (same_Some (u ++ (c ∷ [])) v (sym (front-move u c m.2) ∙ m.3)) in let k = length-append u (c ∷ []) in let z = ap (front_owed u) m.0 in omega (arith, n, k, z))
          (λ s c v m. let n = ap length (same_Some (c ∷ []) v (sym (copy-move 1 c m.2) ∙ m.3)) in let z = ap (front_owed u) m.0 in omega (arith, n, z))
          e has s c v moves;
      ended = only_two (λ e. length e.1 ≤ front_owed u e.0) (0, u) (1, []) (omega arith) (omega arith);
    })
    (λ w. sym (first-here [] u w))
    (λ s l. ⊎_elim (λ e. let z = ap (front_owed u) e in omega (arith, z)) (λ e. let z = ap (front_owed u) e in omega (arith, z)) (below_two s l))
    (λ n. omega arith)

pub copy-is : (u : List ℕ) (edges : List TransEdge) (ends : List (ℕ × List ℕ)) → edges ≡ copy_edge 0 ∷ [] → ends ≡ (0, []) ∷ [] → Relates (machine 1 edges ends) (replace_all [] u) (λ n. (n + 0) * max 1 (length u))
copy-is u edges ends e d =
    subst (λ (es : List TransEdge). Relates (machine 1 es ends) (replace_all [] u) (λ n. (n + 0) * max 1 (length u))) (sym e)
    (subst (λ (xs : List (ℕ × List ℕ)). Relates (machine 1 (copy_edge 0 ∷ []) xs) (replace_all [] u) (λ n. (n + 0) * max 1 (length u))) (sym d) (copy-relates u))

pub front-is : (u : List ℕ) (edges : List TransEdge) (ends : List (ℕ × List ℕ)) → IsWord u → edges ≡ front_edge u ∷ copy_edge 1 ∷ [] → ends ≡ (0, u) ∷ (1, []) ∷ [] → Relates (machine 2 edges ends) (replace_first [] u) (λ n. n + 0 + length u)
front-is u edges ends g e d =
    subst (λ (es : List TransEdge). Relates (machine 2 es ends) (replace_first [] u) (λ n. n + 0 + length u)) (sym e)
    (subst (λ (xs : List (ℕ × List ℕ)). Relates (machine 2 (front_edge u ∷ copy_edge 1 ∷ []) xs) (replace_first [] u) (λ n. n + 0 + length u)) (sym d) (front-relates u g))

-- the empty pattern is the one that was given
pub all-empty : (t : Transducer) (pattern u : List ℕ) → pattern ≡ [] → Relates t (replace_all [] u) (λ n. (n + 0) * max 1 (length u)) → Relates t (replace_all pattern u) (λ n. (n + length pattern) * max 1 (length u))
all-empty t pattern u e r = subst (λ (p : List ℕ). Relates t (replace_all p u) (λ n. (n + length p) * max 1 (length u))) (sym e) r

pub first-empty : (t : Transducer) (pattern u : List ℕ) → pattern ≡ [] → Relates t (replace_first [] u) (λ n. n + 0 + length u) → Relates t (replace_first pattern u) (λ n. n + length pattern + length u)
first-empty t pattern u e r = subst (λ (p : List ℕ). Relates t (replace_first p u) (λ n. n + length p + length u)) (sym e) r
