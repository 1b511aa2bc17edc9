-- The machines that look for a pattern.
use Rattle.std.proofs.Common.{◌≡◌, refl, sym, ap, ◌∙◌, subst, ℕ, suc, ◌+◌, ◌*◌, ◌≤◌, ◌<◌, ⊎_elim, arith, List, [], ◌∷◌, ◌++◌, length, take, Contains}
use Rattle.std.specs.Prelude.{◌↔◌}
use Rattle.std.proofs.lemmas.List.{append-nil, append_assoc, append_cancel_left, length-append, length-take-le}
use Rattle.std.proofs.lemmas.Bool.{cases_lt}
use Rattle.sv_list.specs.Lists.{Contains-here}
use Rattle.sv_word.specs.Words.{IsWord, greatest_character}
use Rattle.sv_terms.specs.Language.{Word}
use Rattle.sv_terms.specs.Replacement.{StandsFirst, StandsNowhere}
use Rattle.sv_terms.specs.Transduction.{IsFormedEdge, IsFormedEnd}
use Rattle.sv_terms.specs.TransducerSizes.{items_size}
use Rattle.sv_terms.specs.declared.transducer.TransEdge.{TransEdge}
use Rattle.sv_terms.specs.declared.transducer.Transducer.{Transducer}
use Rattle.replace_machines.specs.Borders.{IsNext}
use Rattle.replace_machines.specs.Rows.{at}
use Rattle.segment_machines.specs.Marked.{phase, in_phase, marked, IsMarkFound, IsMarkAbsent}
use Rattle.segment_machines.specs.Edges.{mark_edge, any_edge, machine, IsNextEdge, HasNext, IsSeekEdge, AreSeekEdges, AreEmptyEnds}
use Rattle.segment_machines.specs.Edges as edge
use Rattle.segment_machines.specs.Relating.{Relates}
use Rattle.segment_machines.proofs.MeaningLemmas.{Moves, IsMove, Means, relates, mark-moves, mark-step, mark-formed, each_member}
use Rattle.segment_machines.proofs.HeldLemmas.{next-most, whole-read, held-next, first-after, first-back, nowhere-after, nowhere-back, first-front, front-first}

front_same : (x y : ℕ) (v w : Word) → x ∷ v ≡ y ∷ w → (x ≡ y) × (v ≡ w)
front_same x y v w e = (cc, cc)

-- the first q characters of p were read: w goes on with e up to the end of the first occurrence, and c follows
pub record Found (p : Word) (q : ℕ) (w z : Word) : Type 0 where
  pub e : Word
  pub c : Word
  pub d : Word
  pub split : w ≡ e ++ c
  pub ends : take q p ++ e ≡ d ++ p
  pub first : StandsFirst p (take q p ++ w) d c
  pub marks : z ≡ in_phase 1 e ++ in_phase 2 c

module _ (p : Word) where
  -- one character more
  found-move : (q k j : ℕ) (w z : Word) → q < length p → IsNext (at p) q k j → j < length p → Found p j w z → Found p q (k ∷ w) (phase 1 ∷ (k ∷ z))
  found-move q k j w z h next l f =
      let m = held-next p q k j h next l in
      record {
        e = k ∷ f.e;
        c = f.c;
        d = m.passed ++ f.d;
        split = ap (λ (u : Word). k ∷ u) f.split;
        ends = m.same f.e ∙ ap (λ (u : Word). m.passed ++ u) f.ends ∙ sym (append_assoc m.passed f.d p);
        first = subst (λ (u : Word). StandsFirst p u (m.passed ++ f.d) f.c) (sym (m.same w)) (first-after p m.passed (take j p ++ w) f.d f.c (m.free w) f.first);
        marks = ap (λ (u : Word). phase 1 ∷ (k ∷ u)) f.marks;
      }

  found-last : (q k j : ℕ) (w z : Word) → q < length p → IsNext (at p) q k j → j ≡ length p → z ≡ in_phase 2 w → Found p q (k ∷ w) (phase 1 ∷ (k ∷ z))
  found-last q k j w z h next l s =
      let m = whole-read p q k j h next l in
      record {
        e = k ∷ [];
        c = w;
        d = [];
        split = refl;
        ends = m.same [] ∙ append-nil p;
        first = subst (λ (u : Word). StandsFirst p u [] w) (sym (m.same w)) (first-front p w);
        marks = ap (λ (u : Word). phase 1 ∷ (k ∷ u)) s;
      }

  -- some character is to come
  found-more : (q : ℕ) (w z : Word) → q < length p → (f : Found p q w z) → f.e ≡ [] → ⊥
  found-more q w z h f s =
      let n = ap length f.ends in
      let a = length-append (take q p) f.e in
      let b = length-append f.d p in
      let t = length-take-le q p (omega (arith, h)) in
      let y = ap length s in
      omega (arith, n, a, b, t, y, h)

  found-goes : (q k j : ℕ) (w e c d : Word) → q < length p → IsNext (at p) q k j → j < length p → w ≡ e ++ c → take q p ++ (k ∷ e) ≡ d ++ p → StandsFirst p (take q p ++ (k ∷ w)) d c
      → Found p j w (in_phase 1 e ++ in_phase 2 c)
  found-goes q k j w e c d h next l split ends first =
      let m = held-next p q k j h next l in
      let r = first-back p m.passed (take j p ++ w) d c (m.free w) (subst (λ (u : Word). StandsFirst p u d c) (m.same w) first) in
      record {
        e = e;
        c = c;
        d = r.0;
        split = split;
        ends = append_cancel_left m.passed (take j p ++ e) (r.0 ++ p) (sym (m.same e) ∙ ends ∙ ap (λ (u : Word). u ++ p) r.1 ∙ append_assoc m.passed r.0 p);
        first = r.2;
        marks = refl;
      }

  found-ends : (q k j : ℕ) (w e c d : Word) → q < length p → IsNext (at p) q k j → j ≡ length p → w ≡ e ++ c → StandsFirst p (take q p ++ (k ∷ w)) d c → in_phase 1 e ++ in_phase 2 c ≡ in_phase 2 w
  found-ends q k j w e c d h next l split first =
      let m = whole-read p q k j h next l in
      let r = front-first p w d c (subst (λ (u : Word). StandsFirst p u d c) (m.same w) first) in
      let n = ap length split ∙ length-append e c in
      let y = ap length r.1 in
      ap (λ (u : Word). in_phase 1 u ++ in_phase 2 c) (nothing e (omega (arith, n, y))) ∙ ap (in_phase 2) (sym r.1)
    where
      nothing : (e : Word) → length e ≡ 0 → e ≡ []
      nothing [] h = refl
      nothing (x ∷ e) h = absurd (omega (arith, h))

  -- from the first state on, in phase 1
  found-front : (w z : Word) → Found p 0 w z → IsMarkFound p w z
  found-front w z f = ([], w, f.d, f.c, refl, f.first, f.marks ∙ ap (λ (u : Word). in_phase 1 u ++ in_phase 2 f.c) f.ends)

  front-found : (b d c : Word) → StandsFirst p b d c → Found p 0 b (in_phase 1 (d ++ p) ++ in_phase 2 c)
  front-found b d c f = record { e = d ++ p; c = c; d = d; split = f.stands ∙ sym (append_assoc d p c); ends = refl; first = f; marks = refl }

-- what the states of the machine that needs an occurrence relate
pub data FoundFrom (p : Word) (s : ℕ) (w z : Word) : Type 0 where
  holds : s < length p → IsWord w → Found p s w z → FoundFrom p s w z
  after : s ≡ length p → IsWord w → z ≡ in_phase 2 w → FoundFrom p s w z
  start : s ≡ suc (length p) → IsWord w → IsMarkFound p w z → FoundFrom p s w z

no_pattern : (p a b : Word) → (p ≡ [] → ⊥) → [] ≡ a ++ (p ++ b) → ⊥
no_pattern [] a b some e = some refl
no_pattern (x ∷ p) [] b some e = cc
no_pattern (x ∷ p) (y ∷ a) b some e = cc

module _ (p : Word) (edges : List TransEdge) (are : AreSeekEdges p (suc (length p)) edges) (some : p ≡ [] → ⊥) where
  filled : 0 < length p
  filled = by p some
    where
      by : (p : Word) → (p ≡ [] → ⊥) → 0 < length p
      by [] n = absurd (n refl)
      by (x ∷ p) n = omega arith

  abbrev found_machine : Transducer
  found_machine = machine (suc (suc (length p))) (suc (length p)) edges ((length p, []) ∷ [])

  -- after the next edge, and before it
  next-back : (q k j : ℕ) (w z : Word) → q < length p → IsNext (at p) q k j → j < suc (length p) → FoundFrom p j w z → IsWord w × Found p q (k ∷ w) (phase 1 ∷ (k ∷ z))
  next-back q k j w z h next b (holds l word f) = (word, found-move p q k j w z h next l f)
  next-back q k j w z h next b (after l word is) = (word, found-last p q k j w z h next l is)
  next-back q k j w z h next b (start l word m) = absurd (omega (arith, b, l))

  found-moves : (e : TransEdge) → Contains edges e → Moves (FoundFrom p) e
  found-moves e has = by (are.each e has)
    where
      from_first : (k : ℕ) (w z : Word) → k ≤ greatest_character → FoundFrom p (suc (length p)) w z → FoundFrom p (suc (length p)) (k ∷ w) (phase 0 ∷ (k ∷ z))
      from_first k w z top (holds l word f) = absurd (omega (arith, l))
      from_first k w z top (after l word is) = absurd (omega (arith, l))
      from_first k w z top (start l word m) =
          start refl (top, word) (k ∷ m.0, m.1, m.2, m.3, ap (λ (u : Word). k ∷ u) m.4, m.5, ap (λ (u : Word). phase 0 ∷ (k ∷ u)) m.6)

      from_after : (k : ℕ) (w z : Word) → k ≤ greatest_character → FoundFrom p (length p) w z → FoundFrom p (length p) (k ∷ w) (phase 2 ∷ (k ∷ z))
      from_after k w z top (holds l word f) = absurd (omega (arith, l))
      from_after k w z top (after l word is) = after refl (top, word) (ap (λ (u : Word). phase 2 ∷ (k ∷ u)) is)
      from_after k w z top (start l word m) = absurd (omega (arith, l))

      by : IsSeekEdge p (suc (length p)) e → Moves (FoundFrom p) e
      by (edge.held q h n) = subst (Moves (FoundFrom p)) (sym n.is)
          (mark-moves (FoundFrom p) q 1 n.lo n.hi n.j (λ k w z top l m f.
          let r = next-back q k n.j w z h (n.leads k l m) n.below f in
          holds h (top, r.0) r.1))
      by (edge.first n) = subst (Moves (FoundFrom p)) (sym n.is)
          (mark-moves (FoundFrom p) (suc (length p)) 1 n.lo n.hi n.j (λ k w z top l m f.
          let r = next-back 0 k n.j w z filled (n.leads k l m) n.below f in
          start refl (top, r.0) (found-front p (k ∷ w) (phase 1 ∷ (k ∷ z)) r.1)))
      by (edge.before s) = subst (Moves (FoundFrom p)) (sym s)
          (mark-moves (FoundFrom p) (suc (length p)) 0 0 greatest_character (suc (length p)) (λ k w z top l m f. from_first k w z top f))
      by (edge.later l s) = subst (Moves (FoundFrom p)) (sym s)
          (mark-moves (FoundFrom p) (length p) 2 0 greatest_character (length p) (λ k w z top l m f. from_after k w z top f))

  step-next : (q s k : ℕ) (w z : Word) → q < length p → HasNext p (suc (length p)) q s k edges → IsWord (k ∷ w) → Found p q (k ∷ w) z → IsMove found_machine (FoundFrom p) s k w z
  step-next q s k w z h n word f = by f.e f.split f.ends f.marks (found-more p q (k ∷ w) z h f)
    where
      most : n.j ≤ length p
      most = next-most p q k n.j h n.next

      by : (e : Word) → k ∷ w ≡ e ++ f.c → take q p ++ e ≡ f.d ++ p → z ≡ in_phase 1 e ++ in_phase 2 f.c → (e ≡ [] → ⊥) → IsMove found_machine (FoundFrom p) s k w z
      by [] split ends marks more = absurd (more refl)
      by (x ∷ e) split ends marks more =
          let same = front_same k x w (e ++ f.c) split in
          let has = n.has (omega (arith, most)) in
          let rest = in_phase 1 e ++ in_phase 2 f.c in
          let ends' : take q p ++ (k ∷ e) ≡ f.d ++ p = ap (λ y. take q p ++ (y ∷ e)) same.0 ∙ ends in
          let goes : FoundFrom p n.j w rest = ⊎_elim
          (λ l. holds l word.1 (found-goes p q k n.j w e f.c f.d h n.next l same.1 ends' f.first))
          (λ l. let full : n.j ≡ length p = omega (arith, l, most) in after full word.1 (found-ends p q k n.j w e f.c f.d h n.next full same.1 f.first))
          (cases_lt n.j (length p))
          in
          mark-step found_machine (FoundFrom p) s 1 has.0 has.1 n.j k w z rest has.2 word.0 has.3 has.4 (marks ∙ ap (λ y. phase 1 ∷ (y ∷ rest)) (sym same.0)) goes

  found-step : (s k : ℕ) (w z : Word) → s < suc (suc (length p)) → FoundFrom p s (k ∷ w) z → IsMove found_machine (FoundFrom p) s k w z
  found-step s k w z h (holds l word f) = step-next s s k w z l (are.held_some s k l word.0) word f
  found-step s k w z h (after l word is) = subst (λ n. IsMove found_machine (FoundFrom p) n k w z) (sym l)
      (mark-step found_machine (FoundFrom p) (length p) 2 0 greatest_character (length p) k w z (in_phase 2 w) (are.later_has (omega arith)) word.0 (omega arith) word.0 is (after refl word.1 refl))
  found-step s k w z h (start l word ([], b, d, c, split, first, is)) = subst (λ n. IsMove found_machine (FoundFrom p) n k w z) (sym l)
      (step-next 0 (suc (length p)) k w z filled (are.first_some k word.0) word
      (subst (Found p 0 (k ∷ w)) (sym is) (subst (λ (u : Word). Found p 0 u (in_phase 1 (d ++ p) ++ in_phase 2 c)) (sym split) (front-found p b d c first))))
  found-step s k w z h (start l word (x ∷ a, b, d, c, split, first, is)) =
      let same = front_same k x w (a ++ b) split in
      subst (λ n. IsMove found_machine (FoundFrom p) n k w z) (sym l)
      (mark-step found_machine (FoundFrom p) (suc (length p)) 0 0 greatest_character (suc (length p)) k w z (marked a (d ++ p) c) are.before_has word.0 (omega arith) word.0
      (is ∙ ap (λ y. phase 0 ∷ (y ∷ marked a (d ++ p) c)) (sym same.0)) (start refl word.1 (a, b, d, c, same.1, first, refl)))

  found-last-end : (s : ℕ) (z : Word) → s < suc (suc (length p)) → FoundFrom p s [] z → Contains {X = ℕ × Word} ((length p, []) ∷ []) (s, z)
  found-last-end s z h (holds l word f) = absurd (found-more p s [] z l f (nothing f.e f.c f.split))
    where
      nothing : (e c : Word) → [] ≡ e ++ c → e ≡ []
      nothing [] c t = refl
      nothing (x ∷ e) c t = absurd (cc)
  found-last-end s z h (after l word is) =
      subst (λ n. Contains {X = ℕ × Word} ((length p, []) ∷ []) (n, z)) (sym l) (subst (λ (u : Word). Contains {X = ℕ × Word} ((length p, []) ∷ []) (length p, u)) (sym is) (Contains-here (length p, []) []))
  found-last-end s z h (start l word ([], b, d, c, split, first, is)) = absurd (no_pattern p d c some (split ∙ first.stands))
  found-last-end s z h (start l word (x ∷ a, b, d, c, split, first, is)) = absurd (cc)

  found-means : Means found_machine (FoundFrom p)
  found-means = record {
    move = found-moves;
    step = found-step;
    ending = each_member (λ (e : ℕ × Word). FoundFrom p e.0 [] e.1) ((length p, []) ∷ []) ((after refl tt refl), tt);
    last = found-last-end;
  }

  next-formed : (q s : ℕ) (e : TransEdge) → s < suc (suc (length p)) → IsNextEdge p (suc (length p)) q s e → IsFormedEdge (suc (suc (length p))) e
  next-formed q s e h n = subst (IsFormedEdge (suc (suc (length p)))) (sym n.is)
      (mark-formed (suc (suc (length p))) s 1 n.lo n.hi n.j h (let x = n.below in omega (arith, x)) n.order n.top (omega arith))

  found-formed : (e : TransEdge) → IsSeekEdge p (suc (length p)) e → IsFormedEdge (suc (suc (length p))) e
  found-formed e (edge.held q h n) = next-formed q q e (omega (arith, h)) n
  found-formed e (edge.first n) = next-formed 0 (suc (length p)) e (omega arith) n
  found-formed e (edge.before s) = subst (IsFormedEdge (suc (suc (length p)))) (sym s)
      (mark-formed (suc (suc (length p))) (suc (length p)) 0 0 greatest_character (suc (length p)) (omega arith) (omega arith) (omega arith) (omega arith) (omega arith))
  found-formed e (edge.later l s) = subst (IsFormedEdge (suc (suc (length p)))) (sym s)
      (mark-formed (suc (suc (length p))) (length p) 2 0 greatest_character (length p) (omega arith) (omega arith) (omega arith) (omega arith) (omega arith))

  found-first : (w z : Word) → FoundFrom p (suc (length p)) w z ↔ (IsWord w × IsMarkFound p w z)
  found-first w z = (there, λ m. start refl m.0 m.1)
    where
      there : FoundFrom p (suc (length p)) w z → IsWord w × IsMarkFound p w z
      there (holds l word f) = absurd (omega (arith, l))
      there (after l word is) = absurd (omega (arith, l))
      there (start l word m) = (word, m)

-- each edge writes two characters
seek-small : (p : Word) (limit : ℕ) (e : TransEdge) → IsSeekEdge p limit e → items_size e.items ≤ 2
seek-small p limit e (edge.held q h n) = let x = ap (λ (y : TransEdge). items_size y.items) n.is in omega (arith, x)
seek-small p limit e (edge.first n) = let x = ap (λ (y : TransEdge). items_size y.items) n.is in omega (arith, x)
seek-small p limit e (edge.before s) = let x = ap (λ (y : TransEdge). items_size y.items) s in omega (arith, x)
seek-small p limit e (edge.later l s) = let x = ap (λ (y : TransEdge). items_size y.items) s in omega (arith, x)

pub found-relates : (p : Word) (edges : List TransEdge) → (p ≡ [] → ⊥) → AreSeekEdges p (suc (length p)) edges
    → Relates (machine (suc (suc (length p))) (suc (length p)) edges ((length p, []) ∷ [])) (IsMarkFound p) 2 (λ n. 2 * n)
found-relates p edges some are = relates (found_machine p edges are some) (FoundFrom p) (IsMarkFound p) 2 (λ n. 2 * n)
    (record {
      start = omega arith;
      edge = λ e c. found-formed p edges are some e (are.each e c);
      ending = each_member (IsFormedEnd (suc (suc (length p)))) ((length p, []) ∷ []) ((record { at = omega arith; word = tt }), tt);
    })
    (found-means p edges are some)
    (found-first p edges are some)
    (λ e c. seek-small p (suc (length p)) e (are.each e c))
    (each_member (λ (e : ℕ × Word). e.1 ≡ []) ((length p, []) ∷ []) (refl, tt))
    (λ n. omega arith)

-- what the states of the machine that allows no occurrence relate
pub data AbsentFrom (p : Word) (s : ℕ) (w z : Word) : Type 0 where
  keeps : s < length p → IsWord w → StandsNowhere p (take s p ++ w) → z ≡ in_phase 1 w ++ [] → AbsentFrom p s w z
  opens : s ≡ length p → IsWord w → IsMarkAbsent p w z → AbsentFrom p s w z

module _ (p : Word) (edges : List TransEdge) (ends : List (ℕ × Word)) (are : AreSeekEdges p (length p) edges) (end : AreEmptyEnds (suc (length p)) ends) (some : p ≡ [] → ⊥) where
  full : 0 < length p
  full = by p some
    where
      by : (p : Word) → (p ≡ [] → ⊥) → 0 < length p
      by [] n = absurd (n refl)
      by (x ∷ p) n = omega arith

  abbrev absent_machine : Transducer
  absent_machine = machine (suc (length p)) (length p) edges ends

  absent-back : (q k j : ℕ) (w : Word) → q < length p → IsNext (at p) q k j → j < length p → StandsNowhere p (take j p ++ w) → StandsNowhere p (take q p ++ (k ∷ w))
  absent-back q k j w h next l n =
      let m = held-next p q k j h next l in
      subst (StandsNowhere p) (sym (m.same w)) (nowhere-after p m.passed (take j p ++ w) (m.free w) n)

  absent-on : (q k j : ℕ) (w : Word) → q < length p → IsNext (at p) q k j → j < length p → StandsNowhere p (take q p ++ (k ∷ w)) → StandsNowhere p (take j p ++ w)
  absent-on q k j w h next l n =
      let m = held-next p q k j h next l in
      nowhere-back p m.passed (take j p ++ w) (subst (StandsNowhere p) (m.same w) n)

  absent-part : (q k j : ℕ) (w : Word) → q < length p → IsNext (at p) q k j → StandsNowhere p (take q p ++ (k ∷ w)) → j < length p
  absent-part q k j w h next n = ⊎_elim (λ l. l)
      (λ l.
      let most = next-most p q k j h next in
      let m = whole-read p q k j h next (omega (arith, l, most)) in
      absurd (n [] w (m.same w)))
      (cases_lt j (length p))

  -- the next edge from a state, in phase 1
  absent-next : (q k j : ℕ) (w z : Word) → q < length p → IsNext (at p) q k j → j < length p → AbsentFrom p j w z → IsWord w × StandsNowhere p (take q p ++ (k ∷ w)) × (z ≡ in_phase 1 w ++ [])
  absent-next q k j w z h next b (keeps l word n is) = (word, absent-back q k j w h next b n, is)
  absent-next q k j w z h next b (opens l word m) = absurd (omega (arith, b, l))

  absent-moves : (e : TransEdge) → Contains edges e → Moves (AbsentFrom p) e
  absent-moves e has = by (are.each e has)
    where
      from_first : (k : ℕ) (w z : Word) → k ≤ greatest_character → AbsentFrom p (length p) w z → AbsentFrom p (length p) (k ∷ w) (phase 0 ∷ (k ∷ z))
      from_first k w z top (keeps l word n is) = absurd (omega (arith, l))
      from_first k w z top (opens l word m) =
          opens refl (top, word) (k ∷ m.0, m.1, ap (λ (u : Word). k ∷ u) m.2, m.3, ap (λ (u : Word). phase 0 ∷ (k ∷ u)) m.4)

      by : IsSeekEdge p (length p) e → Moves (AbsentFrom p) e
      by (edge.held q h n) = subst (Moves (AbsentFrom p)) (sym n.is)
          (mark-moves (AbsentFrom p) q 1 n.lo n.hi n.j (λ k w z top l m f.
          let r = absent-next q k n.j w z h (n.leads k l m) n.below f in
          keeps h (top, r.0) r.1 (ap (λ (u : Word). phase 1 ∷ (k ∷ u)) r.2)))
      by (edge.first n) = subst (Moves (AbsentFrom p)) (sym n.is)
          (mark-moves (AbsentFrom p) (length p) 1 n.lo n.hi n.j (λ k w z top l m f.
          let r = absent-next 0 k n.j w z full (n.leads k l m) n.below f in
          opens refl (top, r.0) ([], k ∷ w, refl, r.1, ap (λ (u : Word). phase 1 ∷ (k ∷ u)) r.2)))
      by (edge.before s) = subst (Moves (AbsentFrom p)) (sym s)
          (mark-moves (AbsentFrom p) (length p) 0 0 greatest_character (length p) (λ k w z top l m f. from_first k w z top f))
      by (edge.later l s) = absurd (omega (arith, l))

  absent-go : (q s k : ℕ) (w z : Word) → q < length p → HasNext p (length p) q s k edges → IsWord (k ∷ w) → StandsNowhere p (take q p ++ (k ∷ w)) → z ≡ in_phase 1 (k ∷ w) ++ []
      → IsMove absent_machine (AbsentFrom p) s k w z
  absent-go q s k w z h n word none_there is =
      let less = absent-part q k n.j w h n.next none_there in
      let has = n.has less in
      mark-step absent_machine (AbsentFrom p) s 1 has.0 has.1 n.j k w z (in_phase 1 w ++ []) has.2 word.0 has.3 has.4 is
      (keeps less word.1 (absent-on q k n.j w h n.next less none_there) refl)

  absent-step : (s k : ℕ) (w z : Word) → s < suc (length p) → AbsentFrom p s (k ∷ w) z → IsMove absent_machine (AbsentFrom p) s k w z
  absent-step s k w z h (keeps l word n is) = absent-go s s k w z l (are.held_some s k l word.0) word n is
  absent-step s k w z h (opens l word ([], b, split, n, is)) = subst (λ m. IsMove absent_machine (AbsentFrom p) m k w z) (sym l)
      (absent-go 0 (length p) k w z full (are.first_some k word.0) word (subst (StandsNowhere p) (sym split) n) (is ∙ ap (λ (u : Word). in_phase 1 u ++ []) (sym split)))
  absent-step s k w z h (opens l word (x ∷ a, b, split, n, is)) =
      let same = front_same k x w (a ++ b) split in
      subst (λ m. IsMove absent_machine (AbsentFrom p) m k w z) (sym l)
      (mark-step absent_machine (AbsentFrom p) (length p) 0 0 greatest_character (length p) k w z (marked a b []) are.before_has word.0 (omega arith) word.0
      (is ∙ ap (λ y. phase 0 ∷ (y ∷ marked a b [])) (sym same.0)) (opens refl word.1 (a, b, same.1, n, refl)))

  absent-end : (e : ℕ × Word) → Contains ends e → AbsentFrom p e.0 [] e.1
  absent-end e c =
      let k = end.each e c in
      let below = k.0 in
      ⊎_elim
      (λ l. keeps l tt (λ a b s.
      let n = ap length s ∙ length-append a (p ++ b) in
      let m = length-append p b in
      let y = length-append (take e.0 p) [] in
      let t = length-take-le e.0 p (omega (arith, l)) in
      omega (arith, n, m, y, t, l)) k.1)
      (λ l. opens (omega (arith, l, below)) tt ([], [], refl, (λ a b s. no_pattern p a b some s), k.1))
      (cases_lt e.0 (length p))

  absent-last : (s : ℕ) (z : Word) → s < suc (length p) → AbsentFrom p s [] z → Contains ends (s, z)
  absent-last s z h (keeps l word n is) = subst (λ (u : Word). Contains ends (s, u)) (sym is) (end.some s h)
  absent-last s z h (opens l word ([], b, split, n, is)) = subst (λ (u : Word). Contains ends (s, u)) (sym (is ∙ ap (λ (u : Word). in_phase 1 u ++ []) (sym split))) (end.some s h)
  absent-last s z h (opens l word (x ∷ a, b, split, n, is)) = absurd (cc)

  absent-means : Means absent_machine (AbsentFrom p)
  absent-means = record { move = absent-moves; step = absent-step; ending = absent-end; last = absent-last }

  absent-next-formed : (q s : ℕ) (e : TransEdge) → s < suc (length p) → IsNextEdge p (length p) q s e → IsFormedEdge (suc (length p)) e
  absent-next-formed q s e h n = subst (IsFormedEdge (suc (length p))) (sym n.is)
      (mark-formed (suc (length p)) s 1 n.lo n.hi n.j h (let x = n.below in omega (arith, x)) n.order n.top (omega arith))

  absent-formed : (e : TransEdge) → IsSeekEdge p (length p) e → IsFormedEdge (suc (length p)) e
  absent-formed e (edge.held q h n) = absent-next-formed q q e (omega (arith, h)) n
  absent-formed e (edge.first n) = absent-next-formed 0 (length p) e (omega arith) n
  absent-formed e (edge.before s) = subst (IsFormedEdge (suc (length p))) (sym s)
      (mark-formed (suc (length p)) (length p) 0 0 greatest_character (length p) (omega arith) (omega arith) (omega arith) (omega arith) (omega arith))
  absent-formed e (edge.later l s) = absurd (omega (arith, l))

  absent-first : (w z : Word) → AbsentFrom p (length p) w z ↔ (IsWord w × IsMarkAbsent p w z)
  absent-first w z = (there, λ m. opens refl m.0 m.1)
    where
      there : AbsentFrom p (length p) w z → IsWord w × IsMarkAbsent p w z
      there (keeps l word n is) = absurd (omega (arith, l))
      there (opens l word m) = (word, m)

pub absent-relates : (p : Word) (edges : List TransEdge) (ends : List (ℕ × Word)) → (p ≡ [] → ⊥) → AreSeekEdges p (length p) edges → AreEmptyEnds (suc (length p)) ends
    → Relates (machine (suc (length p)) (length p) edges ends) (IsMarkAbsent p) 2 (λ n. 2 * n)
absent-relates p edges ends some are end = relates (absent_machine p edges ends are end some) (AbsentFrom p) (IsMarkAbsent p) 2 (λ n. 2 * n)
    (record {
      start = omega arith;
      edge = λ e c. absent-formed p edges ends are end some e (are.each e c);
      ending = λ e c. let k = end.each e c in record { at = k.0; word = subst IsWord (sym k.1) tt };
    })
    (absent-means p edges ends are end some)
    (absent-first p edges ends are end some)
    (λ e c. seek-small p (length p) e (are.each e c))
    (λ e c. (end.each e c).1)
    (λ n. omega arith)

-- the machines as they were made
pub found-is : (p : Word) (k : ℕ) (edges : List TransEdge) (ends : List (ℕ × Word)) → (p ≡ [] → ⊥) → k ≡ length p → AreSeekEdges p (k + 1) edges → ends ≡ (k, []) ∷ []
    → Relates (machine (k + 2) (k + 1) edges ends) (IsMarkFound p) 2 (λ n. 2 * n)
found-is p k edges ends some e are d =
    let one : suc (length p) ≡ k + 1 = omega (arith, e) in
    let two : suc (suc (length p)) ≡ k + 2 = omega (arith, e) in
    let are' : AreSeekEdges p (suc (length p)) edges = subst (λ n. AreSeekEdges p n edges) (sym one) are in
    let end : (length p, []) ∷ [] ≡ ends = sym (d ∙ ap (λ n. (n, []) ∷ []) e) in
    subst (λ n. Relates (machine n (k + 1) edges ends) (IsMarkFound p) 2 (λ n. 2 * n)) two
    (subst (λ n. Relates (machine (suc (suc (length p))) n edges ends) (IsMarkFound p) 2 (λ n. 2 * n)) one
    (subst (λ (xs : List (ℕ × Word)). Relates (machine (suc (suc (length p))) (suc (length p)) edges xs) (IsMarkFound p) 2 (λ n. 2 * n)) end (found-relates p edges some are')))

pub absent-is : (p : Word) (k : ℕ) (edges : List TransEdge) (ends : List (ℕ × Word)) → (p ≡ [] → ⊥) → k ≡ length p → AreSeekEdges p k edges → AreEmptyEnds (k + 1) ends
    → Relates (machine (k + 1) k edges ends) (IsMarkAbsent p) 2 (λ n. 2 * n)
absent-is p k edges ends some e are end =
    let one : suc (length p) ≡ k + 1 = omega (arith, e) in
    let are' : AreSeekEdges p (length p) edges = subst (λ n. AreSeekEdges p n edges) e are in
    let end' : AreEmptyEnds (suc (length p)) ends = subst (λ n. AreEmptyEnds n ends) (sym one) end in
    subst (λ n. Relates (machine n k edges ends) (IsMarkAbsent p) 2 (λ n. 2 * n)) one
    (subst (λ n. Relates (machine (suc (length p)) n edges ends) (IsMarkAbsent p) 2 (λ n. 2 * n)) (sym e) (absent-relates p edges ends some are' end'))
