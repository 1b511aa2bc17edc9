-- The machines that mark a part of a word.
use Rattle.std.proofs.Common.{◌≡◌, refl, sym, ap, ◌∙◌, subst, ℕ, zero, suc, ◌*◌, ◌≤◌, ◌<◌, arith, List, [], ◌∷◌, ◌++◌, Contains}
use Rattle.sv_word.specs.Words.{IsWord, greatest_character}
use Rattle.sv_terms.specs.Language.{Word}
use Rattle.sv_terms.specs.Transduction.{IsFormed, IsFormedEdge, IsFormedEnd}
use Rattle.sv_terms.specs.TransducerSizes.{items_size}
use Rattle.sv_terms.specs.declared.transducer.TransEdge.{TransEdge}
use Rattle.sv_terms.specs.declared.transducer.Transducer.{Transducer}
use Rattle.segment_machines.specs.Marked.{phase, in_phase, marked, IsMark, IsMarkEnd}
use Rattle.segment_machines.specs.Edges.{any_edge, machine}
use Rattle.segment_machines.specs.Relating.{Relates}
use Rattle.segment_machines.proofs.MeaningLemmas.{Moves, IsMove, Means, relates, mark-moves, mark-step, mark-formed, each_member}

-- a word after a character
front_same : (x y : ℕ) (v w : Word) → x ∷ v ≡ y ∷ w → (x ≡ y) × (v ≡ w)
front_same x y v w e = (cc, cc)

any-formed : (states s r to : ℕ) → s < states → to < states → r ≤ 2 → IsFormedEdge states (any_edge s r to)
any-formed states s r to h g t = mark-formed states s r 0 greatest_character to h g (omega arith) (omega arith) t

abbrev IsSmall : TransEdge → Type 0
IsSmall e = items_size e.items ≤ 2

abbrev mark_edges : List TransEdge
mark_edges = any_edge 0 0 0 ∷ (any_edge 0 1 1 ∷ (any_edge 1 1 1 ∷ (any_edge 1 2 2 ∷ (any_edge 2 2 2 ∷ []))))

abbrev mark_ends : List (ℕ × Word)
mark_ends = (1, []) ∷ ((2, []) ∷ [])

abbrev mark_machine : Transducer
mark_machine = machine 3 0 mark_edges mark_ends

-- what the states relate: the first, that in phase 1, that in phase 2
abbrev mark_meaning : ℕ → Word → Word → Type 0
mark_meaning zero w z = IsWord w × IsMark w z
mark_meaning (suc zero) w z = IsWord w × ((b c : Word) × (w ≡ b ++ c) × (z ≡ in_phase 1 b ++ in_phase 2 c))
mark_meaning (suc (suc s)) w z = IsWord w × (z ≡ in_phase 2 w)

mark-means : Means mark_machine mark_meaning
mark-means = record { move = moves; step = steps; ending = ends; last = lasts }
  where
    e1 : Contains mark_edges (any_edge 0 0 0)
    e1 = (0, omega arith, refl)

    e2 : Contains mark_edges (any_edge 0 1 1)
    e2 = (1, omega arith, refl)

    e3 : Contains mark_edges (any_edge 1 1 1)
    e3 = (2, omega arith, refl)

    e4 : Contains mark_edges (any_edge 1 2 2)
    e4 = (3, omega arith, refl)

    e5 : Contains mark_edges (any_edge 2 2 2)
    e5 = (4, omega arith, refl)

    moves : (e : TransEdge) → Contains mark_edges e → Moves mark_meaning e
    moves = each_member (Moves mark_meaning) mark_edges (
      (mark-moves mark_meaning 0 0 0 greatest_character 0 (λ c w z h l m p.
          let k = p.1 in
          ((h, p.0), (c ∷ k.0, k.1, k.2, ap (λ (u : Word). c ∷ u) k.3, k.4, ap (λ (u : Word). phase 0 ∷ (c ∷ u)) k.5)))),
      (
        (mark-moves mark_meaning 0 1 0 greatest_character 1 (λ c w z h l m p.
            let k = p.1 in
            ((h, p.0), ([], c ∷ k.0, k.1, ap (λ (u : Word). c ∷ u) k.2, (λ q. cc), ap (λ (u : Word). phase 1 ∷ (c ∷ u)) k.3)))),
        (
          (mark-moves mark_meaning 1 1 0 greatest_character 1 (λ c w z h l m p.
              let k = p.1 in
              ((h, p.0), (c ∷ k.0, k.1, ap (λ (u : Word). c ∷ u) k.2, ap (λ (u : Word). phase 1 ∷ (c ∷ u)) k.3)))),
          (
            (mark-moves mark_meaning 1 2 0 greatest_character 2 (λ c w z h l m p.
                ((h, p.0), ([], c ∷ w, refl, ap (λ (u : Word). phase 2 ∷ (c ∷ u)) p.1)))),
            (
              (mark-moves mark_meaning 2 2 0 greatest_character 2 (λ c w z h l m p.
                  ((h, p.0), ap (λ (u : Word). phase 2 ∷ (c ∷ u)) p.1))),
              tt,
            ),
          ),
        ),
      ),
    )

    steps : (s c : ℕ) (w z : Word) → s < 3 → mark_meaning s (c ∷ w) z → IsMove mark_machine mark_meaning s c w z
    steps zero c w z h ((top, word), ([], [], k, s, some, is)) = absurd (some refl)
    steps zero c w z h ((top, word), ([], y ∷ b, k, s, some, is)) =
        let e = front_same c y w (b ++ k) s in
        mark-step mark_machine mark_meaning 0 1 0 greatest_character 1 c w z (in_phase 1 b ++ in_phase 2 k) e2 top (omega arith) top
        (is ∙ ap (λ n. phase 1 ∷ (n ∷ (in_phase 1 b ++ in_phase 2 k))) (sym e.0)) (word, (b, k, e.1, refl))
    steps zero c w z h ((top, word), (x ∷ a, b, k, s, some, is)) =
        let e = front_same c x w (a ++ (b ++ k)) s in
        mark-step mark_machine mark_meaning 0 0 0 greatest_character 0 c w z (marked a b k) e1 top (omega arith) top
        (is ∙ ap (λ n. phase 0 ∷ (n ∷ marked a b k)) (sym e.0)) (word, (a, b, k, e.1, some, refl))
    steps (suc zero) c w z h ((top, word), ([], k, s, is)) =
        mark-step mark_machine mark_meaning 1 2 0 greatest_character 2 c w z (in_phase 2 w) e4 top (omega arith) top
        (is ∙ ap (in_phase 2) (sym s)) (word, refl)
    steps (suc zero) c w z h ((top, word), (y ∷ b, k, s, is)) =
        let e = front_same c y w (b ++ k) s in
        mark-step mark_machine mark_meaning 1 1 0 greatest_character 1 c w z (in_phase 1 b ++ in_phase 2 k) e3 top (omega arith) top
        (is ∙ ap (λ n. phase 1 ∷ (n ∷ (in_phase 1 b ++ in_phase 2 k))) (sym e.0)) (word, (b, k, e.1, refl))
    steps (suc (suc zero)) c w z h ((top, word), is) =
        mark-step mark_machine mark_meaning 2 2 0 greatest_character 2 c w z (in_phase 2 w) e5 top (omega arith) top is (word, refl)
    steps (suc (suc (suc s))) c w z h m = absurd (omega (arith, h))

    ends : (e : ℕ × Word) → Contains mark_ends e → mark_meaning e.0 [] e.1
    ends = each_member (λ (e : ℕ × Word). mark_meaning e.0 [] e.1) mark_ends ((tt, ([], [], refl, refl)), ((tt, refl), tt))

    lasts : (s : ℕ) (z : Word) → s < 3 → mark_meaning s [] z → Contains mark_ends (s, z)
    lasts zero z h (word, ([], [], k, s, some, is)) = absurd (some refl)
    lasts zero z h (word, ([], y ∷ b, k, s, some, is)) = absurd (cc)
    lasts zero z h (word, (x ∷ a, b, k, s, some, is)) = absurd (cc)
    lasts (suc zero) z h (word, ([], k, s, is)) = subst (λ (u : Word). Contains mark_ends (1, u)) (sym (is ∙ ap (in_phase 2) (sym s))) (0, omega arith, refl)
    lasts (suc zero) z h (word, (y ∷ b, k, s, is)) = absurd (cc)
    lasts (suc (suc zero)) z h (word, is) = subst (λ (u : Word). Contains mark_ends (2, u)) (sym is) (1, omega arith, refl)
    lasts (suc (suc (suc s))) z h m = absurd (omega (arith, h))

pub mark-relates : Relates mark_machine IsMark 2 (λ n. 2 * n)
mark-relates = relates mark_machine mark_meaning IsMark 2 (λ n. 2 * n) formed mark-means (λ w z. (λ m. m, λ m. m)) most nothing (λ n. omega arith)
  where
    formed : IsFormed mark_machine
    formed = record {
      start = omega arith;
      edge = each_member (IsFormedEdge 3) mark_edges ((any-formed 3 0 0 0 (omega arith) (omega arith) (omega arith)), ((any-formed 3 0 1 1 (omega arith) (omega arith) (omega arith)), ((any-formed 3 1 1 1 (omega arith) (omega arith) (omega arith)), ((any-formed 3 1 2 2 (omega arith) (omega arith) (omega arith)), ((any-formed 3 2 2 2 (omega arith) (omega arith) (omega arith)), tt)))));
      ending = each_member (IsFormedEnd 3) mark_ends ((record { at = omega arith; word = tt }), ((record { at = omega arith; word = tt }), tt));
    }

    most : (e : TransEdge) → Contains mark_edges e → IsSmall e
    most = each_member IsSmall mark_edges ((omega arith), ((omega arith), ((omega arith), ((omega arith), ((omega arith), tt)))))

    nothing : (e : ℕ × Word) → Contains mark_ends e → e.1 ≡ []
    nothing = each_member (λ (e : ℕ × Word). e.1 ≡ []) mark_ends (refl, (refl, tt))

-- the machine whose part in phase 1 goes to the end
abbrev end_edges : List TransEdge
end_edges = any_edge 0 0 0 ∷ (any_edge 0 1 1 ∷ (any_edge 1 1 1 ∷ []))

abbrev end_ends : List (ℕ × Word)
end_ends = (1, []) ∷ []

abbrev end_machine : Transducer
end_machine = machine 2 0 end_edges end_ends

abbrev end_meaning : ℕ → Word → Word → Type 0
end_meaning zero w z = IsWord w × IsMarkEnd w z
end_meaning (suc s) w z = IsWord w × (z ≡ in_phase 1 w ++ [])

end-means : Means end_machine end_meaning
end-means = record { move = moves; step = steps; ending = ends; last = lasts }
  where
    e1 : Contains end_edges (any_edge 0 0 0)
    e1 = (0, omega arith, refl)

    e2 : Contains end_edges (any_edge 0 1 1)
    e2 = (1, omega arith, refl)

    e3 : Contains end_edges (any_edge 1 1 1)
    e3 = (2, omega arith, refl)

    moves : (e : TransEdge) → Contains end_edges e → Moves end_meaning e
    moves = each_member (Moves end_meaning) end_edges (
      (mark-moves end_meaning 0 0 0 greatest_character 0 (λ c w z h l m p.
          let k = p.1 in
          ((h, p.0), (c ∷ k.0, k.1, ap (λ (u : Word). c ∷ u) k.2, k.3, ap (λ (u : Word). phase 0 ∷ (c ∷ u)) k.4)))),
      (
        (mark-moves end_meaning 0 1 0 greatest_character 1 (λ c w z h l m p.
            ((h, p.0), ([], c ∷ w, refl, (λ q. cc), ap (λ (u : Word). phase 1 ∷ (c ∷ u)) p.1)))),
        (
          (mark-moves end_meaning 1 1 0 greatest_character 1 (λ c w z h l m p.
              ((h, p.0), ap (λ (u : Word). phase 1 ∷ (c ∷ u)) p.1))),
          tt,
        ),
      ),
    )

    steps : (s c : ℕ) (w z : Word) → s < 2 → end_meaning s (c ∷ w) z → IsMove end_machine end_meaning s c w z
    steps zero c w z h ((top, word), ([], [], s, some, is)) = absurd (some refl)
    steps zero c w z h ((top, word), ([], y ∷ b, s, some, is)) =
        let e = front_same c y w b s in
        mark-step end_machine end_meaning 0 1 0 greatest_character 1 c w z (in_phase 1 b ++ []) e2 top (omega arith) top
        (is ∙ ap (λ n. phase 1 ∷ (n ∷ (in_phase 1 b ++ []))) (sym e.0)) (word, ap (λ (u : Word). in_phase 1 u ++ []) (sym e.1))
    steps zero c w z h ((top, word), (x ∷ a, b, s, some, is)) =
        let e = front_same c x w (a ++ b) s in
        mark-step end_machine end_meaning 0 0 0 greatest_character 0 c w z (marked a b []) e1 top (omega arith) top
        (is ∙ ap (λ n. phase 0 ∷ (n ∷ marked a b [])) (sym e.0)) (word, (a, b, e.1, some, refl))
    steps (suc zero) c w z h ((top, word), is) =
        mark-step end_machine end_meaning 1 1 0 greatest_character 1 c w z (in_phase 1 w ++ []) e3 top (omega arith) top is (word, refl)
    steps (suc (suc s)) c w z h m = absurd (omega (arith, h))

    ends : (e : ℕ × Word) → Contains end_ends e → end_meaning e.0 [] e.1
    ends = each_member (λ (e : ℕ × Word). end_meaning e.0 [] e.1) end_ends ((tt, refl), tt)

    lasts : (s : ℕ) (z : Word) → s < 2 → end_meaning s [] z → Contains end_ends (s, z)
    lasts zero z h (word, ([], [], s, some, is)) = absurd (some refl)
    lasts zero z h (word, ([], y ∷ b, s, some, is)) = absurd (cc)
    lasts zero z h (word, (x ∷ a, b, s, some, is)) = absurd (cc)
    lasts (suc zero) z h (word, is) = subst (λ (u : Word). Contains end_ends (1, u)) (sym is) (0, omega arith, refl)
    lasts (suc (suc s)) z h m = absurd (omega (arith, h))

pub end-relates : Relates end_machine IsMarkEnd 2 (λ n. 2 * n)
end-relates = relates end_machine end_meaning IsMarkEnd 2 (λ n. 2 * n) formed end-means (λ w z. (λ m. m, λ m. m)) most nothing (λ n. omega arith)
  where
    formed : IsFormed end_machine
    formed = record {
      start = omega arith;
      edge = each_member (IsFormedEdge 2) end_edges ((any-formed 2 0 0 0 (omega arith) (omega arith) (omega arith)), ((any-formed 2 0 1 1 (omega arith) (omega arith) (omega arith)), ((any-formed 2 1 1 1 (omega arith) (omega arith) (omega arith)), tt)));
      ending = each_member (IsFormedEnd 2) end_ends ((record { at = omega arith; word = tt }), tt);
    }

    most : (e : TransEdge) → Contains end_edges e → IsSmall e
    most = each_member IsSmall end_edges ((omega arith), ((omega arith), ((omega arith), tt)))

    nothing : (e : ℕ × Word) → Contains end_ends e → e.1 ≡ []
    nothing = each_member (λ (e : ℕ × Word). e.1 ≡ []) end_ends (refl, tt)

-- the edges and ends as they were made
pub mark-is : (edges : List TransEdge) (ends : List (ℕ × Word)) → edges ≡ mark_edges → ends ≡ mark_ends → Relates (machine 3 0 edges ends) IsMark 2 (λ n. 2 * n)
mark-is edges ends e d = subst (λ (es : List TransEdge). Relates (machine 3 0 es ends) IsMark 2 (λ n. 2 * n)) (sym e) (subst (λ (xs : List (ℕ × Word)). Relates (machine 3 0 mark_edges xs) IsMark 2 (λ n. 2 * n)) (sym d) mark-relates)

pub end-is : (edges : List TransEdge) (ends : List (ℕ × Word)) → edges ≡ end_edges → ends ≡ end_ends → Relates (machine 2 0 edges ends) IsMarkEnd 2 (λ n. 2 * n)
end-is edges ends e d = subst (λ (es : List TransEdge). Relates (machine 2 0 es ends) IsMarkEnd 2 (λ n. 2 * n)) (sym e) (subst (λ (xs : List (ℕ × Word)). Relates (machine 2 0 end_edges xs) IsMarkEnd 2 (λ n. 2 * n)) (sym d) end-relates)
