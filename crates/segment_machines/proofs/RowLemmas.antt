-- Edges of a row, and of all rows.
use Rattle.std.proofs.Common.{◌≡◌, refl, sym, ap, ◌∙◌, subst, ℕ, suc, ◌-◌, ◌≤◌, ◌<◌, ⊎_elim, arith, Bool, true, false, if◌then◌else◌, List, [], ◌∷◌, ◌++◌, length, Contains, leb-true, le-leb, lt-ltb, ltb-true}
use Rattle.std.specs.Prelude.{nat_le, nat_lt}
use Rattle.std.proofs.lemmas.List.Elements.{Contains-append_left, Contains-append_right, Contains-append_cases}
use Rattle.sv_list.specs.Lists.{Contains-cases, Contains-here, Contains-none, below-cases}
use Rattle.sv_word.specs.Words.{greatest_character}
use Rattle.sv_terms.specs.Language.{Word}
use Rattle.sv_terms.specs.declared.transducer.TransEdge.{TransEdge}
use Rattle.replace_machines.specs.Borders.{IsNext}
use Rattle.replace_machines.specs.Rows.{at, target, Ascends, IsMatchRow}
use Rattle.replace_machines.proofs.RowLemmas.{less_or_not, target-here, target-later, target-below}
use Rattle.segment_machines.specs.Edges.{mark_edge, any_edge, row_edges, IsNextEdge, HasNext, AreHeldEdges, IsSeekEdge, held, first, before, later, AreSeekEdges, AreEmptyEnds}

maybe_one : (t : Bool) (x e : TransEdge) → Contains (if t then x ∷ [] else []) e → (t ≡ true) × (x ≡ e)
maybe_one true x e c = (refl, ⊎_elim (λ s. s) (λ d. absurd (Contains-none e d)) (Contains-cases x [] e c))
maybe_one false x e c = absurd (Contains-none e c)

one_if : (t : Bool) (x : TransEdge) → t ≡ true → Contains (if t then x ∷ [] else []) x
one_if true x h = Contains-here x []
one_if false x h = absurd (cc)

module _ (limit s : ℕ) where
  -- each edge reads characters that lead where it leads
  pub record IsPart (low : ℕ) (row : List (ℕ × ℕ)) (e : TransEdge) : Type 0 where
    pub lo : ℕ
    pub hi : ℕ
    pub j : ℕ
    pub is : e ≡ mark_edge s 1 lo hi j
    pub after : low ≤ lo
    pub order : lo ≤ hi
    pub top : hi ≤ greatest_character
    pub below : j < limit
    pub leads : (c : ℕ) → lo ≤ c → c ≤ hi → target row c ≡ j

  part-weaker : (low : ℕ) (p : ℕ × ℕ) (row : List (ℕ × ℕ)) (e : TransEdge) → low ≤ p.0 → IsPart (suc p.0) row e → IsPart low (p ∷ row) e
  part-weaker low p row e h k = record {
    lo = k.lo;
    hi = k.hi;
    j = k.j;
    is = k.is;
    after = (let a = k.after in omega (arith, a, h));
    order = k.order;
    top = k.top;
    below = k.below;
    leads = λ c g l. target-later p row c (λ t. let a = k.after in absurd (omega (arith, a, g, t))) ∙ k.leads c g l;
  }

  pub row-sound : (low : ℕ) (row : List (ℕ × ℕ)) → 0 < limit → Ascends low row → (e : TransEdge) → Contains (row_edges limit s low row) e → IsPart low row e
  row-sound low [] z h e c =
      let k = maybe_one (nat_le low greatest_character) (mark_edge s 1 low greatest_character 0) e c in
      record { lo = low; hi = greatest_character; j = 0; is = sym k.1; after = omega arith; order = leb-true low greatest_character k.0; top = omega arith; below = z; leads = λ c g l. refl }
  row-sound low (p ∷ row) z h e c = ⊎_elim gap
      (λ d. ⊎_elim single (λ more. part-weaker low p row e h.0 (row-sound (suc p.0) row z h.2 e more)) (Contains-append_cases (if nat_lt p.1 limit then mark_edge s 1 p.0 p.0 p.1 ∷ [] else []) (row_edges limit s (suc p.0) row) e d))
      (Contains-append_cases (if nat_lt low p.0 then mark_edge s 1 low (p.0 - 1) 0 ∷ [] else []) ((if nat_lt p.1 limit then mark_edge s 1 p.0 p.0 p.1 ∷ [] else []) ++ row_edges limit s (suc p.0) row) e c)
    where
      gap : Contains (if nat_lt low p.0 then mark_edge s 1 low (p.0 - 1) 0 ∷ [] else []) e → IsPart low (p ∷ row) e
      gap d =
          let k = maybe_one (nat_lt low p.0) (mark_edge s 1 low (p.0 - 1) 0) e d in
          let l = ltb-true low p.0 k.0 in
          let t = h.1 in
          record { lo = low; hi = p.0 - 1; j = 0; is = sym k.1; after = omega arith; order = omega (arith, l); top = omega (arith, t); below = z; leads = λ c g m. target-below (p ∷ row) p.0 c (omega arith, t, h.2) (omega (arith, l, m)) }

      single : Contains (if nat_lt p.1 limit then mark_edge s 1 p.0 p.0 p.1 ∷ [] else []) e → IsPart low (p ∷ row) e
      single d =
          let k = maybe_one (nat_lt p.1 limit) (mark_edge s 1 p.0 p.0 p.1) e d in
          record { lo = p.0; hi = p.0; j = p.1; is = sym k.1; after = h.0; order = omega arith; top = h.1; below = ltb-true p.1 limit k.0; leads = λ c g m. target-here p row c (omega (arith, g, m)) }

  -- some edge to the state j reads the character c

  abbrev pub IsCovered : List TransEdge → ℕ → ℕ → Type 0
  IsCovered edges c j = (lo hi : ℕ) × Contains edges (mark_edge s 1 lo hi j) × (lo ≤ c) × (c ≤ hi)

  pub covered-right : (xs ys : List TransEdge) (c j : ℕ) → IsCovered ys c j → IsCovered (xs ++ ys) c j
  covered-right xs ys c j k = (k.0, k.1, Contains-append_right xs ys (mark_edge s 1 k.0 k.1 j) k.2, k.3, k.4)

  pub covered-left : (xs ys : List TransEdge) (c j : ℕ) → IsCovered xs c j → IsCovered (xs ++ ys) c j
  covered-left xs ys c j k = (k.0, k.1, Contains-append_left xs ys (mark_edge s 1 k.0 k.1 j) k.2, k.3, k.4)

  pub row-total : (low : ℕ) (row : List (ℕ × ℕ)) → Ascends low row → (c : ℕ) → low ≤ c → c ≤ greatest_character → target row c < limit → IsCovered (row_edges limit s low row) c (target row c)
  row-total low [] h c l t b = (low, greatest_character, one_if (nat_le low greatest_character) (mark_edge s 1 low greatest_character 0) (le-leb low greatest_character (omega (arith, l, t))), l, t)
  row-total low (p ∷ row) h c l t b = ⊎_elim below
      (λ m. covered-right front (single ++ row_edges limit s (suc p.0) row) c (target (p ∷ row) c)
      (⊎_elim
      (λ g.
      let later : target (p ∷ row) c ≡ target row c = target-later p row c (λ e. let x = g.0 in absurd (omega (arith, e, x))) in
      covered-right single (row_edges limit s (suc p.0) row) c (target (p ∷ row) c)
      (subst (IsCovered (row_edges limit s (suc p.0) row) c) (sym later) (row-total (suc p.0) row h.2 c g.0 t (subst (λ n. n < limit) later b))))
      (λ g. covered-left single (row_edges limit s (suc p.0) row) c (target (p ∷ row) c) (here m.0 g.0))
      (less_or_not p.0 c)))
      (less_or_not c p.0)
    where
      front : List TransEdge
      front = if nat_lt low p.0 then mark_edge s 1 low (p.0 - 1) 0 ∷ [] else []

      single : List TransEdge
      single = if nat_lt p.1 limit then mark_edge s 1 p.0 p.0 p.1 ∷ [] else []

      below : (c < p.0) × (nat_lt c p.0 ≡ true) → IsCovered (row_edges limit s low (p ∷ row)) c (target (p ∷ row) c)
      below k =
          let g = k.0 in
          let zero_there : target (p ∷ row) c ≡ 0 = target-below (p ∷ row) p.0 c (omega arith, h.1, h.2) g in
          let has = one_if (nat_lt low p.0) (mark_edge s 1 low (p.0 - 1) 0) (lt-ltb low p.0 (omega (arith, l, g))) in
          subst (IsCovered (row_edges limit s low (p ∷ row)) c) (sym zero_there)
          (covered-left front (single ++ row_edges limit s (suc p.0) row) c 0 (low, p.0 - 1, has, l, omega (arith, g)))

      here : p.0 ≤ c → c ≤ p.0 → IsCovered single c (target (p ∷ row) c)
      here g m =
          let same : target (p ∷ row) c ≡ p.1 = target-here p row c (omega (arith, g, m)) in
          let less : p.1 < limit = subst (λ n. n < limit) same b in
          subst (IsCovered single c) (sym same) (p.0, p.0, one_if (nat_lt p.1 limit) (mark_edge s 1 p.0 p.0 p.1) (lt-ltb p.1 limit less), g, m)

-- an edge of the row of the state q, and the other way round
pub row-next : (pattern : Word) (limit q s : ℕ) (row : List (ℕ × ℕ)) → 0 < limit → IsMatchRow pattern q row → (e : TransEdge) → Contains (row_edges limit s 0 row) e → IsNextEdge pattern limit q s e
row-next pattern limit q s row z r e c =
    let k = row-sound limit s 0 row z r.ascends e c in
    record { lo = k.lo; hi = k.hi; j = k.j; is = k.is; order = k.order; top = k.top; below = k.below; leads = λ c g l. subst (IsNext (at pattern) q c) (k.leads c g l) (r.next c) }

pub row-has : (pattern : Word) (limit q s : ℕ) (row : List (ℕ × ℕ)) (old : List TransEdge) → IsMatchRow pattern q row → (c : ℕ) → c ≤ greatest_character → HasNext pattern limit q s c (old ++ row_edges limit s 0 row)
row-has pattern limit q s row old r c t = record {
  j = target row c;
  next = r.next c;
  has = λ b. covered-right limit s old (row_edges limit s 0 row) c (target row c) (row-total limit s 0 row r.ascends c (omega arith) t b);
}

pub has-left : (pattern : Word) (limit q s c : ℕ) (xs ys : List TransEdge) → HasNext pattern limit q s c xs → HasNext pattern limit q s c (xs ++ ys)
has-left pattern limit q s c xs ys h = record { j = h.j; next = h.next; has = λ b. covered-left limit s xs ys c h.j (h.has b) }

-- one state more
pub held_more : (pattern : Word) (limit n : ℕ) (row : List (ℕ × ℕ)) (edges new : List TransEdge) → 0 < limit → IsMatchRow pattern n row → AreHeldEdges pattern limit n edges
    → new ≡ edges ++ row_edges limit n 0 row → AreHeldEdges pattern limit (suc n) new
held_more pattern limit n row edges new z r h e = subst (AreHeldEdges pattern limit (suc n)) (sym e) (record { each = each; some = some })
  where
    each : (e : TransEdge) → Contains (edges ++ row_edges limit n 0 row) e → (q : ℕ) × (q < suc n) × IsNextEdge pattern limit q q e
    each e c = ⊎_elim
        (λ d. let k = h.each e d in (k.0, (let x = k.1 in omega (arith, x)), k.2))
        (λ d. (n, omega arith, row-next pattern limit n n row z r e d))
        (Contains-append_cases edges (row_edges limit n 0 row) e c)

    some : (q c : ℕ) → q < suc n → c ≤ greatest_character → HasNext pattern limit q q c (edges ++ row_edges limit n 0 row)
    some q c l t = ⊎_elim
        (λ less. has-left pattern limit q q c edges (row_edges limit n 0 row) (h.some q c less t))
        (λ same. subst (λ k. HasNext pattern limit k k c (edges ++ row_edges limit n 0 row)) (sym same) (row-has pattern limit n n row edges r c t))
        (below-cases q n l)

pub held_none : (pattern : Word) (limit : ℕ) → AreHeldEdges pattern limit 0 []
held_none pattern limit = record { each = λ e c. absurd (Contains-none e c); some = λ q c l t. absurd (omega (arith, l)) }

-- all edges: without those after an occurrence, and with them
module _ (pattern : Word) (limit : ℕ) (row : List (ℕ × ℕ)) (old : List TransEdge) (z : 0 < limit) (r : IsMatchRow pattern 0 row) (h : AreHeldEdges pattern limit (length pattern) old) where
  abbrev front_edges : List TransEdge
  front_edges = old ++ row_edges limit limit 0 row

  abbrev absent_edges : List TransEdge
  absent_edges = front_edges ++ any_edge limit 0 limit ∷ []

  abbrev found_edges : List TransEdge
  found_edges = absent_edges ++ any_edge (length pattern) 2 (length pattern) ∷ []

  absent-each : (e : TransEdge) → Contains absent_edges e → IsSeekEdge pattern limit e
  absent-each e c = ⊎_elim
      (λ d. ⊎_elim (λ a. let k = h.each e a in held k.0 k.1 k.2) (λ a. first (row-next pattern limit 0 limit row z r e a)) (Contains-append_cases old (row_edges limit limit 0 row) e d))
      (λ d. before (⊎_elim (λ s. sym s) (λ n. absurd (Contains-none e n)) (Contains-cases (any_edge limit 0 limit) [] e d)))
      (Contains-append_cases front_edges (any_edge limit 0 limit ∷ []) e c)

  absent-held : (q c : ℕ) → q < length pattern → c ≤ greatest_character → HasNext pattern limit q q c absent_edges
  absent-held q c l t = has-left pattern limit q q c front_edges (any_edge limit 0 limit ∷ []) (has-left pattern limit q q c old (row_edges limit limit 0 row) (h.some q c l t))

  absent-first : (c : ℕ) → c ≤ greatest_character → HasNext pattern limit 0 limit c absent_edges
  absent-first c t = has-left pattern limit 0 limit c front_edges (any_edge limit 0 limit ∷ []) (row-has pattern limit 0 limit row old r c t)

  absent-before : Contains absent_edges (any_edge limit 0 limit)
  absent-before = Contains-append_right front_edges (any_edge limit 0 limit ∷ []) (any_edge limit 0 limit) (Contains-here (any_edge limit 0 limit) [])

  pub seek_absent : (new : List TransEdge) → limit ≤ length pattern → new ≡ absent_edges → AreSeekEdges pattern limit new
  seek_absent new l e = subst (AreSeekEdges pattern limit) (sym e) (record {
    each = absent-each;
    held_some = absent-held;
    first_some = absent-first;
    before_has = absent-before;
    later_has = λ m. absurd (omega (arith, l, m));
  })

  pub seek_found : (new : List TransEdge) → length pattern < limit → new ≡ found_edges → AreSeekEdges pattern limit new
  seek_found new l e = subst (AreSeekEdges pattern limit) (sym e) (record {
    each = λ e c. ⊎_elim (absent-each e)
        (λ d. later l (⊎_elim (λ s. sym s) (λ n. absurd (Contains-none e n)) (Contains-cases last [] e d)))
        (Contains-append_cases absent_edges (last ∷ []) e c);
    held_some = λ q c m t. has-left pattern limit q q c absent_edges (last ∷ []) (absent-held q c m t);
    first_some = λ c t. has-left pattern limit 0 limit c absent_edges (last ∷ []) (absent-first c t);
    before_has = Contains-append_left absent_edges (last ∷ []) (any_edge limit 0 limit) absent-before;
    later_has = λ m. Contains-append_right absent_edges (last ∷ []) last (Contains-here last []);
  })
    where
      last : TransEdge
      last = any_edge (length pattern) 2 (length pattern)

-- one empty end more
pub ends_more : (n : ℕ) (ends new : List (ℕ × Word)) → AreEmptyEnds n ends → new ≡ ends ++ (n, []) ∷ [] → AreEmptyEnds (suc n) new
ends_more n ends new h e = subst (AreEmptyEnds (suc n)) (sym e) (record { each = each; some = some })
  where
    last : ℕ × Word
    last = (n, [])

    each : (e : ℕ × Word) → Contains (ends ++ last ∷ []) e → (e.0 < suc n) × (e.1 ≡ [])
    each e c = ⊎_elim
        (λ d. let k = h.each e d in ((let x = k.0 in omega (arith, x)), k.1))
        (λ d. ⊎_elim (λ s. ((let x : n ≡ e.0 = ap (λ (p : ℕ × Word). p.0) s in omega (arith, x)), sym (ap (λ (p : ℕ × Word). p.1) s))) (λ z. absurd (Contains-none e z)) (Contains-cases last [] e d))
        (Contains-append_cases ends (last ∷ []) e c)

    some : (q : ℕ) → q < suc n → Contains (ends ++ last ∷ []) (q, [])
    some q l = ⊎_elim
        (λ less. Contains-append_left ends (last ∷ []) (q, []) (h.some q less))
        (λ same. subst (λ k. Contains (ends ++ last ∷ []) (k, [])) (sym same) (Contains-append_right ends (last ∷ []) last (Contains-here last [])))
        (below-cases q n l)

pub ends_none : AreEmptyEnds 0 []
ends_none = record { each = λ e c. absurd (Contains-none e c); some = λ q l. absurd (omega (arith, l)) }
