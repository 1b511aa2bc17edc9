-- Edges of a row.
use Rattle.std.proofs.Common.{◌≡◌, refl, sym, ap, ◌∙◌, subst, ℕ, suc, ◌-◌, ◌≤◌, ◌<◌, ◌⊎◌, ⊎_elim, arith, Bool, true, false, if◌then◌else◌, List, [], ◌∷◌, ◌++◌, take, Contains, leb-true, le-leb, lt-ltb, ltb-true}
use Rattle.std.specs.Prelude.{nat_le, nat_lt}
use Rattle.std.proofs.lemmas.List.Elements.{Contains-append_left, Contains-append_right, Contains-append_cases}
use Rattle.sv_list.specs.Lists.{Contains-cases, Contains-here, Contains-there, below-cases}
use Rattle.sv_terms.specs.declared.transducer.TransEdge.{TransEdge}
use Rattle.replace_machines.specs.Borders.{IsNext}
use Rattle.replace_machines.specs.Rows.{at, target, Ascends, IsMatchRow}
use Rattle.replace_machines.specs.Edges.{edge_for, edges_of, AreEdges, AreEnds}
use Rattle.replace_machines.proofs.RowLemmas.{less_or_not, target-here, target-later, target-below}
use Rattle.sv_word.specs.Words.{greatest_character}

maybe_one : (t : Bool) (x e : TransEdge) → Contains (if t then x ∷ [] else []) e → (t ≡ true) × (x ≡ e)
maybe_one true x e c = (refl, ⊎_elim (λ s. s) (λ d. let k = d.1 in absurd (omega (arith, k))) (Contains-cases x [] e c))
maybe_one false x e c = let k = c.1 in absurd (omega (arith, k))

one_if : (t : Bool) (x : TransEdge) → t ≡ true → Contains (if t then x ∷ [] else []) x
one_if true x h = Contains-here x []
one_if false x h = absurd (cc)

-- each edge reads characters that lead where it leads
pub record IsPart (edge : ℕ → ℕ → ℕ → TransEdge) (low : ℕ) (row : List (ℕ × ℕ)) (e : TransEdge) : Type 0 where
  pub lo : ℕ
  pub hi : ℕ
  pub j : ℕ
  pub is : e ≡ edge lo hi j
  pub after : low ≤ lo
  pub order : lo ≤ hi
  pub top : hi ≤ greatest_character
  pub leads : (c : ℕ) → lo ≤ c → c ≤ hi → target row c ≡ j

part-weaker : (edge : ℕ → ℕ → ℕ → TransEdge) (low : ℕ) (p : ℕ × ℕ) (row : List (ℕ × ℕ)) (e : TransEdge) → low ≤ p.0 → IsPart edge (suc p.0) row e → IsPart edge low (p ∷ row) e
part-weaker edge low p row e h k = record {
  lo = k.lo;
  hi = k.hi;
  j = k.j;
  is = k.is;
  after = (let a = k.after in omega (arith, a, h));
  order = k.order;
  top = k.top;
  leads = λ c g l. target-later p row c (λ s. let a = k.after in absurd (omega (arith, a, g, s))) ∙ k.leads c g l;
}

pub edges_of-sound : (edge : ℕ → ℕ → ℕ → TransEdge) (low : ℕ) (row : List (ℕ × ℕ)) → Ascends low row → (e : TransEdge) → Contains (edges_of edge low row) e → IsPart edge low row e
edges_of-sound edge low [] h e c =
    let k = maybe_one (nat_le low greatest_character) (edge low greatest_character 0) e c in
    record { lo = low; hi = greatest_character; j = 0; is = sym k.1; after = omega arith; order = leb-true low greatest_character k.0; top = omega arith; leads = λ c g l. refl }
edges_of-sound edge low (p ∷ row) h e c = ⊎_elim gap (λ d. ⊎_elim single (λ more. part-weaker edge low p row e h.0 (edges_of-sound edge (suc p.0) row h.2 e more)) (Contains-cases (edge p.0 p.0 p.1) (edges_of edge (suc p.0) row) e d))
    (Contains-append_cases (if nat_lt low p.0 then edge low (p.0 - 1) 0 ∷ [] else []) (edge p.0 p.0 p.1 ∷ edges_of edge (suc p.0) row) e c)
  where
    gap : Contains (if nat_lt low p.0 then edge low (p.0 - 1) 0 ∷ [] else []) e → IsPart edge low (p ∷ row) e
    gap d =
        let k = maybe_one (nat_lt low p.0) (edge low (p.0 - 1) 0) e d in
        let l = ltb-true low p.0 k.0 in
        let t = h.1 in
        record { lo = low; hi = p.0 - 1; j = 0; is = sym k.1; after = omega arith; order = omega (arith, l); top = omega (arith, t); leads = λ c g m. target-below (p ∷ row) p.0 c (omega arith, t, h.2) (omega (arith, l, m)) }

    single : edge p.0 p.0 p.1 ≡ e → IsPart edge low (p ∷ row) e
    single s = record { lo = p.0; hi = p.0; j = p.1; is = sym s; after = h.0; order = omega arith; top = h.1; leads = λ c g m. target-here p row c (omega (arith, g, m)) }

pub record IsCovered (edge : ℕ → ℕ → ℕ → TransEdge) (edges : List TransEdge) (c : ℕ) : Type 0 where
  pub lo : ℕ
  pub hi : ℕ
  pub j : ℕ
  pub has : Contains edges (edge lo hi j)
  pub after : lo ≤ c
  pub before : c ≤ hi

covered-more : (edge : ℕ → ℕ → ℕ → TransEdge) (xs ys : List TransEdge) (c : ℕ) → IsCovered edge ys c → IsCovered edge (xs ++ ys) c
covered-more edge xs ys c k = record { lo = k.lo; hi = k.hi; j = k.j; has = Contains-append_right xs ys (edge k.lo k.hi k.j) k.has; after = k.after; before = k.before }

covered-later : (edge : ℕ → ℕ → ℕ → TransEdge) (x : TransEdge) (ys : List TransEdge) (c : ℕ) → IsCovered edge ys c → IsCovered edge (x ∷ ys) c
covered-later edge x ys c k = record { lo = k.lo; hi = k.hi; j = k.j; has = Contains-there x ys (edge k.lo k.hi k.j) k.has; after = k.after; before = k.before }

pub edges_of-total : (edge : ℕ → ℕ → ℕ → TransEdge) (low : ℕ) (row : List (ℕ × ℕ)) → Ascends low row → (c : ℕ) → low ≤ c → c ≤ greatest_character → IsCovered edge (edges_of edge low row) c
edges_of-total edge low [] h c l t = record { lo = low; hi = greatest_character; j = 0; has = one_if (nat_le low greatest_character) (edge low greatest_character 0) (le-leb low greatest_character (omega (arith, l, t))); after = l; before = t }
edges_of-total edge low (p ∷ row) h c l t = ⊎_elim below (λ m. covered-more edge front (edge p.0 p.0 p.1 ∷ edges_of edge (suc p.0) row) c (⊎_elim (λ g. covered-later edge (edge p.0 p.0 p.1) (edges_of edge (suc p.0) row) c (edges_of-total edge (suc p.0) row h.2 c g.0 t)) (λ g. here m.0 g.0) (less_or_not p.0 c))) (less_or_not c p.0)
  where
    front : List TransEdge
    front = if nat_lt low p.0 then edge low (p.0 - 1) 0 ∷ [] else []

    below : (c < p.0) × (nat_lt c p.0 ≡ true) → IsCovered edge (edges_of edge low (p ∷ row)) c
    below k = let g = k.0 in record { lo = low; hi = p.0 - 1; j = 0; has = Contains-append_left front (edge p.0 p.0 p.1 ∷ edges_of edge (suc p.0) row) (edge low (p.0 - 1) 0) (one_if (nat_lt low p.0) (edge low (p.0 - 1) 0) (lt-ltb low p.0 (omega (arith, l, g)))); after = l; before = omega (arith, g) }

    here : p.0 ≤ c → c ≤ p.0 → IsCovered edge (edge p.0 p.0 p.1 ∷ edges_of edge (suc p.0) row) c
    here g m = record { lo = p.0; hi = p.0; j = p.1; has = Contains-here (edge p.0 p.0 p.1) (edges_of edge (suc p.0) row); after = g; before = m }

-- what is said of each edge of the states below `count`
abbrev IsHeld : List ℕ → List ℕ → ℕ → ℕ → TransEdge → Type 0
IsHeld pattern by after count e = (e.from < count) × (e.lo ≤ e.hi) × (e.hi ≤ greatest_character)
    × ((c : ℕ) → e.lo ≤ c → c ≤ e.hi → (j : ℕ) × IsNext (at pattern) e.from c j × (e ≡ edge_for pattern by after e.from e.lo e.hi j))

pub edges_more : (pattern by : List ℕ) (after n : ℕ) (row : List (ℕ × ℕ)) (edges new : List TransEdge) → IsMatchRow pattern n row → AreEdges pattern by after n edges
    → new ≡ edges ++ edges_of (edge_for pattern by after n) 0 row → AreEdges pattern by after (suc n) new
edges_more pattern by after n row edges new r h e = subst (AreEdges pattern by after (suc n)) (sym e) (record { edge = each; some = covers })
  where
    made : ℕ → ℕ → ℕ → TransEdge
    made = edge_for pattern by after n

    old : (e : TransEdge) → IsHeld pattern by after n e → IsHeld pattern by after (suc n) e
    old e k = ((let x = k.0 in omega (arith, x)), k.1, k.2, k.3)

    part : (e : TransEdge) → IsPart made 0 row e → IsHeld pattern by after (suc n) e
    part e k = subst (IsHeld pattern by after (suc n)) (sym k.is)
        (omega arith, k.order, k.top, λ c g l. (k.j, subst (IsNext (at pattern) n c) (k.leads c g l) (r.next c), refl))

    each : (e : TransEdge) → Contains (edges ++ edges_of made 0 row) e → IsHeld pattern by after (suc n) e
    each e c = ⊎_elim (λ d. old e (h.edge e d)) (λ d. part e (edges_of-sound made 0 row r.ascends e d)) (Contains-append_cases edges (edges_of made 0 row) e c)

    covers : (q c : ℕ) → q < suc n → c ≤ greatest_character → (e : TransEdge) × Contains (edges ++ edges_of made 0 row) e × (e.from ≡ q) × (e.lo ≤ c) × (c ≤ e.hi)
    covers q c l t = ⊎_elim
        (λ less. let k = h.some q c less t in (k.0, Contains-append_left edges (edges_of made 0 row) k.0 k.1, k.2, k.3, k.4))
        (λ same. let k = edges_of-total made 0 row r.ascends c (omega arith) t in
        (made k.lo k.hi k.j, Contains-append_right edges (edges_of made 0 row) (made k.lo k.hi k.j) k.has, sym same, k.after, k.before))
        (below-cases q n l)

pub ends_more : (pattern : List ℕ) (n : ℕ) (ends new : List (ℕ × List ℕ)) → AreEnds pattern n ends → new ≡ ends ++ (n, take n pattern) ∷ [] → AreEnds pattern (suc n) new
ends_more pattern n ends new h e = subst (AreEnds pattern (suc n)) (sym e) (record { ending = each; some = covers })
  where
    last : ℕ × List ℕ
    last = (n, take n pattern)

    each : (e : ℕ × List ℕ) → Contains (ends ++ last ∷ []) e → (e.0 < suc n) × (e.1 ≡ take e.0 pattern)
    each e c = ⊎_elim
        (λ d. let k = h.ending e d in ((let x = k.0 in omega (arith, x)), k.1))
        (λ d. ⊎_elim (λ s. (let x : n ≡ e.0 = ap (λ (p : ℕ × List ℕ). p.0) s in omega (arith, x), sym (ap (λ (p : ℕ × List ℕ). p.1) s) ∙ ap (λ k. take k pattern) (ap (λ (p : ℕ × List ℕ). p.0) s))) (λ z. let k = z.1 in absurd (omega (arith, k))) (Contains-cases last [] e d))
        (Contains-append_cases ends (last ∷ []) e c)

    covers : (q : ℕ) → q < suc n → Contains (ends ++ last ∷ []) (q, take q pattern)
    covers q l = ⊎_elim
        (λ less. Contains-append_left ends (last ∷ []) (q, take q pattern) (h.some q less))
        (λ same. subst (λ k. Contains (ends ++ last ∷ []) (k, take k pattern)) (sym same) (Contains-append_right ends (last ∷ []) last (Contains-here last [])))
        (below-cases q n l)
