-- Rows that are made one after another, and the terms in them.
use Rattle.std.proofs.Common.{◌≡◌, ℕ, zero, suc, ◌+◌, ◌^◌, ◌<◌, All, Contains, get_or, ℤ, pos, ◌+ℤ◌, List, [], ◌∷◌, ◌++◌, length, map, replicate, nat_eq, Bool, true, false, cond, refl, ap, sym, ◌∙◌, subst, append_assoc, arith}
use Rattle.std.specs.List.{range_with_len}
use Rattle.std.proofs.lemmas.Int.{ints}
use Rattle.std.proofs.lemmas.List.{length-map}
use Rattle.std.proofs.lemmas.List.Elements.{Contains-get_or}
use Rattle.sv_linear.specs.Terms.{coefficient, AscendsWithin}
use Rattle.sv_linear.specs.declared.form.Form.{Form}
use Rattle.sv_linear.specs.declared.row.Row.{Row}
use Rattle.machine_core.specs.declared.edge.Edge.{Edge}
use Rattle.machine_core.specs.declared.end.End.{End}
use Rattle.machine_core.specs.declared.graph.Graph.{Graph}
use Rattle.farkas_check.specs.Systems.{Constraint}
use Rattle.parikh_flow.specs.Counts.{size_of}
use Rattle.parikh_flow.specs.Rows.{terms_by, machine_terms, edge_cost, end_cost, IsSameRow, AreSameRows}
use Rattle.parikh_flow.specs.Building.{numbered, AreTermsAdded}
use Rattle.parikh_flow.proofs.FormLemmas.{added-join, numbered-map, numbered-ones}

pub same-append : (xs ys : List Row) (cs ds : List Constraint) → AreSameRows xs cs → AreSameRows ys ds → AreSameRows (xs ++ ys) (cs ++ ds)
same-append [] ys [] ds h g = g
same-append [] ys (c ∷ cs) ds h g = absurd h
same-append (x ∷ xs) ys [] ds h g = absurd h
same-append (x ∷ xs) ys (c ∷ cs) ds h g = (h.0, same-append xs ys cs ds h.1 g)

range-push : (a n : ℕ) → range_with_len a (suc n) ≡ range_with_len a n ++ (a + n) ∷ []
range-push a zero = ap (λ k. k ∷ []) (let z : a ≡ a + 0 = omega arith in z)
range-push a (suc n) = ap (λ l. a ∷ l) (range-push (a + 1) n ∙ ap (λ k. range_with_len (a + 1) n ++ k ∷ []) (let z : a + 1 + n ≡ a + suc n = omega arith in z))

map-push : (f : ℕ → Constraint) (xs : List ℕ) (x : ℕ) → map f (xs ++ x ∷ []) ≡ map f xs ++ f x ∷ []
map-push f [] x = refl
map-push f (y ∷ ys) x = ap (λ l. f y ∷ l) (map-push f ys x)

-- the row of one number more
pub rows-next : (f : ℕ → Constraint) (a n k : ℕ) (rows new : List Row) (r : Row) → k ≡ a + n → AreSameRows rows (map f (range_with_len a n)) → IsSameRow r (f k) → new ≡ rows ++ r ∷ [] → AreSameRows new (map f (range_with_len a (n + 1)))
rows-next f a n k rows new r e h g push =
    let all : map f (range_with_len a n) ++ f k ∷ [] ≡ map f (range_with_len a (n + 1)) =
    ap (λ i. map f (range_with_len a n) ++ f i ∷ []) e ∙ sym (ap (map f) (ap (range_with_len a) (let z : n + 1 ≡ suc n = omega arith in z) ∙ range-push a n) ∙ map-push f (range_with_len a n) (a + n)) in
    subst (AreSameRows new) all (subst (λ l. AreSameRows l (map f (range_with_len a n) ++ f k ∷ [])) (sym push) (same-append rows (r ∷ []) (map f (range_with_len a n)) (f k ∷ []) h (g, tt)))

-- what a machine adds
pub costs-added : (m : Graph) (k base mid : ℕ) (edges : List Edge) (ends : List End) (of_edges of_ends : List ℤ) (f g h : Form) → edges ≡ m.edges → ends ≡ m.ends → of_edges ≡ map (edge_cost k) edges → of_ends ≡ map (end_cost k) ends
    → mid ≡ base + length m.edges → AreTermsAdded (numbered base of_edges) f g → AreTermsAdded (numbered mid of_ends) g h → AreTermsAdded (machine_terms (edge_cost k) (end_cost k) base m) f h
costs-added m k base mid edges ends of_edges of_ends f g h ee en oe on em a b =
    let first : numbered base of_edges ≡ terms_by (edge_cost k) base m.edges = ap (numbered base) (oe ∙ ap (map (edge_cost k)) ee) ∙ numbered-map (edge_cost k) base m.edges in
    let second : numbered mid of_ends ≡ terms_by (end_cost k) (base + length m.edges) m.ends = ap (λ n. numbered n of_ends) em ∙ ap (numbered (base + length m.edges)) (on ∙ ap (map (end_cost k)) en) ∙ numbered-map (end_cost k) (base + length m.edges) m.ends in
    added-join (terms_by (edge_cost k) base m.edges) (terms_by (end_cost k) (base + length m.edges) m.ends) f g h (subst (λ l. AreTermsAdded l f g) first a) (subst (λ l. AreTermsAdded l g h) second b)

zero-terms : {X : Type 0} (base : ℕ) (xs : List X) (u : ℕ) → coefficient u (terms_by (λ _. pos 0) base xs) ≡ pos 0
zero-terms base [] u = refl
zero-terms base (x ∷ xs) u = by_test (nat_eq base u) (zero-terms (suc base) xs u)
  where
    by_test : (b : Bool) → coefficient u (terms_by (λ _. pos 0) (suc base) xs) ≡ pos 0 → cond b (pos 0) (pos 0) +ℤ coefficient u (terms_by (λ _. pos 0) (suc base) xs) ≡ pos 0
    by_test true e = omega (arith, ints)
    by_test false e = omega (arith, ints)

pub lengths-added : (m : Graph) (base : ℕ) (edges : List Edge) (each : List ℤ) (f g : Form) → edges ≡ m.edges → each ≡ replicate (length edges) (pos 1) → AreTermsAdded (numbered base each) f g
    → AreTermsAdded (machine_terms (λ _. pos 1) (λ _. pos 0) base m) f g
lengths-added m base edges each f g ee oe a =
    let first : numbered base each ≡ terms_by (λ _. pos 1) base m.edges = ap (numbered base) (oe ∙ ap (λ (l : List Edge). replicate (length l) (pos 1)) ee) ∙ numbered-ones base m.edges in
    added-join (terms_by (λ _. pos 1) base m.edges) (terms_by (λ _. pos 0) (base + length m.edges) m.ends) f g g (subst (λ l. AreTermsAdded l f g) first a)
    (record { terms = λ u. (let z = zero-terms (base + length m.edges) m.ends u in omega (arith, ints)); constant = refl })

pub length-ones : (each : List ℤ) (n : ℕ) → each ≡ replicate n (pos 1) → length each ≡ n
length-ones each n e = ap length e ∙ sizes n
  where
    sizes : (n : ℕ) → length (replicate n (pos 1)) ≡ n
    sizes zero = refl
    sizes (suc n) = ap suc (sizes n)

room-before : (base n edges ends : ℕ) → n ≡ edges → base + (edges + ends) < 2 ^ 32 → base + n < 2 ^ 32
room-before base n edges ends e room = omega arith

size-behind : (base mid n edges ends : ℕ) → mid ≡ base + edges → n ≡ ends → mid + n ≡ base + (edges + ends)
size-behind base mid n edges ends em e = omega arith

-- the unknowns of a machine with what they cost at a register: those of its edges, and then those of its ends
module _ (m : Graph) (register base : ℕ) where
  module _ (edges : List Edge) (ee : edges ≡ m.edges) where
    pub edges-wide : register < m.registers → All (λ e. register < length e.cost) edges
    edges-wide lt = λ k d below.
        subst (λ n. register < n) (sym (m.formed.edge (get_or edges k d) (subst (λ l. Contains l (get_or edges k d)) ee (Contains-get_or edges k d below))).cost) lt

    module _ (costs : List ℤ) (ec : costs ≡ map (edge_cost register) edges) where
      edges-size : length costs ≡ length m.edges
      edges-size = ap length ec ∙ length-map edges (edge_cost register) ∙ ap length ee

      pub edges-room : base + size_of m < 2 ^ 32 → base + length costs < 2 ^ 32
      edges-room room = room-before base (length costs) (length m.edges) (length m.ends) edges-size room

      pub edges-ascend : (mid : ℕ) (f : Form) → mid ≡ base + length m.edges → AscendsWithin 0 (base + length costs) f.coefficients → AscendsWithin 0 mid f.coefficients
      edges-ascend mid f em h = subst (λ n. AscendsWithin 0 n f.coefficients) (ap (λ n. base + n) edges-size ∙ sym em) h

  module _ (ends : List End) (ee : ends ≡ m.ends) where
    pub ends-wide : register < m.registers → All (λ e. register < length e.cost) ends
    ends-wide lt = λ k d below.
        subst (λ n. register < n) (sym (m.formed.ending (get_or ends k d) (subst (λ l. Contains l (get_or ends k d)) ee (Contains-get_or ends k d below))).cost) lt

    module _ (costs : List ℤ) (ec : costs ≡ map (end_cost register) ends) (mid : ℕ) (em : mid ≡ base + length m.edges) where
      ends-size : mid + length costs ≡ base + size_of m
      ends-size = size-behind base mid (length costs) (length m.edges) (length m.ends) em (ap length ec ∙ length-map ends (end_cost register) ∙ ap length ee)

      pub ends-room : base + size_of m < 2 ^ 32 → mid + length costs < 2 ^ 32
      ends-room room = subst (λ n. n < 2 ^ 32) (sym ends-size) room

      pub ends-ascend : (f : Form) → AscendsWithin 0 (mid + length costs) f.coefficients → AscendsWithin 0 (base + size_of m) f.coefficients
      ends-ascend f h = subst (λ n. AscendsWithin 0 n f.coefficients) ends-size h

-- the end row
pub ends-added : (m : Graph) (base mid : ℕ) (ends : List End) (each : List ℤ) (f g : Form) → ends ≡ m.ends → each ≡ replicate (length ends) (pos 1) → mid ≡ base + length m.edges → f.coefficients ≡ [] → AreTermsAdded (numbered mid each) f g
    → (u : ℕ) → coefficient u g.coefficients ≡ coefficient u (terms_by (λ _. pos 1) (base + length m.edges) m.ends)
ends-added m base mid ends each f g ee oe em none a u =
    let all : numbered mid each ≡ terms_by (λ _. pos 1) (base + length m.edges) m.ends = ap (λ n. numbered n each) em ∙ ap (numbered (base + length m.edges)) (oe ∙ ap (λ (l : List End). replicate (length l) (pos 1)) ee) ∙ numbered-ones (base + length m.edges) m.ends in
    let h = a.terms u in
    let z = ap (coefficient u) none in
    let t = ap (coefficient u) all in
    omega (arith, ints, h, z, t)

pub four-rows : (rows all : List Row) (a b c d : List Row) (one two three four : List Constraint) → all ≡ (((rows ++ a) ++ b) ++ c) ++ d → AreSameRows a one → AreSameRows b two → AreSameRows c three → AreSameRows d four
    → (more : List Row) × (all ≡ rows ++ more) × AreSameRows more (one ++ two ++ three ++ four)
four-rows rows all a b c d one two three four e p q r s = (
  a ++ b ++ c ++ d,
  e ∙ ap (λ l. (l ++ c) ++ d) (append_assoc rows a b) ∙ ap (λ l. l ++ d) (append_assoc rows (a ++ b) c) ∙ append_assoc rows (a ++ b ++ c) d,
  same-append (a ++ b ++ c) d (one ++ two ++ three) four (same-append (a ++ b) c (one ++ two) three (same-append a b one two p q) r) s,
)
