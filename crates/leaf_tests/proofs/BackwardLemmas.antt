-- What the tests' families have: three machines of which no edge or end costs more than 1.
use Rattle.std.proofs.Common.{◌≡◌, ℕ, zero, suc, ◌<◌, ◌≤◌, nat_eq, cond, Bool, true, false, [], ◌∷◌, Contains, Some, refl, sym, subst, arith, mul-le-mul}
use Rattle.machine_core.specs.declared.graph.Graph.{Graph}
use Rattle.machine_core.specs.Graphs.{graph_top}
use Rattle.backward.specs.Families.{Family, HasMachine}
use Rattle.backward.specs.Pieces.{occurrences}
use Rattle.backward.specs.Carried.{CanCut}

one-of : (c s : ℕ) → Contains (c ∷ []) s → s ≡ c
one-of c s (zero, lt, e) = sym e
one-of c s (suc i, lt, e) = absurd (omega arith)

-- a variable stands at most twice among two
twice-most : (v p q : ℕ) → occurrences v (p ∷ q ∷ []) ≤ 2
twice-most v p q = go (nat_eq p v) (nat_eq q v)
  where
    go : (a b : Bool) → cond a (suc (cond b 1 0)) (cond b 1 0) ≤ 2
    go true true = omega arith
    go true false = omega arith
    go false true = omega arith
    go false false = omega arith

tops-three : (m n k : Graph) → graph_top m ≤ 1 → graph_top n ≤ 1 → graph_top k ≤ 1 → (v : ℕ) (g : Graph) → HasMachine (Some m ∷ Some n ∷ Some k ∷ []) v g → graph_top g ≤ 1
tops-three m n k a b c zero g h = let e : m ≡ g = cc in subst (λ j. graph_top j ≤ 1) e a
tops-three m n k a b c (suc zero) g h = let e : n ≡ g = cc in subst (λ j. graph_top j ≤ 1) e b
tops-three m n k a b c (suc (suc zero)) g h = let e : k ≡ g = cc in subst (λ j. graph_top j ≤ 1) e c
tops-three m n k a b c (suc (suc (suc v))) g h = cc

-- the machine of x, the second one, can be cut at one state for two others
pub can-cut : (ms : Family) (m n k : Graph) (p q cut : ℕ) → ms ≡ Some m ∷ Some n ∷ Some k ∷ [] → graph_top m ≤ 1 → graph_top n ≤ 1 → graph_top k ≤ 1
    → (p ≡ 1 → ⊥) × ((g : Graph) × HasMachine ms p g) → (q ≡ 1 → ⊥) × ((g : Graph) × HasMachine ms q g) → cut < n.states → CanCut ms 1 n (p ∷ q ∷ []) (cut ∷ [])
can-cut ms m n k p q cut e a b c at_p at_q lt = record {
  machine = subst (λ l. HasMachine l 1 n) (sym e) refl;
  others = others;
  borders = record { count = refl; states = λ s h. subst (λ j. j < n.states) (sym (one-of cut s h)) lt };
  fits = λ v g h.
      let own = tops-three m n k a b c v g (subst (λ l. HasMachine l v g) e h) in
      let few = twice-most v p q in
      let all = mul-le-mul few b in
      omega arith;
}
  where
    others : (r : ℕ) → Contains (p ∷ q ∷ []) r → (r ≡ 1 → ⊥) × ((g : Graph) × HasMachine ms r g)
    others r (zero, lt, e) = subst (λ j. (j ≡ 1 → ⊥) × ((g : Graph) × HasMachine ms j g)) e at_p
    others r (suc zero, lt, e) = subst (λ j. (j ≡ 1 → ⊥) × ((g : Graph) × HasMachine ms j g)) e at_q
    others r (suc (suc i), lt, e) = absurd (omega arith)

pub free : (t : ℕ) → t ≡ 0 → t ≤ 1
free t e = omega arith

-- y, the first one
pub has-first : (ms : Family) (m n k : Graph) → ms ≡ Some m ∷ Some n ∷ Some k ∷ [] → (◌≡◌ {A = ℕ} 0 1 → ⊥) × ((g : Graph) × HasMachine ms 0 g)
has-first ms m n k e = ((λ i. omega (arith, i)), (m, subst (λ l. HasMachine l 0 m) (sym e) refl))

-- z, the third one
pub has-third : (ms : Family) (m n k : Graph) → ms ≡ Some m ∷ Some n ∷ Some k ∷ [] → (◌≡◌ {A = ℕ} 2 1 → ⊥) × ((g : Graph) × HasMachine ms 2 g)
has-third ms m n k e = ((λ i. omega (arith, i)), (k, subst (λ l. HasMachine l 2 k) (sym e) refl))
