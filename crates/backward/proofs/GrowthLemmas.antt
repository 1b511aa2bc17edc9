-- Why the costs fit 64 bits: what bounds them while definitions are carried back.
use Rattle.std.proofs.Common.{◌≡◌, ℕ, zero, suc, ◌+◌, ◌*◌, ◌/◌, ◌<◌, ◌≤◌, ◌^◌, ◌⊎◌, inl, inr, nat_eq, cond, true, false, Bool, List, [], ◌∷◌, length, slice_index, Option, Some, None, slice_get, refl, sym, ap, ◌∙◌, subst, arith, mul-add, mul_comm, mul_assoc, mul-le-mul, mul-le-mul_left, mul-le-mul_right, le-div_iff_mul-le, eq-zero-or-pos, zero-mul}
use Rattle.std.proofs.lemmas.Bool.{eq-eqb, ne_eqb}
use Rattle.std.proofs.lemmas.Bool.Decides.{eqb_tells}
use Rattle.machine_core.specs.declared.graph.Graph.{Graph}
use Rattle.machine_core.specs.Edges.{edges_top, ends_top}
use Rattle.machine_core.specs.EdgeLaws.{listed_top-within, run_width, path_width}
use Rattle.machine_core.specs.Graphs.{graph_top}
use Rattle.backward.specs.Families.{Family, HasMachine, without, IsWithout}
use Rattle.backward.specs.Pieces.{occurrences}
use Rattle.backward.specs.Meetings.{IsCostWithin}
use Rattle.backward.specs.Carried.{IsCarried, IsCarriedThrough}
use Rattle.backward.specs.Bounds.{IsGrownWithin, total_over, sum_of}
use Rattle.backward.proofs.ConfLemmas.{set-other}
use Rattle.backward.proofs.PlaceLemmas.{none-some, free-held}
use Rattle.backward.proofs.TotalLemmas.{total-le, total-fewer, total-add, total-scale, total-one, total-nothing, total-without, total-pieces}

-- a machine of what came of a family is that of a variable which had one before
pub shape-back : (ms ns : Family) (x : ℕ) (target : Graph) → HasMachine ms x target → IsWithout ms x ns → (v : ℕ) (n : Graph) → HasMachine ns v n
    → (v ≡ x → ⊥) × ((m : Graph) × HasMachine ms v m)
shape-back ms ns x target there shape v n h = by (slice_get ms v) refl
  where
    other : v ≡ x → ⊥
    other e = let is = subst (λ u. slice_get ns u ≡ Some None) (sym e) shape.carried in free-held n (sym is ∙ h)

    by : (o : Option (Option Graph)) → slice_get ms v ≡ o → (v ≡ x → ⊥) × ((m : Graph) × HasMachine ms v m)
    by None e = absurd (none-some (Some n) (sym (shape.past v e) ∙ h))
    by (Some None) e = absurd (free-held n (sym (shape.others v other e) ∙ h))
    by (Some (Some m)) e = (other, (m, e))

-- a piece grows no more than all of them
piece-within : (f : ℕ → ℕ) (pieces : List ℕ) (v : ℕ) → (occurrences v pieces ≡ 0) ⊎ (f v ≤ sum_of f pieces)
piece-within f [] v = inl refl
piece-within f (p ∷ ps) v = elim (eqb_tells p v) [
  | inl is ↦ let e = ap f is.1 in inr (omega arith)
  | inr off ↦ elim (piece-within f ps v) [
    | inl none ↦ inl (ap (λ b. cond b (suc (occurrences v ps)) (occurrences v ps)) off.0 ∙ none)
    | inr le ↦ inr (omega arith)
  ]
]

-- and there are no more of them than all of them grow
pieces-few : (f : ℕ → ℕ) → ((v : ℕ) → 1 ≤ f v) → (pieces : List ℕ) (v : ℕ) → occurrences v pieces ≤ sum_of f pieces
pieces-few f some [] v = omega arith
pieces-few f some (p ∷ ps) v = by (nat_eq p v) (pieces-few f some ps v) (some p)
  where
    by : (b : Bool) → occurrences v ps ≤ sum_of f ps → 1 ≤ f p → cond b (suc (occurrences v ps)) (occurrences v ps) ≤ f p + sum_of f ps
    by true h s = omega arith
    by false h s = omega arith

-- past the registers nothing costs anything
past-zero : (cost : List ℕ) (k : ℕ) → length cost ≤ k → slice_index cost k ≡ 0
past-zero [] k h = refl
past-zero (x ∷ cost) zero h = absurd (omega (arith, h))
past-zero (x ∷ cost) (suc k) h = past-zero cost k (omega (arith, h))

pub past-within : (m : Graph) (k : ℕ) → m.registers ≤ k → IsCostWithin m k 0 0
past-within m k h = record {
  runs = λ s word cost ok r. (let e = run_width m.states m.registers m.edges m.ends m.formed word s cost r in let z = past-zero cost k (omega (arith, e, h)) in omega arith);
  paths = λ t s word cost ok r. (let e = path_width m.states m.registers m.edges m.ends m.formed t word s cost r in let z = past-zero cost k (omega (arith, e, h)) in omega arith);
}

-- where nothing costs anything at the register, no way leads there
pub grown-free : (growth : ℕ → ℕ) (limit : ℕ) (ms : Family) (register : ℕ) → ((v : ℕ) (m : Graph) → HasMachine ms v m → IsCostWithin m register 0 0)
    → IsGrownWithin growth limit ms register
grown-free growth limit ms register free = record {
  ways = λ v. 0;
  slope = λ v. 0;
  base = λ v. 0;
  within = free;
  costs = λ v m h. omega arith;
  total = let none = total-nothing ms (λ v. 0 * growth v) (λ v. omega arith) in omega arith;
}

-- before a definition is carried, the register of a variable costs its length, and one way leads there: from itself
pub grown-first : (growth : ℕ → ℕ) (limit : ℕ) (ms : Family) (register z : ℕ)
    → ((v : ℕ) (m : Graph) → HasMachine ms v m → IsCostWithin m register (cond (nat_eq v z) 1 0) 0) → growth z ≤ limit → IsGrownWithin growth limit ms register
grown-first growth limit ms register z own le = record {
  ways = λ v. cond (nat_eq v z) 1 0;
  slope = λ v. cond (nat_eq v z) 1 0;
  base = λ v. 0;
  within = own;
  costs = λ v m h. each v;
  total =
      let one = total-one ms z (λ v. cond (nat_eq v z) 1 0 * growth v) (λ v ne. ap (λ b. cond b 1 0 * growth v) (ne_eqb v z ne) ∙ nothing (growth v)) in
      let here = ap (λ b. cond b 1 0 * growth z) (eq-eqb z z refl) in
      omega arith;
}
  where
    nothing : (n : ℕ) → 0 * n ≡ 0
    nothing n = omega arith

    each : (v : ℕ) → cond (nat_eq v z) 1 0 * growth v + 0 ≤ cond (nat_eq v z) 1 0 * limit
    each v = elim (eqb_tells v z) [
      | inl is ↦ rw is.0 (let e = ap growth is.1 in omega arith)
      | inr off ↦ rw off.0 (omega arith)
    ]

-- the bound of a variable that stands so often among the pieces
concat-costs : (s b w sx bx wx g gx occ limit : ℕ) → s * g + b ≤ w * limit → sx * gx + bx ≤ wx * limit → (occ ≡ 0) ⊎ (g ≤ gx)
    → (s + occ * sx) * g + (b + occ * bx) ≤ (w + occ * wx) * limit
concat-costs s b w sx bx wx g gx occ limit h k o = elim o [
  | inl none ↦ rw none (omega (arith, h))
  | inr le ↦
      let grown = mul-le-mul_left sx le in
      let each : sx * g + bx ≤ wx * limit = omega arith in
      let all = mul-le-mul_left occ each in
      let e1 = mul-add occ (sx * g) bx in
      let e2 = mul_assoc occ sx g in
      let e3 = mul_assoc occ wx limit in
      let e4 : (s + occ * sx) * g ≡ s * g + occ * sx * g = omega arith in
      let e5 : (w + occ * wx) * limit ≡ w * limit + occ * wx * limit = omega arith in
      omega arith
]

-- and of the variable that a transducer reads
through-costs : (s b w sx bx wx g gx m e limit : ℕ) → s * g + b ≤ w * limit → sx * gx + bx ≤ wx * limit → m * g + e ≤ gx
    → (s + sx * m) * g + (b + (sx * e + bx)) ≤ (w + wx) * limit
through-costs s b w sx bx wx g gx m e limit h k o =
    let grown = mul-le-mul_left sx o in
    let e1 = mul-add sx (m * g) e in
    let e2 = mul_assoc sx m g in
    let e3 : (s + sx * m) * g ≡ s * g + sx * m * g = omega arith in
    let e4 : (w + wx) * limit ≡ w * limit + wx * limit = omega arith in
    omega arith

module _ (growth : ℕ → ℕ) (limit : ℕ) (ms : Family) (register : ℕ) (h : IsGrownWithin growth limit ms register) (x : ℕ) (target : Graph) (there : HasMachine ms x target) (ns : Family) where
  -- what is left once the ways of x are passed on
  rest-total : (shape : IsWithout ms x ns) → h.ways x * growth x + total_over ns (λ v. h.ways v * growth v) ≤ limit
  rest-total shape =
      let split = total-without ms x target (λ v. h.ways v * growth v) there in
      let fewer = total-fewer ns (without ms x) (λ v. h.ways v * growth v) here in
      let most = h.total in
      omega arith
    where
      here : (v : ℕ) (n : Graph) → HasMachine ns v n → (m : Graph) × HasMachine (without ms x) v m
      here v n e =
          let b = shape-back ms ns x target there shape v n e in
          (b.1.0, set-other ms x v None b.0 ∙ b.1.1)

  -- carried into the pieces of a concatenation, which grow together as x does
  pub grown-concat : (width : ℕ) (starts pieces : List ℕ) → IsCarried width ms x target starts pieces ns → sum_of growth pieces ≡ growth x
      → IsGrownWithin growth limit ns register
  grown-concat width starts pieces c sum = record {
    ways = λ v. h.ways v + occurrences v pieces * h.ways x;
    slope = λ v. h.slope v + occurrences v pieces * h.slope x;
    base = λ v. h.base v + occurrences v pieces * h.base x;
    within = λ v n e.
        let b = shape-back ms ns x target there c.shape v n e in
        (c.grown v b.1.0 n b.1.1 e).within register (h.slope v) (h.base v) (h.slope x) (h.base x) (h.within v b.1.0 b.1.1) (h.within x target there);
    costs = λ v n e.
        let b = shape-back ms ns x target there c.shape v n e in
        concat-costs (h.slope v) (h.base v) (h.ways v) (h.slope x) (h.base x) (h.ways x) (growth v) (growth x) (occurrences v pieces) limit
        (h.costs v b.1.0 b.1.1) (h.costs x target there) (subst (λ n. (occurrences v pieces ≡ 0) ⊎ (growth v ≤ n)) sum (piece-within growth pieces v));
    total =
        let left = rest-total c.shape in
        let split = total-le ns (λ v. (h.ways v + occurrences v pieces * h.ways x) * growth v)
        (λ v. h.ways v * growth v + h.ways x * (occurrences v pieces * growth v)) (λ v. spread (h.ways v) (occurrences v pieces) (h.ways x) (growth v)) in
        let two = total-add ns (λ v. h.ways v * growth v) (λ v. h.ways x * (occurrences v pieces * growth v)) in
        let scaled = total-scale ns (h.ways x) (λ v. occurrences v pieces * growth v) in
        let most = mul-le-mul_left (h.ways x) (total-pieces ns pieces growth) in
        let same = ap (λ n. h.ways x * n) sum in
        omega arith;
  }
    where
      spread : (w occ wx g : ℕ) → (w + occ * wx) * g ≤ w * g + wx * (occ * g)
      spread w occ wx g =
          let e1 : (w + occ * wx) * g ≡ w * g + occ * wx * g = omega arith in
          let e2 = ap (λ n. n * g) (mul_comm occ wx) in
          let e3 = mul_assoc wx occ g in
          omega arith

  -- carried through a transducer to v, which doesn't grow more than x: what is written for a word that grows as v does grows no more than x
  pub grown-through : (Gives : List ℕ → List ℕ → Type 0) (states m e width : ℕ) (v : ℕ) → IsCarriedThrough Gives states m e width ms x target v ns
      → m * growth v + e ≤ growth x → growth v ≤ growth x → IsGrownWithin growth limit ns register
  grown-through Gives states m e width v c writes least = record {
    ways = λ u. h.ways u + at u (h.ways x);
    slope = λ u. h.slope u + at u (h.slope x * m);
    base = λ u. h.base u + at u (h.slope x * e + h.base x);
    within = λ u n i. let b = shape-back ms ns x target there c.shape u n i in within u b.1.0 n b.1.1 i;
    costs = λ u n i. let b = shape-back ms ns x target there c.shape u n i in costs u b.1.0 b.1.1;
    total =
        let left = rest-total c.shape in
        let split = total-le ns (λ u. (h.ways u + at u (h.ways x)) * growth u) (λ u. h.ways u * growth u + at u (h.ways x) * growth u) (λ u. (let s : (h.ways u + at u (h.ways x)) * growth u ≡ h.ways u * growth u + at u (h.ways x) * growth u = omega arith in omega arith)) in
        let two = total-add ns (λ u. h.ways u * growth u) (λ u. at u (h.ways x) * growth u) in
        let one = total-one ns v (λ u. at u (h.ways x) * growth u) (λ u ne. ap (λ b. cond b (h.ways x) 0 * growth u) (ne_eqb u v ne) ∙ zero-mul (growth u)) in
        let here = ap (λ b. cond b (h.ways x) 0 * growth v) (eq-eqb v v refl) in
        let most = mul-le-mul_left (h.ways x) least in
        omega arith;
  }
    where
      at : ℕ → ℕ → ℕ
      at u n = cond (nat_eq u v) n 0

      within : (u : ℕ) (k n : Graph) → HasMachine ms u k → HasMachine ns u n
          → IsCostWithin n register (h.slope u + cond (nat_eq u v) (h.slope x * m) 0) (h.base u + cond (nat_eq u v) (h.slope x * e + h.base x) 0)
      within u k n a b = elim (eqb_tells u v) [
        | inl is ↦
            rw is.0 (let a' = subst (λ w. HasMachine ms w k) is.1 a in let b' = subst (λ w. HasMachine ns w n) is.1 b in
            c.within k n a' b' register (h.slope u) (h.base u) (h.slope x) (h.base x) (h.within u k a) (h.within x target there))
        | inr off ↦
            rw off.0 (let same = c.same u k n off.1 a b in
            subst (λ i. IsCostWithin n register i (h.base u + 0)) (more (h.slope u)) (subst (λ i. IsCostWithin n register (h.slope u) i) (more (h.base u))
            (subst (λ g. IsCostWithin g register (h.slope u) (h.base u)) (sym same) (h.within u k a))))
      ]
        where
          more : (n : ℕ) → n ≡ n + 0
          more n = omega arith

      costs : (u : ℕ) (k : Graph) → HasMachine ms u k
          → (h.slope u + cond (nat_eq u v) (h.slope x * m) 0) * growth u + (h.base u + cond (nat_eq u v) (h.slope x * e + h.base x) 0) ≤ (h.ways u + cond (nat_eq u v) (h.ways x) 0) * limit
      costs u k a = elim (eqb_tells u v) [
        | inl is ↦
            rw is.0 (through-costs (h.slope u) (h.base u) (h.ways u) (h.slope x) (h.base x) (h.ways x) (growth u) (growth x) m e limit (h.costs u k a) (h.costs x target there)
            (subst (λ w. m * growth w + e ≤ growth x) (sym is.1) writes))
        | inr off ↦ rw off.0 (let c = h.costs u k a in let s : (h.slope u + 0) * growth u ≡ h.slope u * growth u = ap (λ n. n * growth u) (let z : h.slope u + 0 ≡ h.slope u = omega arith in z) in
            let t : (h.ways u + 0) * limit ≡ h.ways u * limit = ap (λ n. n * limit) (let z : h.ways u + 0 ≡ h.ways u = omega arith in z) in omega arith)
      ]

-- the costs of a machine, so often as its variable grows
module _ (growth : ℕ → ℕ) (limit : ℕ) (ms : Family) (h : (register : ℕ) → IsGrownWithin growth limit ms register) (some : (v : ℕ) → 1 ≤ growth v) where
  top-often : (v : ℕ) (m : Graph) → HasMachine ms v m → (times : ℕ) → 0 < times → times ≤ growth v → graph_top m * times ≤ limit * limit
  top-often v m there times pos le =
      let each : (k : ℕ) → (h k).slope v + (h k).base v ≤ limit * limit / times = λ k. (le-div_iff_mul-le pos).1 (one k) in
      (le-div_iff_mul-le pos).0 (listed_top-within m.states m.registers m.edges m.ends m.formed (λ k. (h k).slope v) (λ k. (h k).base v) (limit * limit / times)
      (λ k. ((h k).within v m there).paths) (λ k. ((h k).within v m there).runs) each)
    where
      one : (k : ℕ) → ((h k).slope v + (h k).base v) * times ≤ limit * limit
      one k =
          let ways = (h k).ways v in
          let slope = (h k).slope v in
          let base = (h k).base v in
          let costs = (h k).costs v m there in
          let split = total-without ms v m (λ u. (h k).ways u * growth u) there in
          let total = (h k).total in
          let mine : ways * growth v ≤ limit = omega arith in
          let one = mul-le-mul_left slope (some v) in
          let e : slope * 1 ≡ slope = omega arith in
          let sum : slope + base ≤ ways * limit = omega arith in
          let both = mul-le-mul sum le in
          let last = mul-le-mul_right limit mine in
          let e1 = mul_assoc ways limit (growth v) in
          let e2 = ap (λ n. ways * n) (mul_comm limit (growth v)) in
          let e3 = mul_assoc ways (growth v) limit in
          omega arith

  top-once : (v : ℕ) (m : Graph) → HasMachine ms v m → graph_top m ≤ limit * limit
  top-once v m there = let t = top-often v m there 1 (omega arith) (some v) in omega arith

  -- the sums stay below 2^64 where the growth is at most 4,194,304
  pub concat-fits : limit ≤ 4194304 → (x : ℕ) (target : Graph) → HasMachine ms x target → (pieces : List ℕ) → sum_of growth pieces ≡ growth x
      → (v : ℕ) (m : Graph) → HasMachine ms v m → graph_top m + occurrences v pieces * graph_top target < 2 ^ 64
  concat-fits small x target there pieces sum v m here =
      let own = top-once v m here in
      let few = pieces-few growth some pieces v in
      let times = occurrences v pieces in
      let square = mul-le-mul small small in
      elim (eq-zero-or-pos times) [
        | inl none ↦ rw none (omega arith)
        | inr pos ↦
            let often = top-often x target there times pos (omega arith) in
            let e = mul_comm (graph_top target) times in
            omega arith
      ]

  pub through-fits : limit ≤ 4194304 → (x : ℕ) (target : Graph) → HasMachine ms x target → (most : ℕ) → most ≤ growth x
      → (v : ℕ) (m : Graph) → HasMachine ms v m → graph_top m + (edges_top target.edges * most + ends_top target.ends) < 2 ^ 64
  through-fits small x target there most le v m here =
      let own = top-once v m here in
      let ends = top-once x target there in
      let often = top-often x target there (growth x) (let s = some x in omega arith) (let s = some x in omega arith) in
      let square = mul-le-mul small small in
      let edges : edges_top target.edges ≤ graph_top target = omega arith in
      let goes = mul-le-mul edges le in
      omega arith
