-- What holds of a family while the definitions of a flat cube are carried: at first, and from step to step.
use Rattle.std.proofs.Common.{◌≡◌, ℕ, zero, suc, ◌+◌, ◌*◌, ◌^◌, ◌<◌, ◌≤◌, ◌||◌, ◌↔◌, nat_eq, cond, true, false, List, [], ◌∷◌, length, map, drop, Contains, Option, Some, None, slice_get, refl, sym, ap, ◌∙◌, subst, arith, inl, inr, one-mul, mul-le-mul_left, mul-le-mul_right, mul_assoc, mul_comm}
use Rattle.std.specs.List.{AllByRecursion, count_by}
use Rattle.std.proofs.lemmas.Bool.{ne_eqb, false≢true, or_parts, or_right}
use Rattle.std.proofs.lemmas.Bool.Decides.{eqb_tells}
use Rattle.std.proofs.lemmas.List.{length-map, drop_all}
use Rattle.std.proofs.Math.Nat.{pow-le-pow_left, pow-zero}
use Rattle.std.proofs.lemmas.List.Sums.{sum_by-cons}
use Rattle.std.proofs.lemmas.Option.{slice_get_within}
use Rattle.machine_core.specs.declared.graph.Graph.{Graph}
use Rattle.sv_list.specs.Lists.{slice_get-contains, drop-found, slice_get-some, slice_get-mapped}
use Rattle.sv_terms.specs.Transduction.{Pairs}
use Rattle.sv_terms.specs.declared.transducer.Transducer.{Transducer}
use Rattle.flat_cubes.specs.Using.{is_defined, used}
use Rattle.cube_bounds.specs.Bounds.{own_bound, product_by, states_at, through_states}
use Rattle.cube_bounds.specs.Growth.{growth, growth_at, growth_by, growth_of}
use Rattle.cube_bounds.specs.NumberLaws.{factor, GrowsAlong, slope_of, base_of, GrowthGoesAlong, GrowthIsBounded, GrowthIsSolved, StatesAreSolved}
use Rattle.flat_cubes.specs.Straight.{HasFormed, IsFormedBy, IsStraight, StandsBefore}
use Rattle.flat_cubes.specs.declared.definition.By.{By}
use Rattle.flat_cubes.specs.declared.definition.By.TheVariants as by
use Rattle.flat_cubes.specs.declared.definition.Definition.{Definition}
use Rattle.flat_cubes.specs.declared.flat.Flat.{Flat}
use Rattle.flat_cubes.specs.declared.variable.Variable.{Variable}
use Rattle.backward.specs.Families.{Words, HasMachine, Conf, IsWithout}
use Rattle.backward.specs.Pieces.{AreCuts, ConfCut, occurrences}
use Rattle.backward.specs.Bounds.{IsGrownWithin, sum_of}
use Rattle.backward.specs.Carried.{IsCarried, IsCarriedThrough}
use Rattle.backward.specs.Definitions.{definition, reads}
use Rattle.backward.specs.Chains.{width, ConfBefore, IsLedFrom, begun, cut, through}
use Rattle.backward.specs.States.{AreOwnMachines, IsState, IsLittle, is_carried, states_so_far}
use Rattle.backward.specs.Steps.{CanCutAt, CanPassAt}
use Rattle.backward.specs.declared.leaf_state.LeafState.{LeafState}
use Rattle.backward.proofs.CarryLemmas.{first-power}
use Rattle.backward.proofs.GrowthLemmas.{shape-back, past-within, grown-free, grown-first, grown-concat, grown-through, concat-fits, through-fits}
use Rattle.backward.proofs.OrderLemmas.{stands-at, each-at, not-of, factors-behind, occurrences-count, sum-same}
use Rattle.backward.proofs.PlaceLemmas.{none-some, free-held, held-once}

some-back : (ms : List Graph) (v : ℕ) (m : Graph) → HasMachine (map Some ms) v m → slice_get ms v ≡ Some m
some-back [] v m e = absurd (none-some (Some m) e)
some-back (k ∷ ms) zero m e = ap Some (held-once k m e)
some-back (k ∷ ms) (suc v) m e = some-back ms v m e

some-none : (ms : List Graph) (v : ℕ) → slice_get (map Some ms) v ≡ Some None → ⊥
some-none [] v e = none-some None e
some-none (k ∷ ms) zero e = free-held k (sym e)
some-none (k ∷ ms) (suc v) e = some-none ms v e

-- as many places, where just the same ones are past the end
same-size : {X Y : Type 0} (xs : List X) (ys : List Y) → ((i : ℕ) → slice_get xs i ≡ None → slice_get ys i ≡ None) → ((i : ℕ) → slice_get ys i ≡ None → slice_get xs i ≡ None) → length ys ≡ length xs
same-size [] [] f g = refl
same-size [] (y ∷ ys) f g = absurd (none-some y (sym (f 0 refl)))
same-size (x ∷ xs) [] f g = absurd (none-some x (sym (g 0 refl)))
same-size (x ∷ xs) (y ∷ ys) f g = ap suc (same-size xs ys (λ i. f (suc i)) (λ i. g (suc i)))

-- the first family
pub first-state : GrowthIsBounded → (flat : Flat) → IsStraight flat → (machines : List Graph) → AreOwnMachines flat machines → (s : LeafState) → s.registers ≡ width flat → s.machines ≡ map Some machines
    → IsState flat (length flat.definitions) s
first-state bounds flat straight machines own s registers is = record {
  registers = registers;
  size = ap length is ∙ length-map machines Some ∙ own.count;
  led = subst (λ ms. IsLedFrom flat (length flat.definitions) ms) (sym is) (begun (record {
    size = length-map machines Some ∙ own.count;
    each = λ v variable e.
        let lt = slice_get_within flat.variables v variable e in
        let count = own.count in
        let there = slice_get-some machines v (omega arith) in
        (there.0, slice_get-mapped Some machines v there.0 there.1, (own.each v variable there.0 e there.1).reads);
  }));
  carried = λ v e. absurd (some-none machines v (subst (λ ms. slice_get ms v ≡ Some None) is e));
  standing = λ v m e. ap (λ ds. is_defined ds v) none;
  bounded = λ v variable m e h.
      let few = (own.each v variable m e (at v m h)).few in
      let one : product_by (factor flat v) (drop (length flat.definitions) flat.definitions) ≡ 1 = ap (product_by (factor flat v)) none in
      let all = ap (λ n. own_bound variable * n) one in
      omega arith;
  costs = λ register. costs register (slice_get flat.registers register) refl;
}
  where
    none : drop (length flat.definitions) flat.definitions ≡ []
    none = drop_all (length flat.definitions) flat.definitions (omega arith)

    at : (v : ℕ) (m : Graph) → HasMachine s.machines v m → slice_get machines v ≡ Some m
    at v m h = some-back machines v m (subst (λ ms. HasMachine ms v m) is h)

    variable-of : (v : ℕ) (m : Graph) → HasMachine s.machines v m → (variable : Variable) × (slice_get flat.variables v ≡ Some variable)
    variable-of v m h =
        let lt = slice_get_within machines v m (at v m h) in
        let count = own.count in
        slice_get-some flat.variables v (omega arith)

    costs : (register : ℕ) (o : Option ℕ) → slice_get flat.registers register ≡ o → IsGrownWithin (growth_at flat) (growth flat) s.machines register
    costs register None e =
        let past : length flat.registers ≤ register = after flat.registers register e in
        grown-free (growth_at flat) (growth flat) s.machines register (λ v m h. past-within m register (subst (λ n. n ≤ register) (sym (s.wide v m h ∙ registers)) past))
      where
        after : (xs : List ℕ) (i : ℕ) → slice_get xs i ≡ None → length xs ≤ i
        after [] i h = omega arith
        after (x ∷ xs) zero h = cc
        after (x ∷ xs) (suc i) h = let r = after xs i h in omega arith
    costs register (Some z) e = grown-first (growth_at flat) (growth flat) s.machines register z
        (λ v m h. let x = variable-of v m h in (own.each v x.0 m x.1 (at v m h)).within register z e) (bounds flat straight z).1

-- what reads a variable through a transducer uses it alone
used-read : (b : By) (v : ℕ) → reads b ≡ Some v → used b ≡ v ∷ []
used-read (by.Concat vs) v e = cc
used-read (by.First p u w) v e = let same : w ≡ v = cc in ap (λ z. z ∷ []) same
used-read (by.All p u w) v e = let same : w ≡ v = cc in ap (λ z. z ∷ []) same
used-read (by.Through q w) v e = let same : w ≡ v = cc in ap (λ z. z ∷ []) same

-- one definition of a family that a text leads to
module _ (flat : Flat) (straight : IsStraight flat) (left : ℕ) (s : LeafState) (state : IsState flat (suc left) s) (d : Definition) (defined : slice_get flat.definitions left ≡ Some d) where
  abbrev behind : List Definition
  behind = drop (suc left) flat.definitions

  stands : StandsBefore (length flat.variables) d behind
  stands = stands-at (length flat.variables) flat.definitions left d straight.order defined

  front : drop left flat.definitions ≡ d ∷ behind
  front = drop-found flat.definitions left d defined

  -- the machine of a variable that isn't carried
  machine-of : (v : ℕ) → v < length flat.variables → is_carried flat (suc left) v ≡ false → (m : Graph) × HasMachine s.machines v m
  machine-of v below free = go (slice_get s.machines v) refl
    where
      go : (o : Option (Option Graph)) → slice_get s.machines v ≡ o → (m : Graph) × HasMachine s.machines v m
      go None e =
          let size = state.size in
          let there = slice_get-some s.machines v (omega arith) in
          absurd (none-some there.0 (sym e ∙ there.1))
      go (Some None) e = absurd (false≢true (sym free ∙ state.carried v e))
      go (Some (Some m)) e = (m, e)

  -- a variable that the definition uses is another one, and has a machine
  pub used-has : (v : ℕ) → Contains (used d.by) v → (v ≡ d.variable → ⊥) × ((m : Graph) × HasMachine s.machines v m)
  used-has v c =
      let apart = each-at (λ u. is_defined (d ∷ behind) u ≡ false) (used d.by) stands.apart v c in
      let below = each-at (λ u. u < length flat.variables) (used d.by) stands.uses v c in
      (not-of d behind v apart, machine-of v below (or_parts (nat_eq d.variable v) (is_defined behind v) apart).1)

  pub target-has : (m : Graph) × HasMachine s.machines d.variable m
  target-has = machine-of d.variable stands.defined stands.once

  -- it has at most states(x) states
  pub target-few : StatesAreSolved → (m : Graph) → HasMachine s.machines d.variable m → m.states ≤ states_at flat d.variable
  target-few solved m there =
      let x = slice_get-some flat.variables d.variable stands.defined in
      let few = state.bounded d.variable x.0 m x.1 there in
      let all = solved flat straight d.variable x.0 x.1 in
      let same = ap (λ n. own_bound x.0 * n) (factors-behind flat (length flat.variables) flat.definitions left d straight.order defined) in
      omega arith

  -- what a step leaves of the family, where it keeps its shape
  module _ (target : Graph) (there : HasMachine s.machines d.variable target) (new : LeafState) (registers : new.registers ≡ s.registers) (shape : IsWithout s.machines d.variable new.machines) where
    back : (v : ℕ) (n : Graph) → HasMachine new.machines v n → (v ≡ d.variable → ⊥) × ((m : Graph) × HasMachine s.machines v m)
    back v n e = shape-back s.machines new.machines d.variable target there shape v n e

    new-past : (v : ℕ) → slice_get new.machines v ≡ None → slice_get s.machines v ≡ None
    new-past v e = go (slice_get s.machines v) refl
      where
        other : v ≡ d.variable → ⊥
        other is = none-some None (sym e ∙ ap (slice_get new.machines) is ∙ shape.carried)

        go : (o : Option (Option Graph)) → slice_get s.machines v ≡ o → slice_get s.machines v ≡ None
        go None h = h
        go (Some None) h = absurd (none-some None (sym e ∙ shape.others v other h))
        go (Some (Some m)) h = let kept = shape.kept v m other h in absurd (none-some (Some kept.0) (sym e ∙ kept.1))

    new-carried : (v : ℕ) → slice_get new.machines v ≡ Some None → is_carried flat left v ≡ true
    new-carried v e = ap (λ ds. is_defined ds v) front ∙ elim (eqb_tells d.variable v) [
      | inl is ↦ ap (λ b. b || is_defined behind v) is.0
      | inr off ↦ or_right (nat_eq d.variable v) (is_defined behind v) (go (λ is. off.1 (sym is)) (slice_get s.machines v) refl)
    ]
      where
        go : (v ≡ d.variable → ⊥) → (o : Option (Option Graph)) → slice_get s.machines v ≡ o → is_carried flat (suc left) v ≡ true
        go ne None h = absurd (none-some None (sym (shape.past v h) ∙ e))
        go ne (Some None) h = state.carried v h
        go ne (Some (Some m)) h = let kept = shape.kept v m ne h in absurd (free-held kept.0 (sym e ∙ kept.1))

    new-standing : (v : ℕ) (n : Graph) → HasMachine new.machines v n → is_carried flat left v ≡ false
    new-standing v n e =
        let b = back v n e in
        let off = ne_eqb d.variable v (λ is. b.0 (sym is)) in
        let rest = state.standing v b.1.0 b.1.1 in
        ap (λ ds. is_defined ds v) front ∙ ap (λ c. c || is_defined behind v) off ∙ rest

    new-size : length new.machines ≡ length flat.variables
    new-size = same-size s.machines new.machines shape.past new-past ∙ state.size

    -- the states of what is left, where each machine grew by a number that the definition's factor bounds
    new-bounded : ((v : ℕ) (m n : Graph) → HasMachine s.machines v m → HasMachine new.machines v n → n.states ≤ m.states * factor flat v d)
        → (v : ℕ) (variable : Variable) (n : Graph) → slice_get flat.variables v ≡ Some variable → HasMachine new.machines v n → n.states ≤ states_so_far flat left v variable
    new-bounded grown v variable n at e =
        let b = back v n e in
        let more = grown v b.1.0 n b.1.1 e in
        let few = state.bounded v variable b.1.0 at b.1.1 in
        let times = mul-le-mul_right (factor flat v d) few in
        let rest = product_by (factor flat v) behind in
        let all : own_bound variable * rest * factor flat v d ≡ own_bound variable * (factor flat v d * rest) = mul_assoc (own_bound variable) rest (factor flat v d) ∙ ap (λ k. own_bound variable * k) (mul_comm rest (factor flat v d)) in
        let whole = ap (λ ds. own_bound variable * product_by (factor flat v) ds) front in
        omega arith

  -- a concatenation
  module _ (solved : StatesAreSolved) (grows : GrowthIsSolved) (pieces cuts : List ℕ) (is : d.by ≡ by.Concat pieces) (target : Graph) (there : HasMachine s.machines d.variable target)
      (new : LeafState) (registers : new.registers ≡ s.registers) (c : IsCarried s.registers s.machines d.variable target (0 ∷ cuts) pieces new.machines)
      (conf : (words : Words) (totals : List ℕ) → Conf new.registers new.machines words totals ↔ ConfCut s.registers s.machines d.variable pieces cuts words totals) where
    concat-grown : (v : ℕ) (m n : Graph) → HasMachine s.machines v m → HasMachine new.machines v n → n.states ≤ m.states * factor flat v d
    concat-grown v m n e f =
        let grown = (c.grown v m n e f).states in
        let times = occurrences v pieces in
        let one : through_states d.by * states_at flat d.variable ≡ states_at flat d.variable = ap (λ (b : By). through_states b * states_at flat d.variable) is ∙ one-mul (states_at flat d.variable) in
        let power : (states_at flat d.variable) ^ times ≡ factor flat v d =
        ap (λ k. k ^ times) (sym one) ∙ ap (λ k. (through_states d.by * states_at flat d.variable) ^ k) (occurrences-count v pieces)
        ∙ ap (λ (b : By). (through_states d.by * states_at flat d.variable) ^ count_by (nat_eq v) (used b)) (sym is) in
        let few = mul-le-mul_left m.states (pow-le-pow_left (target-few solved target there) times) in
        let last = ap (λ k. m.states * k) power in
        omega arith

    concat-sum : sum_of (growth_at flat) pieces ≡ growth_at flat d.variable
    concat-sum =
        let own = (grows flat straight).defined d (slice_get-contains flat.definitions left d defined) in
        sum-same (growth_at flat) pieces ∙ sym (ap (growth_by (growth_of flat)) is) ∙ sym own

    pub concat-state : IsState flat left new
    concat-state = record {
      registers = registers ∙ state.registers;
      size = new-size target there new registers c.shape;
      led = cut d.variable pieces cuts target state.led (defined ∙ ap (λ (b : By). Some (definition d.variable b)) is) there (target-few solved target there)
          (subst (λ w. (words : Words) (totals : List ℕ) → Conf w new.machines words totals ↔ ConfCut w s.machines d.variable pieces cuts words totals) state.registers
          (subst (λ w. (words : Words) (totals : List ℕ) → Conf w new.machines words totals ↔ ConfCut s.registers s.machines d.variable pieces cuts words totals) registers conf));
      carried = new-carried target there new registers c.shape;
      standing = new-standing target there new registers c.shape;
      bounded = new-bounded target there new registers c.shape concat-grown;
      costs = λ register. grown-concat (growth_at flat) (growth flat) s.machines register (state.costs register) d.variable target there new.machines s.registers (0 ∷ cuts) pieces c concat-sum;
    }

  -- a definition through a transducer
  module _ (solved : StatesAreSolved) (along : GrowthGoesAlong) (v : ℕ) (reading : reads d.by ≡ Some v) (target : Graph) (there : HasMachine s.machines d.variable target)
      (new : LeafState) (registers : new.registers ≡ s.registers) (t : Transducer) (few : t.states ≡ through_states d.by)
      (c : IsCarriedThrough (Pairs t) t.states (slope_of d.by) (base_of d.by) s.registers s.machines d.variable target v new.machines)
      (conf : (words : Words) (totals : List ℕ) → Conf new.registers new.machines words totals ↔ ConfBefore s.registers s.machines d.variable d.by words totals) where
    used-is : used d.by ≡ v ∷ []
    used-is = used-read d.by v reading

    factor-is : (u : ℕ) → factor flat u d ≡ (through_states d.by * states_at flat d.variable) ^ count_by (nat_eq u) (v ∷ [])
    factor-is u = ap (λ vs. (through_states d.by * states_at flat d.variable) ^ count_by (nat_eq u) vs) used-is

    through-grown : (u : ℕ) (m n : Graph) → HasMachine s.machines u m → HasMachine new.machines u n → n.states ≤ m.states * factor flat u d
    through-grown u m n e f = elim (eqb_tells u v) [
      | inl same ↦
          let bound = c.bounded m n (subst (λ w. HasMachine s.machines w m) same.1 e) (subst (λ w. HasMachine new.machines w n) same.1 f) in
          let one : factor flat u d ≡ through_states d.by * states_at flat d.variable =
          factor-is u ∙ ap (λ k. (through_states d.by * states_at flat d.variable) ^ k) (sum_by-cons (λ x. cond (nat_eq u x) 1 0) v [] ∙ ap (λ b. cond b 1 0 + 0) same.0) ∙ first-power (through_states d.by * states_at flat d.variable) in
          let less = mul-le-mul_left m.states (mul-le-mul_left (through_states d.by) (target-few solved target there)) in
          let there' = ap (λ k. m.states * (k * target.states)) few in
          let last = ap (λ k. m.states * k) one in
          omega arith
      | inr off ↦
          let same = ap (λ (g : Graph). g.states) (c.same u m n off.1 e f) in
          let one : factor flat u d ≡ 1 =
          factor-is u ∙ ap (λ k. (through_states d.by * states_at flat d.variable) ^ k) (sum_by-cons (λ x. cond (nat_eq u x) 1 0) v [] ∙ ap (λ b. cond b 1 0 + 0) off.0) ∙ pow-zero (through_states d.by * states_at flat d.variable) in
          let last = ap (λ k. m.states * k) one in
          omega arith
    ]

    grows-along : GrowsAlong flat d v
    grows-along = along flat straight d (slice_get-contains flat.definitions left d defined) v (subst (λ vs. Contains vs v) (sym used-is) (zero, omega arith, refl))

    pub through-state : IsState flat left new
    through-state = record {
      registers = registers ∙ state.registers;
      size = new-size target there new registers c.shape;
      led = through d.variable v d.by target state.led defined reading there (target-few solved target there)
          (subst (λ w. (words : Words) (totals : List ℕ) → Conf w new.machines words totals ↔ ConfBefore w s.machines d.variable d.by words totals) state.registers
          (subst (λ w. (words : Words) (totals : List ℕ) → Conf w new.machines words totals ↔ ConfBefore s.registers s.machines d.variable d.by words totals) registers conf));
      carried = new-carried target there new registers c.shape;
      standing = new-standing target there new registers c.shape;
      bounded = new-bounded target there new registers c.shape through-grown;
      costs = λ register. grown-through (growth_at flat) (growth flat) s.machines register (state.costs register) d.variable target there new.machines (Pairs t) t.states (slope_of d.by) (base_of d.by) s.registers v c
          grows-along.written grows-along.kept;
    }

  -- the costs fit, where there are no registers or words don't grow past the longest one of a model
  bounded-costs : IsLittle flat → (limit : ℕ) × (limit ≤ 4194304) × ((register : ℕ) → IsGrownWithin (growth_at flat) limit s.machines register)
  bounded-costs little = elim little [
    | inl none ↦ (
      0,
      omega arith,
      λ register. grown-free (growth_at flat) 0 s.machines register
          (λ v m h. past-within m register (let w = s.wide v m h ∙ state.registers ∙ ap length none in omega arith)),
    )
    | inr most ↦ (growth flat, most, state.costs)
  ]

  pub can-cut : GrowthIsSolved → GrowthIsBounded → IsLittle flat → (pieces cuts : List ℕ) → d.by ≡ by.Concat pieces → (target : Graph) → HasMachine s.machines d.variable target → AreCuts target pieces cuts
      → CanCutAt flat left s.machines cuts
  can-cut grows bounds little pieces cuts is target there borders =
      let h = bounded-costs little in
      let own = (grows flat straight).defined d (slice_get-contains flat.definitions left d defined) in
      let sum : sum_of (growth_at flat) pieces ≡ growth_at flat d.variable = sum-same (growth_at flat) pieces ∙ sym (ap (growth_by (growth_of flat)) is) ∙ sym own in
      record {
        variable = d.variable;
        pieces = pieces;
        target = target;
        defined = defined ∙ ap (λ (b : By). Some (definition d.variable b)) is;
        can = record {
          machine = there;
          others = λ p c. used-has p (subst (λ (b : By). Contains (used b) p) (sym is) c);
          borders = borders;
          fits = concat-fits (growth_at flat) h.0 s.machines h.2 (λ v. (bounds flat straight v).0) h.1 d.variable target there pieces sum;
        };
      }

  pub can-pass : GrowthGoesAlong → GrowthIsBounded → IsLittle flat → HasFormed flat → (v : ℕ) → reads d.by ≡ Some v → CanPassAt flat left s.machines
  can-pass along bounds little formed v reading =
      let is = used-read d.by v reading in
      let h = bounded-costs little in
      let target = target-has in
      let among : Contains (used d.by) v = subst (λ vs. Contains vs v) (sym is) (zero, omega arith, refl) in
      let reader = used-has v among in
      let at = slice_get-contains flat.definitions left d defined in
      let a = along flat straight d at v among in
      let some = (bounds flat straight v).0 in
      let slope = mul-le-mul_left (slope_of d.by) some in
      let written = a.written in
      let most : slope_of d.by + base_of d.by ≤ growth_at flat d.variable = omega arith in
      record {
        variable = d.variable;
        reader = v;
        how = d.by;
        target = target.0;
        machine = reader.1.0;
        defined = defined;
        through = reading;
        can = record {
          machine = target.1;
          other = reader.0;
          reader = reader.1.1;
          formed = each-in flat.definitions formed d at;
          fits = through-fits (growth_at flat) h.0 s.machines h.2 (λ u. (bounds flat straight u).0) h.1 d.variable target.0 target.1 (slope_of d.by + base_of d.by) most v reader.1.0 reader.1.1;
        };
      }
    where
      each-in : (ds : List Definition) → AllByRecursion (λ (e : Definition). IsFormedBy e.by) ds → (e : Definition) → Contains ds e → IsFormedBy e.by
      each-in [] h e c = absurd (omega (arith, c.1))
      each-in (f ∷ ds) h e (zero, lt, same) = subst (λ (g : Definition). IsFormedBy g.by) same h.0
      each-in (f ∷ ds) h e (suc i, lt, same) = each-in ds h.1 e (i, omega (arith, lt), same)
