-- The steps of the search, as its calls meet them.
use Rattle.std.proofs.Common.{◌≡◌, ℕ, zero, suc, ◌<◌, ◌+◌, ◌↔◌, List, [], ◌∷◌, ◌++◌, length, Option, Some, None, Contains, slice_get, refl, sym, ap, ◌∙◌, subst, arith, inl, inr, length-append}
use Rattle.std.proofs.lemmas.Bool.Decides.{eqb_tells}
use Rattle.std.proofs.lemmas.Option.{slice_get_within}
use Rattle.machine_core.specs.declared.graph.Graph.{Graph}
use Rattle.search_hits.specs.declared.region.Region.{Region}
use Rattle.flat_cubes.specs.Straight.{IsStraight}
use Rattle.flat_cubes.specs.declared.definition.By.{By}
use Rattle.flat_cubes.specs.declared.definition.By.TheVariants as by
use Rattle.flat_cubes.specs.declared.definition.Definition.{Definition}
use Rattle.flat_cubes.specs.declared.flat.Flat.{Flat}
use Rattle.backward.specs.Families.{Family, Words, HasMachine, Conf}
use Rattle.backward.specs.Definitions.{definition}
use Rattle.backward.specs.Chains.{width, ConfBefore}
use Rattle.backward.specs.Pieces.{ConfCut}
use Rattle.backward.specs.Steps.{CanPassAt, IsMadeAt, IsMadeBy}
use Rattle.backward.specs.declared.leaf_state.LeafState.{LeafState}
use Rattle.backward.proofs.OrderLemmas.{stands-at}
use Rattle.backward.proofs.StepLemmas.{one-definition}
use Rattle.cube_search.specs.declared.tally.LeafTally.{LeafTally}
use Rattle.cube_search.specs.Steps.{AreExact, CanStep, IsCutting}
use Rattle.cube_search.specs.Tallies.{Keeps, IsCovered, AreCoveredFrom, IsCoveredBelow}
use Rattle.cube_search.proofs.CoverLemmas.{covered-all, covered-concat, covered-through, covered-whole, covered-from-kept}
use Rattle.cube_search.proofs.Measures.{weight, pieces_of}

pub step-below : (flat : Flat) (at : ℕ) (ms : Family) (cuts : List ℕ) → CanStep flat at ms cuts → at < length flat.definitions
step-below flat at ms cuts h = elim h [
  | inl c ↦ slice_get_within flat.definitions at (definition c.variable (by.Concat c.pieces)) c.defined
  | inr p ↦ slice_get_within flat.definitions at (definition p.variable p.how) p.defined
]

-- whole cuts: the family below them covers them
pub whole-arm : (flat : Flat) (region : Region) (at : ℕ) (pieces cuts : List ℕ) (s : LeafState) (tally : LeafTally) → s.registers ≡ width flat → length cuts + 1 ≡ length pieces
    → IsCoveredBelow flat region at cuts s tally → AreCoveredFrom flat region at pieces s.machines cuts tally
whole-arm flat region at pieces cuts s tally wide full h x e =
    let new = h.0 in
    let same : (words : Words) (totals : List ℕ) → Conf (width flat) new.machines words totals ↔ ConfCut (width flat) s.machines x pieces cuts words totals =
    λ words totals. subst (λ n. Conf n new.machines words totals ↔ ConfCut (width flat) s.machines x pieces cuts words totals) (h.1.registers ∙ wide)
    (subst (λ n. Conf new.registers new.machines words totals ↔ ConfCut n s.machines x pieces cuts words totals) wide (h.1.cut x pieces e words totals)) in
    covered-whole flat region at x pieces s.machines new.machines cuts tally full same h.2

pub concat-arm : (flat : Flat) (region : Region) (left at : ℕ) (pieces : List ℕ) (s : LeafState) (tally : LeafTally) → left ≡ suc at → IsStraight flat → s.registers ≡ width flat → AreExact s.registers s.machines
    → IsCutting flat at pieces s.machines [] → AreCoveredFrom flat region at pieces s.machines [] tally → IsCovered flat region left s.machines tally
concat-arm flat region left at pieces s tally e straight wide exact cutting h =
    subst (λ n. IsCovered flat region n s.machines tally) (sym e)
    (covered-concat flat region at cutting.variable pieces s.machines tally (subst (λ n. AreExact n s.machines) wide exact) cutting.machine cutting.has cutting.defined cutting.fewer (h cutting.variable cutting.defined))

pub through-arm : (flat : Flat) (region : Region) (left at : ℕ) (s : LeafState) (tally : LeafTally) → left ≡ suc at → s.registers ≡ width flat → CanPassAt flat at s.machines
    → IsCoveredBelow flat region at [] s tally → IsCovered flat region left s.machines tally
through-arm flat region left at s tally e wide can h =
    let new = h.0 in
    let same : (words : Words) (totals : List ℕ) → Conf (width flat) new.machines words totals ↔ ConfBefore (width flat) s.machines can.variable can.how words totals =
    λ words totals. subst (λ n. Conf n new.machines words totals ↔ ConfBefore (width flat) s.machines can.variable can.how words totals) (h.1.registers ∙ wide)
    (subst (λ n. Conf new.registers new.machines words totals ↔ ConfBefore n s.machines can.variable can.how words totals) wide (h.1.passed can.variable can.reader can.how can.defined can.through words totals)) in
    subst (λ n. IsCovered flat region n s.machines tally) (sym e) (covered-through flat region at can.variable can.how s.machines new.machines tally can.defined same h.2)

-- all next cuts
pub all-arm : (flat : Flat) (region : Region) (at : ℕ) (pieces cuts : List ℕ) (ms : Family) (tally : LeafTally) (bound : ℕ)
    → ((d : Definition) (m : Graph) → slice_get flat.definitions at ≡ Some d → HasMachine ms d.variable m → bound ≡ m.states) → (length cuts + 1 ≡ length pieces → ⊥)
    → ((s : ℕ) → s < bound → AreCoveredFrom flat region at pieces ms (cuts ++ s ∷ []) tally) → AreCoveredFrom flat region at pieces ms cuts tally
all-arm flat region at pieces cuts ms tally bound is ne h x e =
    covered-all flat region at x pieces ms cuts tally bound (λ m there. is (definition x (by.Concat pieces)) m e there) ne (λ s lt. h s lt x e)

-- one more list of cuts is covered
pub covered-next : (flat : Flat) (region : Region) (at : ℕ) (pieces : List ℕ) (ms : Family) (cuts : List ℕ) (old new : LeafTally) (s : ℕ) → Keeps old new
    → ((i : ℕ) → i < s → AreCoveredFrom flat region at pieces ms (cuts ++ i ∷ []) old) → AreCoveredFrom flat region at pieces ms (cuts ++ s ∷ []) new
    → (i : ℕ) → i < s + 1 → AreCoveredFrom flat region at pieces ms (cuts ++ i ∷ []) new
covered-next flat region at pieces ms cuts old new s k before here i lt = elim (eqb_tells i s) [
  | inl is ↦ subst (λ j. AreCoveredFrom flat region at pieces ms (cuts ++ j ∷ []) new) (sym is.1) here
  | inr other ↦ λ x e. covered-from-kept flat region at x pieces ms (cuts ++ i ∷ []) old new k (before i (let ne = other.1 in omega arith) x e)
]

-- one cut more, with pieces left behind it
pub more-cuts : (flat : Flat) (at : ℕ) (pieces : List ℕ) (ms : Family) (cuts : List ℕ) (s bound : ℕ) → IsCutting flat at pieces ms cuts → (length cuts + 1 ≡ length pieces → ⊥)
    → ((d : Definition) (m : Graph) → slice_get flat.definitions at ≡ Some d → HasMachine ms d.variable m → bound ≡ m.states) → s < bound → IsCutting flat at pieces ms (cuts ++ s ∷ [])
more-cuts flat at pieces ms cuts s bound cutting ne is lt =
    let b = is (definition cutting.variable (by.Concat pieces)) cutting.machine cutting.defined cutting.has in
    record {
      variable = cutting.variable;
      machine = cutting.machine;
      defined = cutting.defined;
      has = cutting.has;
      fewer = (let f = cutting.fewer in let e = length-append cuts (s ∷ []) in omega arith);
      states = λ i k. at-end (λ j. j < cutting.machine.states) cuts s cutting.states (omega arith) i k;
      can = cutting.can;
    }
  where
    at-end : (P : ℕ → Type 0) (xs : List ℕ) (y : ℕ) → ((i : ℕ) → Contains xs i → P i) → P y → (i : ℕ) → Contains (xs ++ y ∷ []) i → P i
    at-end P [] y h p i (zero, k, e) = subst P e p
    at-end P [] y h p i (suc n, k, e) = absurd (omega (arith, k))
    at-end P (x ∷ xs) y h p i (zero, k, e) = h i (zero, omega arith, e)
    at-end P (x ∷ xs) y h p i (suc n, k, e) = at-end P xs y (λ j c. h j (suc c.0, omega (arith, c.1), c.2)) p i (n, omega (arith, k), e)

-- cuts that are as many as they must be can be carried
pub whole-can : (flat : Flat) (at : ℕ) (pieces : List ℕ) (ms : Family) (cuts : List ℕ) → IsCutting flat at pieces ms cuts → length cuts + 1 ≡ length pieces → CanStep flat at ms cuts
whole-can flat at pieces ms cuts cutting full = inl (cutting.can cuts (record { count = omega (arith, full); states = cutting.states }))

pub cutting-machine : (flat : Flat) (at : ℕ) (pieces : List ℕ) (ms : Family) (cuts : List ℕ) → IsCutting flat at pieces ms cuts → (d : Definition) → slice_get flat.definitions at ≡ Some d → (m : Graph) × HasMachine ms d.variable m
cutting-machine flat at pieces ms cuts cutting d e =
    let same = one-definition flat.definitions at (definition cutting.variable (by.Concat pieces)) d cutting.defined e in
    (cutting.machine, subst (λ x. HasMachine ms x.variable cutting.machine) same cutting.has)

pub cutting-below : (flat : Flat) (at : ℕ) (pieces : List ℕ) (ms : Family) (cuts : List ℕ) → IsCutting flat at pieces ms cuts → at < length flat.definitions
cutting-below flat at pieces ms cuts cutting = slice_get_within flat.definitions at (definition cutting.variable (by.Concat pieces)) cutting.defined

-- how much is left falls
pub weight-next : (ds : List Definition) (left at : ℕ) → left ≡ suc at → weight ds left ≡ suc (suc (pieces_of (slice_get ds at) + weight ds at))
weight-next ds left at e = ap (weight ds) e

pub weight-pieces : (flat : Flat) (at : ℕ) (pieces : List ℕ) (ms : Family) (cuts : List ℕ) → IsCutting flat at pieces ms cuts → pieces_of (slice_get flat.definitions at) ≡ length pieces
weight-pieces flat at pieces ms cuts cutting = ap pieces_of cutting.defined

pub none-of : {X : Type 0} (o : Option X) → ((x : X) → o ≡ Some x → ⊥) → o ≡ None
none-of None h = refl
none-of (Some x) h = absurd (h x refl)

pub some-pieces : (flat : Flat) (at x : ℕ) (pieces : List ℕ) → IsStraight flat → slice_get flat.definitions at ≡ Some (definition x (by.Concat pieces)) → 0 < length pieces
some-pieces flat at x pieces straight is = (stands-at (length flat.variables) flat.definitions at (definition x (by.Concat pieces)) straight.order is).some

pub concat-here : (ds : List Definition) (at : ℕ) (d : Definition) (pieces other : List ℕ) → slice_get ds at ≡ Some d → d.by ≡ by.Concat pieces → other ≡ pieces
    → slice_get ds at ≡ Some (definition d.variable (by.Concat other))
concat-here ds at d pieces other e is same = e ∙ ap (λ b. Some (definition d.variable b)) (is ∙ ap by.Concat (sym same))

-- no concatenation stands where another definition does
pub no-concat : (ds : List Definition) (at x : ℕ) (d : Definition) (pieces : List ℕ) → slice_get ds at ≡ Some d → ((vs : List ℕ) → d.by ≡ by.Concat vs → ⊥) → slice_get ds at ≡ Some (definition x (by.Concat pieces)) → ⊥
no-concat ds at x d pieces e h is = h pieces (ap (λ (c : Definition). c.by) (one-definition ds at d (definition x (by.Concat pieces)) e is))

-- cuts say nothing of a definition that is no concatenation
made-by : (b : By) (x : ℕ) (cuts : List ℕ) (ms : Family) (ns : LeafState) → ((vs : List ℕ) → b ≡ by.Concat vs → ⊥) → IsMadeBy b x [] ms ns → IsMadeBy b x cuts ms ns
made-by (by.Concat vs) x cuts ms ns h made = absurd (h vs refl)
made-by (by.First p u v) x cuts ms ns h made = made
made-by (by.All p u v) x cuts ms ns h made = made
made-by (by.Through t v) x cuts ms ns h made = made

pub made-any : (flat : Flat) (at : ℕ) (cuts : List ℕ) (ms : Family) (ns : LeafState) (d : Definition) → slice_get flat.definitions at ≡ Some d → ((vs : List ℕ) → d.by ≡ by.Concat vs → ⊥)
    → IsMadeAt flat at [] ms ns → IsMadeAt flat at cuts ms ns
made-any flat at cuts ms ns d e h made c is =
    made-by c.by c.variable cuts ms ns (λ vs p. h vs (ap (λ (x : Definition). x.by) (one-definition flat.definitions at d c e is) ∙ p)) (made c is)
