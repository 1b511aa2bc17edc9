-- The growths of variables, and how long their words become.
use Rattle.std.proofs.Common.{◌≡◌, refl, sym, ◌∙◌, subst, Bool, true, false, ◌||◌, ℕ, zero, suc, ◌+◌, ◌*◌, ◌/◌, ◌<◌, ◌≤◌, max, pos, ◌≤ℤ◌, ◌-ℤ◌, List, [], ◌∷◌, map, length, get_or, arith}
use Rattle.std.specs.Prelude.{nat_eq}
use Rattle.std.specs.List.{AllByRecursion, Contains, sum_by}
use Rattle.std.proofs.lemmas.Bool.{eqb-true}
use Rattle.std.proofs.lemmas.Int.{ints}
use Rattle.std.proofs.lemmas.List.{length-map}
use Rattle.std.proofs.lemmas.List.Sums.{get_or-le-sum_by, sum_by-cons}
use Rattle.std.proofs.Math.Nat.{mul-le-mul, mul-le-mul_left, mul-le-mul_right, mul-div-le}
use Rattle.sv_list.specs.Lists.{AllByRecursion-both}
use Rattle.sv_terms.specs.Language.{Word}
use Rattle.sv_terms.specs.TransductionLaws.{within_weaker}
use Rattle.sv_terms.specs.TransducerSizes.{edges_most, ends_most}
use Rattle.sv_terms.specs.TransducerSizeLaws.{within-most}
use Rattle.flat_cubes.specs.Using.{is_defined, used}
use Rattle.cube_bounds.specs.Growth.{growth, growth_at, growth_by, growth_of, longest_word}
use Rattle.cube_bounds.specs.NumberLaws.{GrowthGoesAlong, GrowthIsBounded, GrowthIsSolved, TransducersWriteWithin, WordsAreShort, base_of, slope_of, source_length}
use Rattle.flat_cubes.specs.Satisfying.{Defines, word_at}
use Rattle.flat_cubes.specs.Straight.{AreBelow, HasFormed, InOrder, IsFormedBy, IsStraight, StandsBefore}
use Rattle.flat_cubes.specs.declared.definition.By.{By}
use Rattle.flat_cubes.specs.declared.definition.By.TheVariants as by
use Rattle.flat_cubes.specs.declared.definition.Definition.{Definition}
use Rattle.flat_cubes.specs.declared.flat.Flat.{Flat}
use Rattle.flat_cubes.specs.declared.variable.Variable.{Variable}
use Rattle.cube_bounds.proofs.Lengths.{IsShort, defined_short}
use Rattle.cube_bounds.proofs.Solved.{grown_apart, grown_solves, within_greatest}
use Rattle.cube_bounds.proofs.Sourced.{source_within}

abbrev one_each : Variable → ℕ
one_each x = 1

ones : (xs : List Variable) (v : ℕ) → get_or (map one_each xs) v 1 ≡ 1
ones [] v = refl
ones (x ∷ xs) zero = refl
ones (x ∷ xs) (suc v) = ones xs v

-- what holds of each holds of one that is there
one_of : {X : Type 0} (P : X → Type 0) (xs : List X) (x : X) → AllByRecursion P xs → Contains xs x → P x
one_of P [] x a (k, h, e) = absurd (omega (arith, h))
one_of P (y ∷ xs) x a (zero, h, e) = subst P e a.0
one_of P (y ∷ xs) x a (suc k, h, e) = one_of P xs x a.1 (k, omega (arith, h), e)

pub solved : GrowthIsSolved
solved flat s = record {
  defined = λ d c. one_of (λ (e : Definition). growth_at flat e.variable ≡ growth_by (growth_of flat) e.by) flat.definitions d
      (grown_solves (length flat.variables) (map one_each flat.variables) flat.definitions s.order (let l = length-map flat.variables one_each in omega (arith, l))) c;
  free = λ v f. grown_apart (map one_each flat.variables) flat.definitions v f ∙ ones flat.variables v;
}

-- of each that is defined, once it is known of those that a definition uses, and of those that aren't defined
module _ (P : ℕ → Type 0) (n : ℕ) where
  by_order : (Q : Definition → Type 0) → ((d : Definition) (ds : List Definition) → StandsBefore n d ds → Q d → AllByRecursion P (used d.by) → P d.variable)
      → (ds : List Definition) → InOrder n ds → AllByRecursion Q ds → ((v : ℕ) → is_defined ds v ≡ false → P v) → (v : ℕ) → P v
  by_order Q step [] o q k v = k v refl
  by_order Q step (d ∷ ds) o q k v = by_order Q step ds o.1 q.1 next v
    where
      uses : (vs : List ℕ) → AllByRecursion (λ u. is_defined (d ∷ ds) u ≡ false) vs → AllByRecursion P vs
      uses [] a = tt
      uses (u ∷ vs) a = (k u a.0, uses vs a.1)

      here : P d.variable
      here = step d ds o.0 q.0 (uses (used d.by) o.0.apart)

      next : (u : ℕ) → is_defined ds u ≡ false → P u
      next u f = by_test (nat_eq d.variable u) refl
        where
          by_test : (b : Bool) → nat_eq d.variable u ≡ b → P u
          by_test true e = subst P (eqb-true d.variable u e) here
          by_test false e = k u ((λ i. e i || is_defined ds u) ∙ f)

equations : (flat : Flat) → IsStraight flat → AllByRecursion (λ (d : Definition). growth_at flat d.variable ≡ growth_by (growth_of flat) d.by) flat.definitions
equations flat s = grown_solves (length flat.variables) (map one_each flat.variables) flat.definitions s.order (let l = length-map flat.variables one_each in omega (arith, l))

-- each growth is at least 1
sum_some : (f : ℕ → ℕ) (vs : List ℕ) → 0 < length vs → AllByRecursion (λ v. 1 ≤ f v) vs → 1 ≤ sum_by f vs
sum_some f [] h a = absurd (omega arith)
sum_some f (v ∷ vs) h a = let e = sum_by-cons f v vs in let l = a.0 in omega (arith, e, l)

growth_some : (gs : List ℕ) (b : By) → 0 < length (used b) → AllByRecursion (λ v. 1 ≤ get_or gs v 1) (used b) → 1 ≤ growth_by gs b
growth_some gs (by.Concat vs) h a = sum_some (λ v. get_or gs v 1) vs h a
growth_some gs (by.First p u v) h a = let l = a.0 in omega (arith, l)
growth_some gs (by.All p u v) h a =
    let l = a.0 in
    let a : 1 ≤ get_or gs v 1 + length p = omega (arith, l) in
    let b : 1 ≤ max 1 (length u) = omega arith in
    let m : 1 * 1 ≤ (get_or gs v 1 + length p) * max 1 (length u) = mul-le-mul a b in
    omega (arith, m)
growth_some gs (by.Through t v) h a = let l = a.0 in omega (arith, l)

some_growth : (flat : Flat) → IsStraight flat → (v : ℕ) → 1 ≤ growth_at flat v
some_growth flat s = by_order (λ v. 1 ≤ growth_at flat v) (length flat.variables)
    (λ d. growth_at flat d.variable ≡ growth_by (growth_of flat) d.by)
    (λ d ds o e a. subst (λ n. 1 ≤ n) (sym e) (growth_some (growth_of flat) d.by o.some a))
    flat.definitions s.order (equations flat s)
    (λ v f. let e = (solved flat s).free v f in omega (arith, e))

pub bounded : GrowthIsBounded
bounded flat s v = (some_growth flat s v, within_greatest (growth_of flat) v)

-- along a definition
one_used : (u v : ℕ) → Contains (u ∷ []) v → u ≡ v
one_used u v (zero, h, e) = e
one_used u v (suc k, h, e) = absurd (omega (arith, h))

all_along : (g p m : ℕ) → 1 ≤ m → (g ≤ (g + p) * m) × (m * g + p * m ≤ (g + p) * m)
all_along g p m h =
    let a : g * 1 ≤ g * m = mul-le-mul_left g h in
    let b : (g + p) * m ≡ m * g + p * m = omega arith in
    let c : g * m ≡ m * g = omega arith in
    (omega (arith, a, b, c), omega (arith, b))

along_by : (gs : List ℕ) (b : By) (v : ℕ) → Contains (used b) v → (get_or gs v 1 ≤ growth_by gs b) × (slope_of b * get_or gs v 1 + base_of b ≤ growth_by gs b)
along_by gs (by.Concat vs) v c =
    let l = get_or-le-sum_by (λ u. get_or gs u 1) vs c.0 v c.1 in
    let m : get_or gs v 1 ≤ sum_by (λ u. get_or gs u 1) vs = subst (λ u. get_or gs u 1 ≤ sum_by (λ w. get_or gs w 1) vs) c.2 l in
    (m, omega (arith, m))
along_by gs (by.First p u w) v c = subst (λ x. (get_or gs x 1 ≤ growth_by gs (by.First p u w)) × (1 * get_or gs x 1 + (length p + length u) ≤ growth_by gs (by.First p u w))) (one_used w v c) (omega arith, omega arith)
along_by gs (by.All p u w) v c = subst (λ x. (get_or gs x 1 ≤ growth_by gs (by.All p u w)) × (max 1 (length u) * get_or gs x 1 + length p * max 1 (length u) ≤ growth_by gs (by.All p u w))) (one_used w v c) (all_along (get_or gs w 1) (length p) (max 1 (length u)) (omega arith))
along_by gs (by.Through t w) v c = subst (λ x. (get_or gs x 1 ≤ growth_by gs (by.Through t w)) × (edges_most t.edges * get_or gs x 1 + ends_most t.ends ≤ growth_by gs (by.Through t w))) (one_used w v c) (omega arith, (let e : edges_most t.edges * get_or gs w 1 ≡ get_or gs w 1 * edges_most t.edges = omega arith in omega (arith, e)))

pub along : GrowthGoesAlong
along flat s d h v c =
    let e = (solved flat s).defined d h in
    let l = along_by (growth_of flat) d.by v c in
    record {
      kept = subst (λ n. growth_at flat v ≤ n) (sym e) l.0;
      written = subst (λ n. slope_of d.by * growth_at flat v + base_of d.by ≤ n) (sym e) l.1;
    }

pub writes_within : TransducersWriteWithin
writes_within t v = within_weaker t (λ n. n * edges_most t.edges + ends_most t.ends) (λ n. edges_most t.edges * n + ends_most t.ends)
    (λ n. let e : n * edges_most t.edges ≡ edges_most t.edges * n = omega arith in omega (arith, e)) (within-most t)

-- words that meet the definitions
module _ (flat : Flat) (words : List Word) (s : IsStraight flat) (f : HasFormed flat) (h : AllByRecursion (Defines words) flat.definitions) where
  abbrev Short : ℕ → Type 0
  Short = IsShort (growth_of flat) (word_at words) (source_length flat words)

  low : (vs : List ℕ) → AreBelow (length flat.variables) vs → AllByRecursion (λ v. v < length flat.variables → Short v) vs → AllByRecursion Short vs
  low [] b a = tt
  low (v ∷ vs) b a = (a.0 b.0, low vs b.1 a.1)

  each_short : (v : ℕ) → v < length flat.variables → Short v
  each_short = by_order (λ v. v < length flat.variables → Short v) (length flat.variables)
      (λ d. (growth_at flat d.variable ≡ growth_by (growth_of flat) d.by) × (Defines words d × IsFormedBy d.by))
      (λ d ds o q a b. subst (λ n. length (word_at words d.variable) ≤ n * suc (source_length flat words)) (sym q.0)
      (defined_short (growth_of flat) (word_at words) (source_length flat words) d.by (word_at words d.variable) q.1.1 q.1.0 (low (used d.by) o.uses a)))
      flat.definitions s.order
      (AllByRecursion-both (λ d. growth_at flat d.variable ≡ growth_by (growth_of flat) d.by) (λ d. Defines words d × IsFormedBy d.by) flat.definitions (equations flat s)
      (AllByRecursion-both (Defines words) (λ d. IsFormedBy d.by) flat.definitions h f))
      (λ v e l.
      let g = (solved flat s).free v e in
      let w = source_within flat (λ u. length (word_at words u)) v l e in
      subst (λ n. length (word_at words v) ≤ n * suc (source_length flat words)) (sym g) (omega (arith, w)))

in_reach : (g n l : ℕ) → pos n ≤ℤ (pos (longest_word / g) -ℤ pos 1) → l ≤ g * suc n → l ≤ longest_word
in_reach g n l r h =
    let k : suc n ≤ longest_word / g = omega (arith, ints, r) in
    let m : g * suc n ≤ g * (longest_word / g) = mul-le-mul_left g k in
    let q = mul-div-le longest_word g in
    omega (arith, h, m, q)

pub short : WordsAreShort
short flat words s f h v l =
    let e = each_short flat words s f h v l in
    let n : source_length flat words + 1 ≡ suc (source_length flat words) = omega arith in
    let b = within_greatest (growth_of flat) v in
    let m : growth_at flat v * suc (source_length flat words) ≤ growth flat * suc (source_length flat words) = mul-le-mul_right (suc (source_length flat words)) b in
    let a : length (word_at words v) ≤ growth flat * suc (source_length flat words) = omega (arith, e, m) in
    record {
      each = subst (λ x. length (word_at words v) ≤ growth_at flat v * x) (sym n) e;
      all = subst (λ x. length (word_at words v) ≤ growth flat * x) (sym n) a;
      reached = λ r. in_reach (growth flat) (source_length flat words) (length (word_at words v)) r a;
    }
