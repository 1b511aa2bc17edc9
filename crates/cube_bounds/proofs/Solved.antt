-- The numbers of states and the growths solve their equations.
use Rattle.std.proofs.Common.{◌≡◌, ◌≢◌, refl, sym, ap, ◌∙◌, Bool, true, false, ◌||◌, ℕ, zero, suc, ◌+◌, ◌*◌, ◌^◌, ◌<◌, ◌≤◌, max, List, [], ◌∷◌, map, length, get_or, set, cond, Some, arith}
use Rattle.std.specs.Prelude.{nat_eq, slice_get}
use Rattle.std.specs.List.{AllByRecursion, count_by, sum_by}
use Rattle.std.proofs.lemmas.Bool.{eq-eqb, eqb-true, or_parts, or_right}
use Rattle.std.proofs.lemmas.List.{get_or-set_other, get_or-set_same, length-map}
use Rattle.std.proofs.lemmas.List.Sums.{sum_by-cons}
use Rattle.std.proofs.lemmas.Option.{slice_get_within}
use Rattle.std.proofs.Math.ListN.{length-set}
use Rattle.std.proofs.Math.Nat.{pow-suc, pow-zero, mul_comm, mul_assoc}
use Rattle.sv_list.specs.Lists.{count_by-cons}
use Rattle.sv_terms.specs.TransducerSizes.{edges_most, ends_most}
use Rattle.flat_cubes.specs.Using.{is_defined, used}
use Rattle.cube_bounds.specs.Bounds.{carried_all, greatest, own_bound, product_by, states_of, through_states, times_all, times_at}
use Rattle.cube_bounds.specs.NumberLaws.{StatesAreBounded, StatesAreSolved, factor}
use Rattle.cube_bounds.specs.Growth.{growth_by, grown}
use Rattle.flat_cubes.specs.Straight.{InOrder}
use Rattle.flat_cubes.specs.declared.definition.By.{By}
use Rattle.flat_cubes.specs.declared.definition.By.TheVariants as by
use Rattle.flat_cubes.specs.declared.definition.Definition.{Definition}
use Rattle.flat_cubes.specs.declared.variable.Variable.{Variable}

pub not_first : (d : Definition) (ds : List Definition) (v : ℕ) → is_defined (d ∷ ds) v ≡ false → d.variable ≢ v
not_first d ds v h e =
    let t = eq-eqb d.variable v e in
    let f = or_parts (nat_eq d.variable v) (is_defined ds v) h in
    cc (t, f.0)

pub not_behind : (d : Definition) (ds : List Definition) (v : ℕ) → is_defined (d ∷ ds) v ≡ false → is_defined ds v ≡ false
not_behind d ds v h = (or_parts (nat_eq d.variable v) (is_defined ds v) h).1

-- the growth of such a variable stays
pub grown_apart : (gs : List ℕ) (ds : List Definition) (v : ℕ) → is_defined ds v ≡ false → get_or (grown gs ds) v 1 ≡ get_or gs v 1
grown_apart gs [] v h = refl
grown_apart gs (d ∷ ds) v h =
    let ne : v ≢ d.variable = λ e. not_first d ds v h (sym e) in
    grown_apart (set gs d.variable (growth_by gs d.by)) ds v (not_behind d ds v h) ∙ get_or-set_other gs d.variable v (growth_by gs d.by) 1 ne

-- what a definition gives depends on the variables that it uses alone
sum_same : (f g : ℕ → ℕ) (vs : List ℕ) → AllByRecursion (λ v. f v ≡ g v) vs → sum_by f vs ≡ sum_by g vs
sum_same f g [] h = refl
sum_same f g (v ∷ vs) h = sum_by-cons f v vs ∙ (λ i. h.0 i + sum_same f g vs h.1 i) ∙ sym (sum_by-cons g v vs)

growth_same : (gs hs : List ℕ) (b : By) → AllByRecursion (λ v. get_or gs v 1 ≡ get_or hs v 1) (used b) → growth_by gs b ≡ growth_by hs b
growth_same gs hs (by.Concat vs) h = sum_same (λ v. get_or gs v 1) (λ v. get_or hs v 1) vs h
growth_same gs hs (by.First p u v) h = ap (λ n. n + length p + length u) h.0
growth_same gs hs (by.All p u v) h = ap (λ n. (n + length p) * max 1 (length u)) h.0
growth_same gs hs (by.Through t v) h = ap (λ n. max n (n * edges_most t.edges + ends_most t.ends)) h.0

all_same : (P Q : ℕ → Type 0) → ((v : ℕ) → P v → Q v) → (vs : List ℕ) → AllByRecursion P vs → AllByRecursion Q vs
all_same P Q f [] h = tt
all_same P Q f (v ∷ vs) h = (f v h.0, all_same P Q f vs h.1)

pub grown_solves : (n : ℕ) (gs : List ℕ) (ds : List Definition) → InOrder n ds → n ≤ length gs
    → AllByRecursion (λ (d : Definition). get_or (grown gs ds) d.variable 1 ≡ growth_by (grown gs ds) d.by) ds
grown_solves n gs [] o l = tt
grown_solves n gs (d ∷ ds) o l =
    let hs = set gs d.variable (growth_by gs d.by) in
    let long : length (set gs d.variable (growth_by gs d.by)) ≡ length gs = length-set gs d.variable (growth_by gs d.by) in
    let low : d.variable < length gs = (let k = o.0.defined in omega (arith, k)) in
    let same : growth_by gs d.by ≡ growth_by (grown (set gs d.variable (growth_by gs d.by)) ds) d.by
    = growth_same gs (grown (set gs d.variable (growth_by gs d.by)) ds) d.by
    (all_same (λ v. is_defined (d ∷ ds) v ≡ false) (λ v. get_or gs v 1 ≡ get_or (grown (set gs d.variable (growth_by gs d.by)) ds) v 1)
    (λ v h. sym (grown_apart gs (d ∷ ds) v h)) (used d.by) o.0.apart) in (
      grown_apart (set gs d.variable (growth_by gs d.by)) ds d.variable o.0.once ∙ get_or-set_same gs d.variable (growth_by gs d.by) 1 low ∙ same,
      grown_solves n (set gs d.variable (growth_by gs d.by)) ds o.1 (omega (arith, long)),
    )

-- the number at a place, once those at others were multiplied
times_other : (k : ℕ) (vs ns : List ℕ) (v : ℕ) → AllByRecursion (λ u. u ≢ v) vs → get_or (times_all k vs ns) v 1 ≡ get_or ns v 1
times_other k [] ns v h = refl
times_other k (u ∷ vs) ns v h =
    get_or-set_other (times_all k vs ns) u v (get_or (times_all k vs ns) u 1 * k) 1 (λ e. h.0 (sym e)) ∙ times_other k vs ns v h.1

pub times_length : (k : ℕ) (vs ns : List ℕ) → length (times_all k vs ns) ≡ length ns
times_length k [] ns = refl
times_length k (v ∷ vs) ns = length-set (times_all k vs ns) v (get_or (times_all k vs ns) v 1 * k) ∙ times_length k vs ns

pub carried_length : (ds : List Definition) (ns : List ℕ) → length (carried_all ds ns) ≡ length ns
carried_length [] ns = refl
carried_length (d ∷ ds) ns = times_length (through_states d.by * get_or (carried_all ds ns) d.variable 1) (used d.by) (carried_all ds ns) ∙ carried_length ds ns

-- and at one of them: multiplied for each time that it comes
times_here : (k : ℕ) (vs ns : List ℕ) (v : ℕ) → v < length ns → get_or (times_all k vs ns) v 1 ≡ get_or ns v 1 * k ^ count_by (nat_eq v) vs
times_here k [] ns v h = let z : k ^ 0 ≡ 1 = pow-zero k in rw z (omega arith)
times_here k (u ∷ vs) ns v h = by_test (nat_eq v u) refl (times_here k vs ns v h)
  where
    count : ℕ
    count = count_by (nat_eq v) vs

    by_test : (b : Bool) → nat_eq v u ≡ b → get_or (times_all k vs ns) v 1 ≡ get_or ns v 1 * k ^ count_by (nat_eq v) vs
        → get_or (times_all k (u ∷ vs) ns) v 1 ≡ get_or ns v 1 * k ^ count_by (nat_eq v) (u ∷ vs)
    by_test true e r =
        let low : v < length (times_all k vs ns) = (let l = times_length k vs ns in omega (arith, l)) in
        let more : count_by (nat_eq v) (u ∷ vs) ≡ suc (count_by (nat_eq v) vs) = (let c = count_by-cons v u vs ∙ ap (λ b. cond b 1 0 + count_by (nat_eq v) vs) e in omega (arith, c)) in
        ap (λ x. get_or (times_at k x (times_all k vs ns)) v 1) (sym (eqb-true v u e))
        ∙ get_or-set_same (times_all k vs ns) v (get_or (times_all k vs ns) v 1 * k) 1 low
        ∙ ap (λ x. x * k) r
        ∙ mul_assoc (get_or ns v 1) (k ^ count_by (nat_eq v) vs) k
        ∙ ap (λ x. get_or ns v 1 * x) (sym (pow-suc k (count_by (nat_eq v) vs)))
        ∙ ap (λ x. get_or ns v 1 * k ^ x) (sym more)
    by_test false e r =
        let ne : v ≢ u = λ q. (let t = eq-eqb v u q in cc (t, e)) in
        let same : count_by (nat_eq v) (u ∷ vs) ≡ count_by (nat_eq v) vs = (let c = count_by-cons v u vs ∙ ap (λ b. cond b 1 0 + count_by (nat_eq v) vs) e in omega (arith, c)) in
        get_or-set_other (times_all k vs ns) u v (get_or (times_all k vs ns) u 1 * k) 1 ne ∙ r ∙ ap (λ x. get_or ns v 1 * k ^ x) (sym same)

abbrev pub factor_in : List ℕ → ℕ → Definition → ℕ
factor_in ms v d = (through_states d.by * get_or ms d.variable 1) ^ count_by (nat_eq v) (used d.by)

product_same : (f g : Definition → ℕ) (ds : List Definition) → AllByRecursion (λ d. f d ≡ g d) ds → product_by f ds ≡ product_by g ds
product_same f g [] h = refl
product_same f g (d ∷ ds) h = λ i. h.0 i * product_same f g ds h.1 i

-- what holds of each variable that is defined
each_defined : (P : ℕ → Type 0) (ds : List Definition) → ((x : ℕ) → is_defined ds x ≡ true → P x) → AllByRecursion (λ (d : Definition). P d.variable) ds
each_defined P [] h = tt
each_defined P (d ∷ ds) h = (
  h d.variable (ap (λ b. b || is_defined ds d.variable) (eq-eqb d.variable d.variable refl)),
  each_defined P ds (λ x e. h x (or_right (nat_eq d.variable x) (is_defined ds x) e)),
)

all_with : (P Q : Definition → Type 0) → ((d : Definition) → P d → Q d) → (ds : List Definition) → AllByRecursion P ds → AllByRecursion Q ds
all_with P Q f [] h = tt
all_with P Q f (d ∷ ds) h = (f d h.0, all_with P Q f ds h.1)

defined_not : (ds : List Definition) (u x : ℕ) → is_defined ds u ≡ false → is_defined ds x ≡ true → u ≢ x
defined_not ds u x f t e = let g = ap (is_defined ds) e in cc (f, t, g)

turned : (a p q : ℕ) → a * p * q ≡ a * (q * p)
turned a p q = mul_assoc a p q ∙ ap (λ x. a * x) (mul_comm p q)

pub carried_solves : (n : ℕ) (ds : List Definition) (ns : List ℕ) → InOrder n ds → (v : ℕ) → v < length ns
    → get_or (carried_all ds ns) v 1 ≡ get_or ns v 1 * product_by (factor_in (carried_all ds ns) v) ds
carried_solves n [] ns o v h = omega arith
carried_solves n (d ∷ ds) ns o v h = joined (carried_solves n ds ns o.1 v h)
  where
    ms : List ℕ
    ms = carried_all ds ns

    k : ℕ
    k = through_states d.by * get_or (carried_all ds ns) d.variable 1

    others : (x : ℕ) → is_defined ds x ≡ true → get_or (carried_all ds ns) x 1 ≡ get_or (carried_all (d ∷ ds) ns) x 1
    others x e = sym (times_other (through_states d.by * get_or (carried_all ds ns) d.variable 1) (used d.by) (carried_all ds ns) x
        (all_same (λ u. is_defined (d ∷ ds) u ≡ false) (λ u. u ≢ x) (λ u f. defined_not ds u x (not_behind d ds u f) e) (used d.by) o.0.apart))

    own : get_or (carried_all ds ns) d.variable 1 ≡ get_or (carried_all (d ∷ ds) ns) d.variable 1
    own = sym (times_other (through_states d.by * get_or (carried_all ds ns) d.variable 1) (used d.by) (carried_all ds ns) d.variable
        (all_same (λ u. is_defined (d ∷ ds) u ≡ false) (λ u. u ≢ d.variable) (λ u f e. not_first d ds u f (sym e)) (used d.by) o.0.apart))

    factors : product_by (factor_in (carried_all ds ns) v) ds ≡ product_by (factor_in (carried_all (d ∷ ds) ns) v) ds
    factors = product_same (factor_in (carried_all ds ns) v) (factor_in (carried_all (d ∷ ds) ns) v) ds
        (all_with (λ e. get_or (carried_all ds ns) e.variable 1 ≡ get_or (carried_all (d ∷ ds) ns) e.variable 1)
        (λ e. factor_in (carried_all ds ns) v e ≡ factor_in (carried_all (d ∷ ds) ns) v e)
        (λ e q. ap (λ x. (through_states e.by * x) ^ count_by (nat_eq v) (used e.by)) q) ds
        (each_defined (λ x. get_or (carried_all ds ns) x 1 ≡ get_or (carried_all (d ∷ ds) ns) x 1) ds others))

    joined : get_or (carried_all ds ns) v 1 ≡ get_or ns v 1 * product_by (factor_in (carried_all ds ns) v) ds
        → get_or (carried_all (d ∷ ds) ns) v 1 ≡ get_or ns v 1 * product_by (factor_in (carried_all (d ∷ ds) ns) v) (d ∷ ds)
    joined r =
        let low : v < length (carried_all ds ns) = (let l = carried_length ds ns in omega (arith, l)) in
        times_here (through_states d.by * get_or (carried_all ds ns) d.variable 1) (used d.by) (carried_all ds ns) v low
        ∙ (λ i. (r ∙ ap (λ x. get_or ns v 1 * x) factors) i * (through_states d.by * own i) ^ count_by (nat_eq v) (used d.by))
        ∙ turned (get_or ns v 1) (product_by (factor_in (carried_all (d ∷ ds) ns) v) ds) (factor_in (carried_all (d ∷ ds) ns) v d)

own_at : (vs : List Variable) (v : ℕ) (x : Variable) → slice_get vs v ≡ Some x → get_or (map own_bound vs) v 1 ≡ own_bound x
own_at [] v x e = absurd (cc)
own_at (y ∷ vs) zero x e = (let f : y ≡ x = cc in ap own_bound f)
own_at (y ∷ vs) (suc v) x e = own_at vs v x e

pub solved : StatesAreSolved
solved flat s v x e =
    let l = slice_get_within flat.variables v x e in
    let long = length-map flat.variables own_bound in
    carried_solves (length flat.variables) flat.definitions (map own_bound flat.variables) s.order v (omega (arith, l, long))
    ∙ ap (λ n. n * product_by (factor flat v) flat.definitions) (own_at flat.variables v x e)

pub within_greatest : (ns : List ℕ) (v : ℕ) → get_or ns v 1 ≤ greatest 1 ns
within_greatest [] v = omega arith
within_greatest (n ∷ ns) zero = omega arith
within_greatest (n ∷ ns) (suc v) = let r = within_greatest ns v in omega (arith, r)

pub bounded : StatesAreBounded
bounded flat v = within_greatest (states_of flat) v
