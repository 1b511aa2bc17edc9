-- The machines of the variables' own parts: what their characters cost, and how many states they may have.
use Rattle.std.proofs.Common.{◌≡◌, ℕ, zero, suc, ◌+◌, ◌*◌, ◌^◌, ◌<◌, ◌≤◌, inl, inr, nat_eq, cond, Bool, true, false, List, [], ◌∷◌, ◌++◌, length, map, get_or, Contains, Some, slice_get, refl, sym, ap, ◌∙◌, subst, arith, mul-le-mul}
use Rattle.std.specs.Prelude.{slice_index, slice_set}
use Rattle.std.specs.List.{AllByRecursion, count_by}
use Rattle.std.proofs.lemmas.Bool.{eq-eqb, eqb-true}
use Rattle.std.proofs.lemmas.List.{length-map}
use Rattle.std.proofs.Math.Nat.{pow-zero, pow-suc}
use Rattle.machine_core.specs.declared.graph.Graph.{Graph}
use Rattle.sv_list.specs.Lists.{slice_get-push_cases, slice_get-some}
use Rattle.sv_terms.specs.Language.{Word}
use Rattle.sv_terms.specs.BoundLaws.{some-product}
use Rattle.part_machines.specs.Parts.{IsOfParts, times}
use Rattle.flat_cubes.specs.Using.{used}
use Rattle.cube_bounds.specs.Bounds.{carried_all, own_bound, part_bound, product_by, states, states_at, states_of, through_states, times_all}
use Rattle.cube_bounds.specs.NumberLaws.{factor, StatesAreBounded, StatesAreSolved}
use Rattle.flat_cubes.specs.Straight.{HasFormed, IsFormedBy, IsStraight}
use Rattle.flat_cubes.specs.declared.definition.By.{By}
use Rattle.flat_cubes.specs.declared.definition.By.TheVariants as by
use Rattle.flat_cubes.specs.declared.definition.Definition.{Definition}
use Rattle.flat_cubes.specs.declared.flat.Flat.{Flat}
use Rattle.flat_cubes.specs.declared.variable.Own.{Own}
use Rattle.flat_cubes.specs.declared.variable.Variable.{Variable}
use Rattle.backward.specs.Chains.{own_cost, width}
use Rattle.backward.specs.Meetings.{IsCostWithin}
use Rattle.backward.specs.States.{AreOwnMachines, IsOwnMachine}

-- what a character costs
abbrev pub character : List ℕ → ℕ → List ℕ
character registers v = map (λ z. cond (nat_eq z v) 1 0) registers

same-order : (a b : ℕ) → nat_eq a b ≡ nat_eq b a
same-order a b = by (nat_eq a b) (nat_eq b a) refl refl
  where
    by : (s t : Bool) → nat_eq a b ≡ s → nat_eq b a ≡ t → nat_eq a b ≡ nat_eq b a
    by true true e f = e ∙ sym f
    by false false e f = e ∙ sym f
    by true false e f = let g = eq-eqb b a (sym (eqb-true a b e)) in cc
    by false true e f = let g = eq-eqb a b (sym (eqb-true b a f)) in cc

times-one : (n : ℕ) (b : Bool) → n * cond b 1 0 ≡ cond b n 0
times-one n true = omega arith
times-one n false = omega arith

times-character : (registers : List ℕ) (v : ℕ) (w : Word) → times (length w) (character registers v) ≡ own_cost registers v w
times-character [] v w = refl
times-character (z ∷ registers) v w = let here = times-one (length w) (nat_eq z v) in let rest = times-character registers v w in cc

character-at : (registers : List ℕ) (v register z : ℕ) → slice_get registers register ≡ Some z → slice_index (character registers v) register ≡ cond (nat_eq v z) 1 0
character-at [] v register z e = cc
character-at (y ∷ registers) v zero z e = let same : y ≡ z = cc in ap (λ b. cond b 1 0) (ap (λ k. nat_eq k v) same ∙ same-order z v)
character-at (y ∷ registers) v (suc register) z e = character-at registers v register z e

-- a variable's machine
pub own-of : (flat : Flat) (v : ℕ) (variable : Variable) (each : List ℕ) (m : Graph) → each ≡ character flat.registers v → IsOfParts variable.parts each m → IsOwnMachine flat v variable m × (m.registers ≡ width flat)
own-of flat v variable each m is h = (
  record {
    reads = λ word cost. (
      λ a. let x = (h.words word cost).0 a in (x.0, x.1 ∙ spent word),
      λ a. (h.words word cost).1 (a.0, a.1 ∙ sym (spent word)),
    );
    few = h.few;
    within = λ register z e.
        let slope = ap (λ k. slice_index k register) is ∙ character-at flat.registers v register z e in
        subst (λ n. IsCostWithin m register n 0) slope (record { runs = h.runs register; paths = h.paths register });
  },
  h.registers ∙ ap length is ∙ length-map flat.registers (λ z. cond (nat_eq z v) 1 0),
)
  where
    spent : (word : Word) → times (length word) each ≡ own_cost flat.registers v word
    spent word = ap (times (length word)) is ∙ times-character flat.registers v word

-- the machines of the first variables
pub record AreBegun (flat : Flat) (count : ℕ) (machines : List Graph) : Type 0 where
  pub size : length machines ≡ count
  pub each : (v : ℕ) (variable : Variable) (m : Graph) → slice_get flat.variables v ≡ Some variable → slice_get machines v ≡ Some m → IsOwnMachine flat v variable m × (m.registers ≡ width flat)

pub begun-none : (flat : Flat) → AreBegun flat 0 []
begun-none flat = record { size = refl; each = none }
  where
    none : (v : ℕ) (variable : Variable) (m : Graph) → slice_get flat.variables v ≡ Some variable → slice_get [] v ≡ Some m → IsOwnMachine flat v variable m × (m.registers ≡ width flat)
    none v variable m e f = cc

pub begun-more : (flat : Flat) (count : ℕ) (machines new : List Graph) (variable : Variable) (each : List ℕ) (m : Graph) → AreBegun flat count machines → slice_get flat.variables count ≡ Some variable → each ≡ character flat.registers count
    → IsOfParts variable.parts each m → new ≡ machines ++ m ∷ [] → AreBegun flat (count + 1) new
begun-more flat count machines new variable each m h at is of e = subst (AreBegun flat (count + 1)) (sym e) (record {
  size = grown machines ∙ ap (λ n. n + 1) h.size;
  each = λ v x n f g. elim (slice_get-push_cases machines m v n g) [
    | inl old ↦ h.each v x n f old
    | inr last ↦
        let place : v ≡ count = last.0 ∙ h.size in
        let same : variable ≡ x = (let t = subst (λ k. slice_get flat.variables k ≡ Some x) place f in cc) in
        let here = own-of flat count variable each m is of in
        subst (λ k. IsOwnMachine flat k x n × (n.registers ≡ width flat)) (sym place)
        (subst (λ (y : Variable). IsOwnMachine flat count y n × (n.registers ≡ width flat)) same
        (subst (λ (k : Graph). IsOwnMachine flat count variable k × (k.registers ≡ width flat)) last.1 here))
  ];
})
  where
    grown : (ms : List Graph) → length (ms ++ m ∷ []) ≡ length ms + 1
    grown [] = refl
    grown (x ∷ ms) = let r = grown ms in omega (arith, r)

pub begun-all : (flat : Flat) (count : ℕ) (machines : List Graph) → length flat.variables ≡ count → AreBegun flat count machines → AreOwnMachines flat machines
begun-all flat count machines size h = record { count = h.size ∙ sym size; each = λ v x m f g. (h.each v x m f g).0 }

contained-at : (ms : List Graph) (i : ℕ) (m : Graph) → i < length ms → get_or ms i m ≡ m → slice_get ms i ≡ Some m
contained-at [] i m lt e = absurd (omega (arith, lt))
contained-at (x ∷ ms) zero m lt e = ap Some e
contained-at (x ∷ ms) (suc i) m lt e = contained-at ms i m (omega (arith, lt)) e

pub begun-wide : (flat : Flat) (count : ℕ) (machines : List Graph) → length flat.variables ≡ count → AreBegun flat count machines → (m : Graph) → Contains machines m → m.registers ≡ width flat
begun-wide flat count machines size h m (i, lt, e) =
    let s = h.size in
    let v = slice_get-some flat.variables i (omega (arith, lt, size, s)) in
    (h.each i v.0 m v.1 (contained-at machines i m lt e)).1

-- no bound is 0
abbrev AreSome : List ℕ → Type 0
AreSome ns = (v : ℕ) → 1 ≤ get_or ns v 1

some-set : (ns : List ℕ) (x k : ℕ) → 1 ≤ k → AreSome ns → AreSome (slice_set ns x k)
some-set [] x k h all v = all v
some-set (n ∷ ns) zero k h all zero = h
some-set (n ∷ ns) zero k h all (suc v) = all (suc v)
some-set (n ∷ ns) (suc x) k h all zero = all zero
some-set (n ∷ ns) (suc x) k h all (suc v) = some-set ns x k h (λ u. all (suc u)) v

some-all : (k : ℕ) (vs ns : List ℕ) → 1 ≤ k → AreSome ns → AreSome (times_all k vs ns)
some-all k [] ns h all = all
some-all k (v ∷ vs) ns h all =
    let rest = some-all k vs ns h all in
    some-set (times_all k vs ns) v (get_or (times_all k vs ns) v 1 * k) (some-product (get_or (times_all k vs ns) v 1) k (rest v) h) rest

some-through : (b : By) → IsFormedBy b → 1 ≤ through_states b
some-through (by.Concat vs) f = omega arith
some-through (by.First p u v) f = omega arith
some-through (by.All p u v) f = omega arith
some-through (by.Through t v) f = let s = f.start in omega (arith, s)

some-carried : (ds : List Definition) (ns : List ℕ) → AllByRecursion (λ (d : Definition). IsFormedBy d.by) ds → AreSome ns → AreSome (carried_all ds ns)
some-carried [] ns f all = all
some-carried (d ∷ ds) ns f all =
    let rest = some-carried ds ns f.1 all in
    let k = through_states d.by * get_or (carried_all ds ns) d.variable 1 in
    some-all k (used d.by) (carried_all ds ns) (some-product (through_states d.by) (get_or (carried_all ds ns) d.variable 1) (some-through d.by f.0) (rest d.variable)) rest

some-owns : ((parts : List (Own × Bool)) → 1 ≤ product_by part_bound parts) → (vs : List Variable) → AreSome (map own_bound vs)
some-owns bounds [] v = omega arith
some-owns bounds (x ∷ vs) zero = bounds x.parts
some-owns bounds (x ∷ vs) (suc v) = some-owns bounds vs v

some-power : (a n : ℕ) → 1 ≤ a → 1 ≤ a ^ n
some-power a zero h = let e = pow-zero a in omega (arith, e)
some-power a (suc n) h = let e = pow-suc a n in let p = some-product (a ^ n) a (some-power a n h) h in omega (arith, e, p)

some-factors : (flat : Flat) → AreSome (states_of flat) → (v : ℕ) (ds : List Definition) → AllByRecursion (λ (d : Definition). IsFormedBy d.by) ds → 1 ≤ product_by (factor flat v) ds
some-factors flat all v [] f = omega arith
some-factors flat all v (d ∷ ds) f =
    some-product (factor flat v d) (product_by (factor flat v) ds)
    (some-power (through_states d.by * states_at flat d.variable) (count_by (nat_eq v) (used d.by)) (some-product (through_states d.by) (states_at flat d.variable) (some-through d.by f.0) (all d.variable)))
    (some-factors flat all v ds f.1)

-- the bound of a variable's own parts is within that of the cube
pub own-few : ((parts : List (Own × Bool)) → 1 ≤ product_by part_bound parts) → StatesAreSolved → StatesAreBounded → (flat : Flat) → IsStraight flat → HasFormed flat → (most : ℕ) → states flat ≤ most
    → (v : ℕ) (x : Variable) → slice_get flat.variables v ≡ Some x → product_by part_bound x.parts ≤ most
own-few bounds solved bounded flat straight formed most few v x e =
    let all = some-carried flat.definitions (map own_bound flat.variables) formed (some-owns bounds flat.variables) in
    let one = some-factors flat all v flat.definitions formed in
    let same : own_bound x ≤ own_bound x = omega arith in
    let p : own_bound x * 1 ≤ own_bound x * product_by (factor flat v) flat.definitions = mul-le-mul same one in
    let s = solved flat straight v x e in
    let b = bounded flat v in
    omega (arith, p, s, b, few)

-- the variable that a loop reads
pub variable-at : (flat : Flat) (items : List Variable) (v : ℕ) (x : Variable) → items ≡ flat.variables → v < length items → x ≡ get_or items v x → slice_get flat.variables v ≡ Some x
variable-at flat items v x same lt is = ap (λ l. slice_get l v) (sym same) ∙ get-at items v x lt is
  where
    get-at : (xs : List Variable) (i : ℕ) (x : Variable) → i < length xs → x ≡ get_or xs i x → slice_get xs i ≡ Some x
    get-at [] i x lt is = absurd (omega (arith, lt))
    get-at (y ∷ xs) zero x lt is = ap Some (sym is)
    get-at (y ∷ xs) (suc i) x lt is = get-at xs i x (omega (arith, lt)) is
