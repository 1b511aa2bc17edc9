-- What cubes share: one choice for the first terms, and what leaves no choice.
use Rattle.std.proofs.Common.{◌≡◌, ℕ, zero, suc, ◌+◌, ◌*◌, ◌/◌, ◌%◌, ◌<◌, ◌≤◌, ◌⊎◌, inl, inr, Bool, true, false, List, [], ◌∷◌, ◌++◌, length, take, drop, Option, Some, None, MatchOption, IfSome, get_or, nat_lt, ◌||◌, slice_get, refl, sym, ap, ◌∙◌, subst, arith, append-nil, IsTrue}
use Rattle.std.specs.Prelude.{if◌then◌else◌}
use Rattle.std.specs.List.{AllByRecursion}
use Rattle.std.proofs.lemmas.Bool.{eqb-true, ltb-false, ltb-true}
use Rattle.std.proofs.lemmas.List.{length-drop}
use Rattle.std.proofs.lemmas.Nat.{div-mul-add}
use Rattle.std.proofs.lemmas.Option.{slice_get_within}
use Rattle.std.proofs.Math.Arith.{mod-mul}
use Rattle.std.proofs.Math.Nat.{div-add-mod, div-div-eq-div-mul, div-eq_of_lt, mul-le-mul_left, mul_comm, mul_assoc, zero-div, zero-mod}
use Rattle.sv_list.specs.Lists.{slice_get-mapped, AllByRecursion-append, slice_get-some}
use Rattle.sv_terms.specs.CutOff.{cut_off}
use Rattle.sv_terms.specs.Sorting.{is_valued}
use Rattle.sv_terms.specs.declared.term.Term.{Term}
use Rattle.bool_cubes.specs.Contradictions.{ContradictionsAreFalse, IsContradictoryCube}
use Rattle.bool_cubes.specs.Cubes.{count, cube, cubes, cubes_of}
use Rattle.literal_forms.specs.Literals.{IsTrueLiteral}
use Rattle.bool_cubes.specs.Laws.{CubesAreCounted}
use Rattle.bool_cubes.specs.Picking.{CubesArePicked, cube_at}
use Rattle.bool_cubes.specs.Refusing.{count_of, most_cubes}
use Rattle.literal_forms.specs.Shapes.{seen}
use Rattle.bool_cubes.specs.Trees.{formula, tree_of}
use Rattle.literal_forms.specs.declared.literal.Cube.{Cube}
use Rattle.literal_forms.specs.declared.literal.Literal.{Literal}
use Rattle.decide.specs.CubeValues.{CubeHasNoValues}
use Rattle.decide.specs.Passing.{AreKnown, GoesOn, PassesCubes, is_single, shared_of}
use Rattle.decide.specs.Tallies.{IsTallyOf, batch}
use Rattle.decide.specs.declared.tally.CubeTally.{CubeTally}
use Rattle.decide.proofs.Listed.{first-part}

-- the number of cubes of one term
abbrev own_count : Term → ℕ
own_count t = count (formula (seen t) true)

single-one : (t : Term) → is_single t ≡ true → own_count t ≡ 1
single-one t e =
    let one : cut_off (own_count t * 1) ≡ 1 = eqb-true (cut_off (own_count t * 1)) 1 e in
    omega (arith, one)

-- neither side of a product with something below it is 0
right-some : (n a b : ℕ) → n < a * b → 0 < b
right-some n a zero h = absurd (omega (arith, h))
right-some n a (suc b) h = omega arith

left-some : (n a b : ℕ) → n < a * b → 0 < a
left-some n a b h = right-some n b a (subst (λ k. n < k) (mul_comm a b) h)

-- what leaves no choice has one cube
singles-one : (ts : List Term) → count_of (shared_of 0 ts) ≡ 1
singles-one [] = refl
singles-one (t ∷ ts) = by (is_single t) refl (singles-one ts)
  where
    by : (b : Bool) → is_single t ≡ b → count_of (shared_of 0 ts) ≡ 1 → count_of (if b then t ∷ shared_of 0 ts else shared_of 0 ts) ≡ 1
    by false e rest = rest
    by true e rest = ap (λ k. k * count_of (shared_of 0 ts)) (single-one t e) ∙ ap (λ k. 1 * k) rest

-- the cubes are as many for each choice
pub shared-count : (first : ℕ) (ts : List Term) → count_of ts ≡ count_of (shared_of first ts) * count_of (drop first ts)
shared-count zero [] = refl
shared-count (suc first) [] = refl
shared-count zero (t ∷ ts) = let e = singles-one (t ∷ ts) in sym (ap (λ k. k * count_of (t ∷ ts)) e ∙ omega arith)
shared-count (suc first) (t ∷ ts) =
    ap (λ k. own_count t * k) (shared-count first ts) ∙ sym (mul_assoc (own_count t) (count_of (shared_of first ts)) (count_of (drop first ts)))

module _ (P : Literal → Type 0) where
  abbrev pub Holds : List Term → ℕ → Type 0
  Holds ts n = AllByRecursion P (cube_at (tree_of ts) n)

  below : (n a c : ℕ) → n < a * c → n % c < c
  below n a c h = let p = right-some n a c h in omega arith

  singles-within : (ts : List Term) (n : ℕ) → n < count_of ts → Holds ts n → Holds (shared_of 0 ts) 0
  singles-within [] n lt h = tt
  singles-within (t ∷ ts) n lt h =
      let c = count_of ts in
      let both = first-part P (cube_at (formula (seen t) true) (n / c)) (cube_at (tree_of ts) (n % c)) h in
      by (is_single t) refl both.0 (singles-within ts (n % c) (below n (own_count t) c lt) both.1)
    where
      by : (b : Bool) → is_single t ≡ b → AllByRecursion P (cube_at (formula (seen t) true) (n / count_of ts)) → Holds (shared_of 0 ts) 0 → Holds (if b then t ∷ shared_of 0 ts else shared_of 0 ts) 0
      by false e own rest = rest
      by true e own rest =
          let u = count_of (shared_of 0 ts) in
          let k = ap (λ j. j * count_of ts) (single-one t e) in
          let low : n < count_of ts = omega (arith, lt, k) in
          let at : n / count_of ts ≡ 0 / u = div-eq_of_lt low ∙ sym (zero-div u) in
          AllByRecursion-append P (cube_at (formula (seen t) true) (0 / u)) (cube_at (tree_of (shared_of 0 ts)) (0 % u))
          (subst (λ k. AllByRecursion P (cube_at (formula (seen t) true) k)) at own)
          (subst (λ k. Holds (shared_of 0 ts) k) (sym (zero-mod u)) rest)

  -- what holds of the literals of a cube holds of those that it shares
  pub shared-within : (first : ℕ) (ts : List Term) (n : ℕ) → n < count_of ts → Holds ts n → Holds (shared_of first ts) (n / count_of (drop first ts))
  shared-within zero [] n lt h = tt
  shared-within (suc first) [] n lt h = tt
  shared-within zero (t ∷ ts) n lt h =
      subst (λ k. Holds (shared_of 0 (t ∷ ts)) k) (sym (div-eq_of_lt lt)) (singles-within (t ∷ ts) n lt h)
  shared-within (suc first) (t ∷ ts) n lt h =
      let c = count_of ts in
      let p = count_of (shared_of first ts) in
      let m = count_of (drop first ts) in
      let T = formula (seen t) true in
      let parts = first-part P (cube_at T (n / c)) (cube_at (tree_of ts) (n % c)) h in
      let split : c ≡ p * m = shared-count first ts in
      let low : n % c < c = below n (own_count t) c lt in
      let low' : n % c < p * m = subst (λ k. n % c < k) split low in
      let pm = right-some (n % c) p m low' in
      let pp = left-some (n % c) p m low' in
      let at : n / m / p ≡ n / c = div-div-eq-div-mul n m p ∙ ap (λ k. n / k) (mul_comm m p ∙ sym split) in
      let digits : n % c ≡ (n / m % p) * m + n % m = ap (λ k. n % k) split ∙ mod-mul n pp pm in
      let low'' : n % m < m = omega arith in
      let next : n % c / m ≡ n / m % p = ap (λ k. k / m) digits ∙ div-mul-add (n / m % p) m (n % m) low'' in
      AllByRecursion-append P (cube_at T (n / m / p)) (cube_at (tree_of (shared_of first ts)) (n / m % p))
      (subst (λ k. AllByRecursion P (cube_at T k)) (sym at) parts.0)
      (subst (λ k. Holds (shared_of first ts) k) next (shared-within first ts (n % c) low parts.1))

-- places in lists
pub all-at : {X : Type 0} (Q : X → Type 0) (xs : List X) → AllByRecursion Q xs → (k : ℕ) (x : X) → slice_get xs k ≡ Some x → Q x
all-at Q [] h k x e = cc
all-at Q (y ∷ ys) h zero x e = let same : y ≡ x = cc in subst Q same h.0
all-at Q (y ∷ ys) h (suc k) x e = all-at Q ys h.1 k x e

-- the first ones, and those behind some
all-taken : {X : Type 0} (Q : X → Type 0) (n : ℕ) (xs : List X) → ((k : ℕ) (x : X) → k < n → slice_get xs k ≡ Some x → Q x) → AllByRecursion Q (take n xs)
all-taken Q zero [] h = tt
all-taken Q zero (x ∷ xs) h = tt
all-taken Q (suc n) [] h = tt
all-taken Q (suc n) (x ∷ xs) h = (h zero x (omega arith) refl, all-taken Q n xs (λ k y lt e. h (suc k) y (omega (arith, lt)) e))

behind : {X : Type 0} (g : ℕ) (xs : List X) (k : ℕ) (x : X) → slice_get (drop g xs) k ≡ Some x → slice_get xs (g + k) ≡ Some x
behind zero xs k x e = let n : 0 + k ≡ k = omega arith in ap (slice_get xs) n ∙ e
behind (suc g) [] k x e = absurd (cc)
behind (suc g) (y ∷ ys) k x e = let n : suc g + k ≡ suc (g + k) = omega arith in ap (slice_get (y ∷ ys)) n ∙ behind g ys k x e

pub first-behind : {X : Type 0} (g : ℕ) (xs ys : List X) (x : X) → drop g xs ≡ x ∷ ys → slice_get xs g ≡ Some x
first-behind g xs ys x e = let n : g ≡ g + 0 = omega arith in ap (slice_get xs) n ∙ behind g xs 0 x (ap (λ l. slice_get l 0) e)

module _ (counted : CubesAreCounted) (picked : CubesArePicked) where
  -- the cube of a number
  numbered : (ts : List Term) (n : ℕ) (c : Cube) → slice_get (cubes_of ts) n ≡ Some c → (n < count_of ts) × (c.literals ≡ cube_at (tree_of ts) n)
  numbered ts n c e =
      let lt : n < count_of ts = subst (λ k. n < k) (counted ts) (slice_get_within (cubes_of ts) n c e) in
      let own : slice_get (cubes_of ts) n ≡ Some (cube (cube_at (tree_of ts) n)) = slice_get-mapped cube (cubes (tree_of ts)) n (cube_at (tree_of ts) n) (picked (tree_of ts) n lt) in
      let both : Some c ≡ Some (cube (cube_at (tree_of ts) n)) = sym e ∙ own in
      let same : c ≡ cube (cube_at (tree_of ts) n) = cc in
      (lt, ap (λ (d : Cube). d.literals) same)

  module _ (ts : List Term) (first given : ℕ) (f : Cube) (is : slice_get (cubes_of (shared_of first ts)) (given / count_of (drop first ts)) ≡ Some f) where
    abbrev pub m : ℕ
    m = count_of (drop first ts)

    abbrev pub q : ℕ
    q = given / m

    -- the literals of a cube of the block hold what those that are shared hold
    pub of-block : (P : Literal → Type 0) (n : ℕ) (c : Cube) → slice_get (cubes_of ts) n ≡ Some c → n / m ≡ q → AllByRecursion P c.literals → AllByRecursion P f.literals
    of-block P n c e at h =
        let own = numbered ts n c e in
        let shared = numbered (shared_of first ts) q f is in
        subst (AllByRecursion P) (sym shared.1)
        (subst (λ k. AllByRecursion P (cube_at (tree_of (shared_of first ts)) k)) at (shared-within P first ts n own.0 (subst (AllByRecursion P) own.1 h)))

    none-of : (n : ℕ) (c : Cube) → slice_get (cubes_of ts) n ≡ Some c → n / m ≡ q → CubeHasNoValues f → CubeHasNoValues c
    none-of n c e at none values t =
        none values record {
          worded = t.worded;
          valued = of-block (λ (l : Literal). IsTrue (is_valued values l.atom)) n c e at t.valued;
          holds = of-block (IsTrueLiteral values) n c e at t.holds;
        }

    -- the block goes on within the list
    block-end : 0 < m → q * m + m ≤ count_of ts
    block-end pos =
        let shared = numbered (shared_of first ts) q f is in
        let more : m * (q + 1) ≤ m * count_of (shared_of first ts) = mul-le-mul_left m (omega (arith, shared.0)) in
        let all : count_of ts ≡ m * count_of (shared_of first ts) = shared-count first ts ∙ mul_comm (count_of (shared_of first ts)) m in
        let here : m * (q + 1) ≡ q * m + m = mul_comm m (q + 1) ∙ omega arith in
        omega (arith, more, all, here)

    -- and some cube is one of the block
    pub some-of-block : 0 < m → (n : ℕ) × (c : Cube) × (slice_get (cubes_of ts) n ≡ Some c) × (n / m ≡ q)
    some-of-block pos =
        let low : given % m < m = omega arith in
        let sum : m * q + given % m ≡ given = div-add-mod given m in
        let turn : m * q ≡ q * m = mul_comm m q in
        let end = block-end pos in
        let inside : given < length (cubes_of ts) = subst (λ k. given < k) (sym (counted ts)) (omega (arith, low, sum, turn, end)) in
        let c = slice_get-some (cubes_of ts) given inside in
        (given, c.0, c.1, refl)

    pub known : (n batches : ℕ) → 0 < m → n ≡ batches * batch → given % m + n ≤ m → CubeHasNoValues f → AreKnown ts given n
    known n batches pos whole within none =
        let sum : m * q + given % m ≡ given = div-add-mod given m in
        let turn : m * q ≡ q * m = mul_comm m q in
        let end = block-end pos in
        let size : length (cubes_of ts) ≡ count_of ts = counted ts in
        let left = length-drop given (cubes_of ts) in record {
          batches = batches;
          whole = whole;
          enough = omega (arith, sum, turn, end, size, left, within);
          none = all-taken CubeHasNoValues n (drop given (cubes_of ts)) (λ k c lt e.
              let there : given + k ≡ q * m + (given % m + k) = omega (arith, sum, turn) in
              let at : (given + k) / m ≡ q = ap (λ j. j / m) there ∙ div-mul-add q m (given % m + k) (omega (arith, lt, within)) in
              none-of (given + k) c (behind given (cubes_of ts) k c e) at none);
        }

  -- the same, where the number of cubes of the block and the cube that is shared come as they were found
  module _ (ts : List Term) (first given block : ℕ) (f : Cube) (o : Option Cube) (pos : 0 < block) (size : block ≡ count_of (drop first ts)) (is : o ≡ Some f)
      (at : IfSome o (λ (c : Cube). slice_get (cubes_of (shared_of first ts)) (given / block) ≡ Some c)) where
    pub shared-at : slice_get (cubes_of (shared_of first ts)) (given / count_of (drop first ts)) ≡ Some f
    shared-at = subst (λ k. slice_get (cubes_of (shared_of first ts)) (given / k) ≡ Some f) size (subst (λ p. IfSome p (λ (c : Cube). slice_get (cubes_of (shared_of first ts)) (given / block) ≡ Some c)) is at)

    pub known-block : (n : ℕ) → (batches : ℕ) × (n ≡ batches * batch) → given % block + n ≤ block → CubeHasNoValues f → AreKnown ts given n
    known-block n whole within none =
        known ts first given f shared-at n whole.0 (subst (λ k. 0 < k) size pos) whole.1 (subst (λ k. given % k + n ≤ k) size within) none

pub known-none : (ts : List Term) (given : ℕ) → AreKnown ts given 0
known-none ts given = record { batches = 0; whole = refl; enough = omega arith; none = all-taken CubeHasNoValues 0 (drop given (cubes_of ts)) (λ k c lt e. absurd (omega (arith, lt))) }

-- the terms that are shared so far, and one more
pub shared-none : (first : ℕ) (ts : List Term) → [] ≡ shared_of first (take 0 ts)
shared-none zero [] = refl
shared-none zero (t ∷ ts) = refl
shared-none (suc first) [] = refl
shared-none (suc first) (t ∷ ts) = refl

abbrev pub if_shared : ℕ → ℕ → Term → List Term
if_shared at first t = if nat_lt at first || is_single t then t ∷ [] else []

alone : (t : Term) (b : Bool) → is_single t ≡ b → shared_of 0 (t ∷ []) ≡ (if b then t ∷ [] else [])
alone t b e = ap (λ x. if x then t ∷ [] else []) e

shared-kept : (first : ℕ) (ts : List Term) (at : ℕ) (t d : Term) → at < length ts → get_or ts at d ≡ t → (at < first) ⊎ (is_single t ≡ true) → shared_of first (take (at + 1) ts) ≡ shared_of first (take at ts) ++ t ∷ []
shared-kept first [] at t d lt e h = absurd (omega (arith, lt))
shared-kept zero (s ∷ ts) zero t d lt e (inl h) = absurd (omega (arith, h))
shared-kept zero (s ∷ ts) zero t d lt e (inr h) = subst (λ x. shared_of 0 (x ∷ []) ≡ t ∷ []) (sym e) (alone t true h)
shared-kept (suc first) (s ∷ ts) zero t d lt e h = ap (λ x. x ∷ []) e
shared-kept zero (s ∷ ts) (suc at) t d lt e h =
    let n : suc at + 1 ≡ suc (at + 1) = omega arith in
    ap (λ k. shared_of 0 (take k (s ∷ ts))) n
    ∙ by (is_single s) (shared-kept zero ts at t d (omega (arith, lt)) e (elim h [ inl l ↦ absurd (omega (arith, l)) | inr k ↦ inr k ]))
  where
    by : (b : Bool) → shared_of 0 (take (at + 1) ts) ≡ shared_of 0 (take at ts) ++ t ∷ []
        → (if b then s ∷ shared_of 0 (take (at + 1) ts) else shared_of 0 (take (at + 1) ts)) ≡ (if b then s ∷ shared_of 0 (take at ts) else shared_of 0 (take at ts)) ++ t ∷ []
    by true more = ap (λ l. s ∷ l) more
    by false more = more
shared-kept (suc first) (s ∷ ts) (suc at) t d lt e h =
    let n : suc at + 1 ≡ suc (at + 1) = omega arith in
    ap (λ k. shared_of (suc first) (take k (s ∷ ts))) n
    ∙ ap (λ l. s ∷ l) (shared-kept first ts at t d (omega (arith, lt)) e (elim h [ inl l ↦ inl (omega (arith, l)) | inr k ↦ inr k ]))

shared-left : (first : ℕ) (ts : List Term) (at : ℕ) (t d : Term) → at < length ts → get_or ts at d ≡ t → first ≤ at → is_single t ≡ false → shared_of first (take (at + 1) ts) ≡ shared_of first (take at ts)
shared-left first [] at t d lt e h k = absurd (omega (arith, lt))
shared-left zero (s ∷ ts) zero t d lt e h k = subst (λ x. shared_of 0 (x ∷ []) ≡ []) (sym e) (alone t false k)
shared-left (suc first) (s ∷ ts) zero t d lt e h k = absurd (omega (arith, h))
shared-left zero (s ∷ ts) (suc at) t d lt e h k =
    let n : suc at + 1 ≡ suc (at + 1) = omega arith in
    ap (λ j. shared_of 0 (take j (s ∷ ts))) n ∙ by (is_single s) (shared-left zero ts at t d (omega (arith, lt)) e (omega arith) k)
  where
    by : (b : Bool) → shared_of 0 (take (at + 1) ts) ≡ shared_of 0 (take at ts)
        → (if b then s ∷ shared_of 0 (take (at + 1) ts) else shared_of 0 (take (at + 1) ts)) ≡ (if b then s ∷ shared_of 0 (take at ts) else shared_of 0 (take at ts))
    by true more = ap (λ l. s ∷ l) more
    by false more = more
shared-left (suc first) (s ∷ ts) (suc at) t d lt e h k =
    let n : suc at + 1 ≡ suc (at + 1) = omega arith in
    ap (λ j. shared_of (suc first) (take j (s ∷ ts))) n ∙ ap (λ l. s ∷ l) (shared-left first ts at t d (omega (arith, lt)) e (omega (arith, h)) k)

pub shared-more : (first : ℕ) (ts : List Term) (at : ℕ) (t d : Term) → at < length ts → get_or ts at d ≡ t → shared_of first (take (at + 1) ts) ≡ shared_of first (take at ts) ++ if_shared at first t
shared-more first ts at t d lt e = by (nat_lt at first) refl (is_single t) refl
  where
    by : (a : Bool) → nat_lt at first ≡ a → (b : Bool) → is_single t ≡ b → shared_of first (take (at + 1) ts) ≡ shared_of first (take at ts) ++ (if a || b then t ∷ [] else [])
    by true h b k = shared-kept first ts at t d lt e (inl (ltb-true at first h))
    by false h true k = shared-kept first ts at t d lt e (inr k)
    by false h false k = shared-left first ts at t d lt e (ltb-false at first h) k ∙ sym (append-nil (shared_of first (take at ts)))

-- what holds of all holds of those that are shared
pub shared-each : (P : Term → Type 0) (first : ℕ) (ts : List Term) → AllByRecursion P ts → AllByRecursion P (shared_of first ts)
shared-each P zero [] h = tt
shared-each P (suc first) [] h = tt
shared-each P zero (t ∷ ts) h = by (is_single t) (shared-each P zero ts h.1)
  where
    by : (b : Bool) → AllByRecursion P (shared_of 0 ts) → AllByRecursion P (if b then t ∷ shared_of 0 ts else shared_of 0 ts)
    by true rest = (h.0, rest)
    by false rest = rest
shared-each P (suc first) (t ∷ ts) h = (h.0, shared-each P first ts h.1)

-- what the next cube says of those that are left
abbrev pub LeftBy : List Cube → List Cube → Option Cube → Type 0
LeftBy old new o = MatchOption o ((old ≡ []) × (new ≡ [])) (λ c. old ≡ c ∷ new)

-- the cube that stands behind those that are left out
pub next-one : (ts : List Term) (choice : ℕ) (o : Option Cube) (new : List Cube) → LeftBy (drop choice (cubes_of ts)) new o → IfSome o (λ (c : Cube). slice_get (cubes_of ts) choice ≡ Some c)
next-one ts choice None new h = tt
next-one ts choice (Some c) new h = first-behind choice (cubes_of ts) new c h

-- none are passed over
pub passes-none : (clear : List Term) (cubes : List Cube) (tally : CubeTally) → PassesCubes clear cubes cubes tally tally
passes-none clear cubes tally = record {
  cubes = 0;
  known = known-none clear tally.count;
  left = refl;
  tallied = λ opaque answers h. subst (λ l. IsTallyOf opaque l tally) (sym (append-nil answers)) h;
}

-- a block with a whole batch ahead, from what is known of the block and of what is ahead
module _ (ts : List Term) (given first block ahead : ℕ) (counted : 0 < block → block ≡ count_of (drop first ts)) where
  pub goes-on : block ≤ most_cubes → (batches : ℕ) × (ahead ≡ batches * batch) → ahead ≤ block → (0 < ahead → given % block + ahead ≤ block) → 0 < ahead → GoesOn ts given first
  goes-on low whole below within some =
      let is : block ≡ count_of (drop first ts) = counted (omega (arith, below, some)) in
      let enough : batch ≤ ahead = many whole.0 whole.1 in
      let here = within some in
      subst (λ n. (n ≤ most_cubes) × (given % n + batch ≤ n)) is (low, omega (arith, enough, here))
    where
      many : (batches : ℕ) → ahead ≡ batches * batch → batch ≤ ahead
      many zero e = absurd (omega (arith, e, some))
      many (suc n) e = omega (arith, e)

  pub stops : (count_of (drop first ts) ≤ most_cubes → block ≡ count_of (drop first ts)) → block < given % block + ahead + batch → ahead ≡ 0 → GoesOn ts given first → ⊥
  stops few most none on =
      let is = few on.0 in
      let here : given % block + batch ≤ block = subst (λ n. given % n + batch ≤ n) (sym is) on.1 in
      absurd (omega (arith, here, most, none))

-- no cube is left where as many are left out
pub none-left : (choice : ℕ) (o : Option Cube) (cubes new : List Cube) → LeftBy (drop choice cubes) new o → o ≡ None → choice < length cubes → ⊥
none-left choice None cubes new h e lt = let n = length-drop choice cubes in let z = ap length h.0 in omega (arith, n, z, lt)
none-left choice (Some c) cubes new h e lt = cc

-- cubes that hold an atom and its negation have no values
fewer-taken : (P Q : Cube → Type 0) → ((c : Cube) → P c → Q c) → (n m : ℕ) (xs : List Cube) → n ≤ m → AllByRecursion P (take m xs) → AllByRecursion Q (take n xs)
fewer-taken P Q f zero m [] l h = tt
fewer-taken P Q f zero m (x ∷ xs) l h = tt
fewer-taken P Q f (suc n) zero xs l h = absurd (omega (arith, l))
fewer-taken P Q f (suc n) (suc m) [] l h = tt
fewer-taken P Q f (suc n) (suc m) (x ∷ xs) l h = (f x h.0, fewer-taken P Q f n m xs (omega (arith, l)) h.1)

pub contradictory-none : ContradictionsAreFalse → (c : Cube) → IsContradictoryCube c → CubeHasNoValues c
contradictory-none law c h values t = law values c.literals h t.holds

pub contradictory-known : ContradictionsAreFalse → (ts : List Term) (given : ℕ) (cubes : List Cube) (found : ℕ) → found ≤ length cubes → AllByRecursion IsContradictoryCube (take found cubes) → cubes ≡ drop given (cubes_of ts) → AreKnown ts given (found / batch * batch)
contradictory-known law ts given cubes found within all e =
    let low : found / batch * batch ≤ found = omega arith in
    record {
      batches = found / batch;
      whole = refl;
      enough = subst (λ xs. found / batch * batch ≤ length xs) e (omega (arith, low, within));
      none = subst (λ xs. AllByRecursion CubeHasNoValues (take (found / batch * batch) xs)) e (fewer-taken IsContradictoryCube CubeHasNoValues (contradictory-none law) (found / batch * batch) found cubes low all);
    }
