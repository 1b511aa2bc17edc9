-- Powers and products cut off, and how many variables aren't defined.
use Rattle.std.proofs.Common.{◌≡◌, refl, sym, ap, ◌∙◌, subst, Bool, true, false, not, ◌||◌, ℕ, zero, suc, ◌+◌, ◌-◌, ◌*◌, ◌^◌, ◌<◌, ◌≤◌, ◌⊎◌, inl, inr, List, [], ◌∷◌, length, get_or, drop, cond, arith}
use Rattle.std.specs.Prelude.{filter, nat_eq}
use Rattle.std.specs.List.{range_with_len}
use Rattle.std.proofs.lemmas.Bool.{cases_lt, eq-eqb, ne_eqb}
use Rattle.std.proofs.Math.Nat.{pow-suc}
use Rattle.sv_terms.specs.CutOff.{cut_off, cut-product}
use Rattle.flat_cubes.specs.Using.{is_defined}
use Rattle.cube_bounds.specs.Bounds.{product_by, sources, splits_by}
use Rattle.flat_cubes.specs.Straight.{InOrder}
use Rattle.flat_cubes.specs.declared.definition.Definition.{Definition}
use Rattle.flat_cubes.specs.declared.flat.Flat.{Flat}
use Rattle.cube_bounds.proofs.Grown.{first_of}

pub power_more : (m n k p : ℕ) → n ≡ cut_off m → p ≡ cut_off (m ^ k) → cut_off (p * n) ≡ cut_off (m ^ (k + 1))
power_more m n k p e f =
    let s : m ^ suc k ≡ m ^ k * m = pow-suc m k in
    let u : k + 1 ≡ suc k = omega arith in
    (λ i. cut_off (f i * e i)) ∙ cut-product (m ^ k) m ∙ ap cut_off (sym s) ∙ ap (λ x. cut_off (m ^ x)) (sym u)

abbrev pub splits_of : List ℕ → Definition → ℕ
splits_of ms d = splits_by (get_or ms d.variable 1) d.by

pub splits_before : (ms : List ℕ) (ds : List Definition) (d : Definition) (i n m : ℕ) → 0 < i → i ≤ length ds → d ≡ get_or ds (i - 1) d → n ≡ cut_off (product_by (splits_of ms) (drop i ds)) → m ≡ cut_off (splits_of ms d) → cut_off (m * n) ≡ cut_off (product_by (splits_of ms) (drop (i - 1) ds))
splits_before ms ds d i n m o l e p q =
    (λ j. cut_off (q j * p j)) ∙ cut-product (splits_of ms d) (product_by (splits_of ms) (drop i ds)) ∙ ap (λ x. cut_off (product_by (splits_of ms) x)) (sym (first_of ds d i o l e))

-- the numbers of a range for which a test fails
abbrev failing : (ℕ → Bool) → ℕ → ℕ → ℕ
failing q k m = length (filter (λ v. not (q v)) (range_with_len k m))

abbrev more : ℕ → (ℕ → Bool) → ℕ → Bool
more u q v = nat_eq u v || q v

abbrev weight : Bool → ℕ → ℕ
weight b n = cond b (suc n) n

count_first : (q : ℕ → Bool) (k m : ℕ) → failing q k (suc m) ≡ weight (not (q k)) (failing q (k + 1) m)
count_first q k m = by_test (not (q k)) (filter (λ v. not (q v)) (range_with_len (k + 1) m))
  where
    by_test : (b : Bool) (rest : List ℕ) → length (cond b (k ∷ rest) rest) ≡ weight b (length rest)
    by_test true rest = refl
    by_test false rest = refl

same_behind : (u : ℕ) (q : ℕ → Bool) (k m : ℕ) → u < k → failing (more u q) k m ≡ failing q k m
same_behind u q k zero h = refl
same_behind u q k (suc m) h =
    let n = ne_eqb u k (λ e. omega arith) in
    count_first (more u q) k m ∙ (λ i. weight (not (n i || q k)) (same_behind u q (k + 1) m (omega arith) i)) ∙ sym (count_first q k m)

one_less : (u : ℕ) (q : ℕ → Bool) (k m : ℕ) → q u ≡ false → k ≤ u → u < k + m → suc (failing (more u q) k m) ≡ failing q k m
one_less u q k zero f h l = absurd (omega arith)
one_less u q k (suc m) f h l = by_place (cases_lt k u) (λ g. one_less u q (k + 1) m f (omega arith) (omega arith))
  where
    weight_more : (b : Bool) (x y : ℕ) → suc x ≡ y → suc (weight b x) ≡ weight b y
    weight_more true x y e = ap suc e
    weight_more false x y e = e

    by_place : (k < u) ⊎ (u ≤ k) → (k < u → suc (failing (more u q) (k + 1) m) ≡ failing q (k + 1) m) → suc (failing (more u q) k (suc m)) ≡ failing q k (suc m)
    by_place (inl g) r =
        let n = ne_eqb u k (λ e. omega arith) in
        ap suc (count_first (more u q) k m ∙ ap (λ b. weight (not (b || q k)) (failing (more u q) (k + 1) m)) n) ∙ weight_more (not (q k)) (failing (more u q) (k + 1) m) (failing q (k + 1) m) (r g) ∙ sym (count_first q k m)
    by_place (inr g) r =
        let e : u ≡ k = omega arith in
        let t : nat_eq u k ≡ true = eq-eqb u k e in
        let z : q k ≡ false = subst (λ x. q x ≡ false) e f in
        ap suc (count_first (more u q) k m ∙ ap (λ b. weight (not (b || q k)) (failing (more u q) (k + 1) m)) t ∙ same_behind u q (k + 1) m (omega arith))
        ∙ ap (λ b. weight (not b) (failing q (k + 1) m)) (sym z) ∙ sym (count_first q k m)

none_defined : (k m : ℕ) → failing (is_defined []) k m ≡ m
none_defined k zero = refl
none_defined k (suc m) = count_first (is_defined []) k m ∙ ap suc (none_defined (k + 1) m)

all_defined : (n : ℕ) (ds : List Definition) → InOrder n ds → failing (is_defined ds) 0 n + length ds ≡ n
all_defined n [] o = let e = none_defined 0 n in omega arith
all_defined n (d ∷ ds) o =
    let e : suc (failing (more d.variable (is_defined ds)) 0 n) ≡ failing (is_defined ds) 0 n = one_less d.variable (is_defined ds) 0 n o.0.once (omega arith) (let l = o.0.defined in omega arith) in
    let r = all_defined n ds o.1 in
    omega arith

pub sources_are : (flat : Flat) → InOrder (length flat.variables) flat.definitions → sources flat ≡ length flat.variables - length flat.definitions
sources_are flat o = let e = all_defined (length flat.variables) flat.definitions o in omega arith

pub sources_cut : (flat : Flat) (n : ℕ) → InOrder (length flat.variables) flat.definitions → n ≡ length flat.variables - length flat.definitions → n ≤ 18446744073709551615 → n ≡ cut_off (sources flat)
sources_cut flat n o e l = let s = sources_are flat o in omega arith
