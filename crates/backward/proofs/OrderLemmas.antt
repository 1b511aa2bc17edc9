-- Definitions in order: what stands behind one of them, and how often they use a variable.
use Rattle.std.proofs.Common.{◌≡◌, ℕ, zero, suc, ◌+◌, ◌*◌, ◌^◌, ◌||◌, nat_eq, cond, true, false, List, [], ◌∷◌, drop, Contains, Some, slice_get, refl, sym, ap, ◌∙◌, subst, arith, inl, inr, one-mul}
use Rattle.std.specs.List.{AllByRecursion, count_by, sum_by}
use Rattle.std.proofs.lemmas.Bool.{eq-eqb, ne_eqb, false≢true, or_parts, or_right}
use Rattle.std.proofs.lemmas.Bool.Decides.{eqb_tells}
use Rattle.std.proofs.lemmas.List.Sums.{sum_by-cons}
use Rattle.std.proofs.Math.Nat.{pow-zero}
use Rattle.sv_list.specs.Lists.{count_by-cons}
use Rattle.flat_cubes.specs.Using.{is_defined, used}
use Rattle.cube_bounds.specs.Bounds.{product_by, states_at, through_states}
use Rattle.cube_bounds.specs.NumberLaws.{factor}
use Rattle.flat_cubes.specs.Straight.{InOrder, StandsBefore}
use Rattle.flat_cubes.specs.declared.definition.Definition.{Definition}
use Rattle.flat_cubes.specs.declared.flat.Flat.{Flat}
use Rattle.backward.specs.Bounds.{sum_of}
use Rattle.backward.specs.Pieces.{occurrences}

-- what a definition in order keeps of those behind it
pub stands-at : (n : ℕ) (ds : List Definition) (at : ℕ) (d : Definition) → InOrder n ds → slice_get ds at ≡ Some d → StandsBefore n d (drop (suc at) ds)
stands-at n [] at d h e = cc
stands-at n (c ∷ ds) zero d h e = let same : c ≡ d = cc in subst (λ x. StandsBefore n x ds) same h.0
stands-at n (c ∷ ds) (suc at) d h e = stands-at n ds at d h.1 e

pub each-at : (P : ℕ → Type 0) (vs : List ℕ) → AllByRecursion P vs → (v : ℕ) → Contains vs v → P v
each-at P [] h v c = absurd (omega (arith, c.1))
each-at P (u ∷ vs) h v (zero, lt, e) = subst P e h.0
each-at P (u ∷ vs) h v (suc i, lt, e) = each-at P vs h.1 v (i, omega (arith, lt), e)

-- a definition isn't of a variable that isn't defined
pub not-of : (d : Definition) (ds : List Definition) (v : ℕ) → is_defined (d ∷ ds) v ≡ false → v ≡ d.variable → ⊥
not-of d ds v h e = let t = eq-eqb d.variable v (sym e) in let f = or_parts (nat_eq d.variable v) (is_defined ds v) h in false≢true (sym f.0 ∙ t)

-- one of the definitions defines its variable
pub defined-at : (ds : List Definition) (at : ℕ) (d : Definition) → slice_get ds at ≡ Some d → is_defined ds d.variable ≡ true
defined-at [] at d e = cc
defined-at (c ∷ ds) zero d e = let same : c ≡ d = cc in ap (λ (x : Definition). nat_eq x.variable d.variable || is_defined ds d.variable) same ∙ ap (λ b. b || is_defined ds d.variable) (eq-eqb d.variable d.variable refl)
defined-at (c ∷ ds) (suc at) d e = or_right (nat_eq c.variable d.variable) (is_defined ds d.variable) (defined-at ds at d e)

-- a variable that is defined isn't among those that aren't
count-none : (ds : List Definition) (v : ℕ) → is_defined ds v ≡ true → (us : List ℕ) → AllByRecursion (λ u. is_defined ds u ≡ false) us → count_by (nat_eq v) us ≡ 0
count-none ds v t [] h = refl
count-none ds v t (u ∷ us) h =
    let ne : v ≡ u → ⊥ = λ e. false≢true (sym h.0 ∙ sym (ap (is_defined ds) e) ∙ t) in
    let rest = count-none ds v t us h.1 in
    let c = count_by-cons v u us ∙ ap (λ b. cond b 1 0 + count_by (nat_eq v) us) (ne_eqb v u ne) in
    omega (arith, c, rest)

-- a definition that doesn't use a variable multiplies its states by 1
factor-one : (flat : Flat) (v : ℕ) (d : Definition) → count_by (nat_eq v) (used d.by) ≡ 0 → factor flat v d ≡ 1
factor-one flat v d h = ap (λ n. (through_states d.by * states_at flat d.variable) ^ n) h ∙ pow-zero (through_states d.by * states_at flat d.variable)

-- the definitions up to that of a variable don't use it
pub factors-behind : (flat : Flat) (n : ℕ) (ds : List Definition) (at : ℕ) (d : Definition) → InOrder n ds → slice_get ds at ≡ Some d
    → product_by (factor flat d.variable) ds ≡ product_by (factor flat d.variable) (drop (suc at) ds)
factors-behind flat n [] at d o e = cc
factors-behind flat n (c ∷ ds) zero d o e =
    let none = factor-one flat d.variable c (count-none (c ∷ ds) d.variable (defined-at (c ∷ ds) zero d e) (used c.by) o.0.apart) in
    ap (λ k. k * product_by (factor flat d.variable) ds) none ∙ one-mul (product_by (factor flat d.variable) ds)
factors-behind flat n (c ∷ ds) (suc at) d o e =
    let none = factor-one flat d.variable c (count-none (c ∷ ds) d.variable (defined-at (c ∷ ds) (suc at) d e) (used c.by) o.0.apart) in
    ap (λ k. k * product_by (factor flat d.variable) ds) none ∙ one-mul (product_by (factor flat d.variable) ds) ∙ factors-behind flat n ds at d o.1 e

-- both ways to count how often a variable stands among others, and both ways to add up
pub occurrences-count : (v : ℕ) (ps : List ℕ) → occurrences v ps ≡ count_by (nat_eq v) ps
occurrences-count v [] = refl
occurrences-count v (p ∷ ps) =
    let rest = occurrences-count v ps in
    elim (eqb_tells p v) [
      | inl is ↦
          let c = count_by-cons v p ps ∙ ap (λ b. cond b 1 0 + count_by (nat_eq v) ps) (eq-eqb v p (sym is.1)) in
          let last : suc (count_by (nat_eq v) ps) ≡ count_by (nat_eq v) (p ∷ ps) = omega (arith, c) in
          ap (λ b. cond b (suc (occurrences v ps)) (occurrences v ps)) is.0 ∙ ap suc rest ∙ last
      | inr off ↦
          let c = count_by-cons v p ps ∙ ap (λ b. cond b 1 0 + count_by (nat_eq v) ps) (ne_eqb v p (λ e. off.1 (sym e))) in
          let last : count_by (nat_eq v) ps ≡ count_by (nat_eq v) (p ∷ ps) = omega (arith, c) in
          ap (λ b. cond b (suc (occurrences v ps)) (occurrences v ps)) off.0 ∙ rest ∙ last
    ]

pub sum-same : (f : ℕ → ℕ) (ps : List ℕ) → sum_of f ps ≡ sum_by f ps
sum-same f [] = refl
sum-same f (p ∷ ps) = ap (λ n. f p + n) (sum-same f ps) ∙ sym (sum_by-cons f p ps)
