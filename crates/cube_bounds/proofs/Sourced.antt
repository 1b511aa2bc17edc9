-- The variables that no definition defines.
use Rattle.std.proofs.Common.{◌≡◌, refl, sym, ap, subst, Bool, true, false, not, ℕ, zero, suc, ◌+◌, ◌<◌, ◌≤◌, ◌⊎◌, inl, inr, List, [], ◌∷◌, length, cond, arith}
use Rattle.std.specs.Prelude.{filter}
use Rattle.std.specs.List.{AllByRecursion, Contains, range_with_len, sum_by}
use Rattle.std.proofs.lemmas.Bool.{cases_lt}
use Rattle.std.proofs.lemmas.List.Sums.{get_or-le-sum_by}
use Rattle.sv_list.specs.Lists.{Contains-there}
use Rattle.flat_cubes.specs.Using.{is_defined, used}
use Rattle.cube_bounds.specs.Bounds.{sources_of}
use Rattle.cube_bounds.specs.NumberLaws.{SourcesStand}
use Rattle.flat_cubes.specs.Straight.{AreBelow, InOrder}
use Rattle.flat_cubes.specs.declared.definition.Definition.{Definition}
use Rattle.flat_cubes.specs.declared.flat.Flat.{Flat}

-- a number of a range that passes a test is kept by the filter
kept : (p : ℕ → Bool) (k m v : ℕ) → k ≤ v → v < k + m → p v ≡ true → Contains (filter p (range_with_len k m)) v
kept p k zero v l h t = absurd (omega arith)
kept p k (suc m) v l h t = by_place (cases_lt k v) (λ g. kept p (k + 1) m v (omega arith) (omega arith) t)
  where
    with_first : (b : Bool) (rest : List ℕ) → Contains rest v → Contains (cond b (k ∷ rest) rest) v
    with_first true rest c = Contains-there k rest v c
    with_first false rest c = c

    by_place : (k < v) ⊎ (v ≤ k) → (k < v → Contains (filter p (range_with_len (k + 1) m)) v) → Contains (filter p (range_with_len k (suc m))) v
    by_place (inl g) r = with_first (p k) (filter p (range_with_len (k + 1) m)) (r g)
    by_place (inr g) r =
        let e : v ≡ k = omega arith in
        let s : p k ≡ true = subst (λ x. p x ≡ true) e t in
        subst (λ b. Contains (cond b (k ∷ filter p (range_with_len (k + 1) m)) (filter p (range_with_len (k + 1) m))) v) (sym s) (0, omega arith, sym e)

source_kept : (flat : Flat) (v : ℕ) → v < length flat.variables → is_defined flat.definitions v ≡ false → Contains (sources_of flat) v
source_kept flat v h f = kept (λ u. not (is_defined flat.definitions u)) 0 (length flat.variables) v (omega arith) (omega arith) (ap not f)

pub source_within : (flat : Flat) (f : ℕ → ℕ) (v : ℕ) → v < length flat.variables → is_defined flat.definitions v ≡ false → f v ≤ sum_by f (sources_of flat)
source_within flat f v h e =
    let c = source_kept flat v h e in
    subst (λ u. f u ≤ sum_by f (sources_of flat)) c.2 (get_or-le-sum_by f (sources_of flat) c.0 v c.1)

-- the first definition uses one
first_free : (n : ℕ) (vs : List ℕ) (ds : List Definition) → 0 < length vs → AreBelow n vs → AllByRecursion (λ v. is_defined ds v ≡ false) vs → (v : ℕ) × (v < n) × (is_defined ds v ≡ false)
first_free n [] ds s b a = absurd (omega arith)
first_free n (v ∷ vs) ds s b a = (v, b.0, a.0)

some_free : (n : ℕ) (ds : List Definition) → InOrder n ds → 0 < n → (v : ℕ) × (v < n) × (is_defined ds v ≡ false)
some_free n [] o h = (0, h, refl)
some_free n (d ∷ ds) o h = first_free n (used d.by) (d ∷ ds) o.0.some o.0.uses o.0.apart

some_variable : (n : ℕ) (rs : List ℕ) → AreBelow n rs → 0 < length rs → 0 < n
some_variable n [] b h = absurd (omega arith)
some_variable n (r ∷ rs) b h = (let l = b.0 in omega (arith, l))

pub stand : SourcesStand
stand flat s h =
    let n = some_variable (length flat.variables) flat.registers s.registers h in
    let k = some_free (length flat.variables) flat.definitions s.order n in
    let c = source_kept flat k.0 k.1 k.2 in
    let l = c.1 in
    omega (arith, l)
