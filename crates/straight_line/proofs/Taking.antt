-- Definitions that are put in order: each that comes next is free, and none is lost where there are as many.
use Rattle.std.proofs.Common.{◌≡◌, refl, sym, ap, ◌∙◌, subst, Bool, true, false, ◌||◌, ◌&&◌, not, ℕ, zero, suc, ◌+◌, ◌<◌, ◌≤◌, List, [], ◌∷◌, length, Some, None, cond, arith}
use Rattle.std.specs.Prelude.{nat_eq, if◌then◌else◌}
use Rattle.std.specs.List.{AllByRecursion, list_all}
use Rattle.std.proofs.lemmas.Bool.{eq-eqb}
use Rattle.sv_list.specs.Lists.{AllByRecursion-weaker}
use Rattle.flat_cubes.specs.Using.{is_defined, used}
use Rattle.flat_cubes.specs.Flattening.{TakenDefinition, behind, is_free, take_free, taken}
use Rattle.flat_cubes.specs.Straight.{InOrder, HasVariablesBelow}
use Rattle.flat_cubes.specs.declared.definition.Definition.{Definition}
use Rattle.straight_line.proofs.Traced.{passing}
use Rattle.straight_line.proofs.Picks.{next_of}

abbrev weight : Bool → ℕ → ℕ
weight b n = cond b (1 + n) n

weights : (a b : Bool) (n : ℕ) → weight a (weight b n) ≡ weight b (weight a n)
weights true true n = refl
weights true false n = refl
weights false true n = refl
weights false false n = refl

-- what was taken out and the others pass a test as often as all
module _ (p : Definition → Bool) where
  abbrev Counts : TakenDefinition → List Definition → Type 0
  Counts None ds = Unit {0}
  Counts (Some (d, rest)) ds = (length ds ≡ suc (length rest)) × (passing p ds ≡ weight (p d) (passing p rest))

  behind_counts : (d : Definition) (ds : List Definition) (o : TakenDefinition) → Counts o ds → Counts (behind d o) (d ∷ ds)
  behind_counts d ds None h = tt
  behind_counts d ds (Some (e, rest)) h = (ap suc h.0, ap (weight (p d)) h.1 ∙ weights (p d) (p e) (passing p rest))

  if_counts : (b : Bool) (d : Definition) (ds : List Definition) (o : TakenDefinition) → Counts o ds → Counts (if b then Some (d, ds) else behind d o) (d ∷ ds)
  if_counts true d ds o h = (refl, refl)
  if_counts false d ds o h = behind_counts d ds o h

  pub free_counts : (left ds : List Definition) → Counts (take_free left ds) ds
  free_counts left [] = tt
  free_counts left (d ∷ ds) = if_counts (is_free left d) d ds (take_free left ds) (free_counts left ds)

  none_left : (ds : List Definition) → 0 ≡ length ds → 0 ≡ passing p ds
  none_left [] e = refl
  none_left (d ∷ ds) e = absurd (omega arith)

  next_counts : (n : ℕ) (ds : List Definition) (o : TakenDefinition) → Counts o ds → ((es : List Definition) → length (taken n es) ≡ length es → passing p (taken n es) ≡ passing p es) → length (next_of n o) ≡ length ds → passing p (next_of n o) ≡ passing p ds
  next_counts n ds None h f e = none_left ds e
  next_counts n ds (Some (d, rest)) h f e = ap (weight (p d)) (f rest (let l = h.0 in omega arith)) ∙ sym h.1

  pub taken_counts : (n : ℕ) (ds : List Definition) → length (taken n ds) ≡ length ds → passing p (taken n ds) ≡ passing p ds
  taken_counts zero ds e = none_left ds e
  taken_counts (suc n) ds e = next_counts n ds (take_free ds ds) (free_counts ds ds) (λ es l. taken_counts n es l) e

-- what was taken out is free and had what all have, and the others have it
module _ (P : Definition → Type 0) (left : List Definition) where
  abbrev Fits : TakenDefinition → List Definition → Type 0
  Fits None ds = Unit {0}
  Fits (Some (d, rest)) ds = (is_free left d ≡ true) × (AllByRecursion P ds → P d × AllByRecursion P rest)

  behind_fits : (d : Definition) (ds : List Definition) (o : TakenDefinition) → Fits o ds → Fits (behind d o) (d ∷ ds)
  behind_fits d ds None h = tt
  behind_fits d ds (Some (e, rest)) h = (h.0, λ a. let r = h.1 a.1 in (r.0, (a.0, r.1)))

  if_fits : (b : Bool) (d : Definition) (ds : List Definition) (o : TakenDefinition) → is_free left d ≡ b → Fits o ds → Fits (if b then Some (d, ds) else behind d o) (d ∷ ds)
  if_fits true d ds o e h = (e, λ a. a)
  if_fits false d ds o e h = behind_fits d ds o h

  free_fits : (ds : List Definition) → Fits (take_free left ds) ds
  free_fits [] = tt
  free_fits (d ∷ ds) = if_fits (is_free left d) d ds (take_free left ds) refl (free_fits ds)

abbrev pub defines : ℕ → Definition → Bool
defines v e = nat_eq e.variable v

none_defined : (v : ℕ) (ds : List Definition) → passing (defines v) ds ≡ 0 → is_defined ds v ≡ false
none_defined v [] e = refl
none_defined v (d ∷ ds) e = by_test (nat_eq d.variable v) e (λ h. none_defined v ds h)
  where
    by_test : (b : Bool) → cond b (1 + passing (defines v) ds) (passing (defines v) ds) ≡ 0 → (passing (defines v) ds ≡ 0 → is_defined ds v ≡ false) → (b || is_defined ds v) ≡ false
    by_test true e f = absurd (omega arith)
    by_test false e f = f e

pub defined_none : (v : ℕ) (ds : List Definition) → is_defined ds v ≡ false → passing (defines v) ds ≡ 0
defined_none v [] e = refl
defined_none v (d ∷ ds) e = by_test (nat_eq d.variable v) e (λ h. defined_none v ds h)
  where
    by_test : (b : Bool) → (b || is_defined ds v) ≡ false → (is_defined ds v ≡ false → passing (defines v) ds ≡ 0) → cond b (1 + passing (defines v) ds) (passing (defines v) ds) ≡ 0
    by_test true e f = absurd (cc)
    by_test false e f = f e

-- a definition of a variable below n by others below n, at least one
abbrev pub IsSound : ℕ → Definition → Type 0
IsSound n d = HasVariablesBelow n d × (0 < length (used d.by))

free_of : (es : List Definition) (vs : List ℕ) → list_all (λ v. not (is_defined es v)) vs ≡ true → AllByRecursion (λ v. is_defined es v ≡ false) vs
free_of es [] e = tt
free_of es (v ∷ vs) e = by_test (is_defined es v) refl e (λ h. free_of es vs h)
  where
    by_test : (b : Bool) → is_defined es v ≡ b → (not b && list_all (λ v. not (is_defined es v)) vs) ≡ true → (list_all (λ v. not (is_defined es v)) vs ≡ true → AllByRecursion (λ v. is_defined es v ≡ false) vs) → (is_defined es v ≡ false) × AllByRecursion (λ v. is_defined es v ≡ false) vs
    by_test true q e f = absurd (cc)
    by_test false q e f = (q, f e)

module _ (n : ℕ) where
  abbrev Once : List Definition → Type 0
  Once es = (v : ℕ) → passing (defines v) es ≤ 1

  own_defines : (d : Definition) → defines d.variable d ≡ true
  own_defines d = eq-eqb d.variable d.variable refl

  less_once : (b : Bool) (m : ℕ) → weight b m ≤ 1 → m ≤ 1
  less_once true m l = omega arith
  less_once false m l = l

  step : (m : ℕ) (es : List Definition) (o : TakenDefinition) → ((v : ℕ) → Counts (defines v) o es) → Fits (IsSound n) es o es → ((fs : List Definition) → length (taken m fs) ≡ length fs → AllByRecursion (IsSound n) fs → Once fs → InOrder n (taken m fs)) → length (next_of m o) ≡ length es → AllByRecursion (IsSound n) es → Once es → InOrder n (next_of m o)
  step m es None c f rec e a once = tt
  step m es (Some (d, rest)) c f rec e a once =
      let r = f.1 a in
      let l = (c 0).0 in
      let whole : length (taken m rest) ≡ length rest = omega arith in
      let same : (v : ℕ) → passing (defines v) (d ∷ taken m rest) ≡ passing (defines v) es = λ v. ap (weight (defines v d)) (taken_counts (defines v) m rest whole) ∙ sym (c v).1 in
      let at_own : passing (defines d.variable) (taken m rest) ≡ 0 =
      let h = once d.variable in
      let g : passing (defines d.variable) es ≡ 1 + passing (defines d.variable) rest = (c d.variable).1 ∙ ap (λ b. weight b (passing (defines d.variable) rest)) (own_defines d) in
      let k = taken_counts (defines d.variable) m rest whole in
      omega arith in (
        record {
          defined = r.0.0.defined;
          once = none_defined d.variable (taken m rest) at_own;
          some = r.0.1;
          uses = r.0.0.uses;
          apart = AllByRecursion-weaker (λ v. is_defined es v ≡ false) (λ v. is_defined (d ∷ taken m rest) v ≡ false) (λ v h. none_defined v (d ∷ taken m rest) (same v ∙ defined_none v es h)) (used d.by) (free_of es (used d.by) f.0);
        },
        rec rest whole r.1 (λ v. less_once (defines v d) (passing (defines v) rest) (subst (λ k. k ≤ 1) (c v).1 (once v))),
      )

  pub taken_in_order : (m : ℕ) (es : List Definition) → length (taken m es) ≡ length es → AllByRecursion (IsSound n) es → Once es → InOrder n (taken m es)
  taken_in_order zero es e a once = tt
  taken_in_order (suc m) es e a once = step m es (take_free es es) (λ v. free_counts (defines v) es es) (free_fits (IsSound n) es es) (λ fs l b o. taken_in_order m fs l b o) e a once
