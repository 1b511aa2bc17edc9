-- What the answers for cubes say of the verdict that they make.
use Rattle.std.proofs.Common.{◌≡◌, ℕ, zero, suc, ◌<◌, ◌≤◌, ◌+◌, List, [], ◌∷◌, map, Contains, Some, None, slice_get, slice_index, refl, ap, subst, arith}
use Rattle.std.specs.List.{AllZip}
use Rattle.std.specs.List.Sorted.{IsStrictlyIncreasing}
use Rattle.sv_list.specs.Lists.{Contains-here, Contains-there}
use Rattle.sv_terms.specs.Meaning.{Named}
use Rattle.sv_terms.specs.declared.term.Term.{Term}
use Rattle.literal_forms.specs.declared.literal.Cube.{Cube}
use Rattle.cube_search.specs.declared.answer.CubeAnswer.{CubeAnswer}
use Rattle.cube_search.specs.declared.answer.CubeAnswer.TheVariants as answer
use Rattle.cube_search.specs.declared.reason.OpenReason.{OpenReason}
use Rattle.cube_search.specs.declared.reason.OpenReason.TheVariants.{Fragment}
use Rattle.cube_search.specs.declared.reason.Shown.TheVariants.{Opaque}
use Rattle.sv_terms.specs.Truth.{AreValued, clear_of, opaque_of}
use Rattle.decide.specs.CubeValues.{CubeHasNoValues, AreTrueAtCube}
use Rattle.decide.specs.Folds.{first_sat, opens_from}
use Rattle.decide.proofs.Listed.{contains-cases, contains-none}
use Rattle.decide.specs.Causes.{IsCause}
use Rattle.decide.specs.Completeness.{MustDecideCube}
use Rattle.decide.specs.Jobs.{IsOutcome, IsSatOf}

module _ (terms : List Term) where
  -- the first model is that of some cube
  pub sat-at : (done : List Cube) (answers : List CubeAnswer) → AllZip (IsOutcome terms) done answers → (m : Named) → first_sat answers ≡ Some m
      → (k : ℕ) × (c : Cube) × (slice_get done k ≡ Some c) × IsSatOf terms c m
  sat-at [] [] z m e = cc
  sat-at [] (a ∷ bs) z m e = absurd z
  sat-at (c ∷ cs) [] z m e = cc
  sat-at (c ∷ cs) (answer.Sat n ∷ bs) z m e =
      let same : n ≡ m = cc in
      (zero, c, refl, subst (IsSatOf terms c) same z.0.right)
  sat-at (c ∷ cs) (answer.Unsat r ∷ bs) z m e = let s = sat-at cs bs z.1 m e in (suc s.0, s.1, s.2, s.3)
  sat-at (c ∷ cs) (answer.Open r ∷ bs) z m e = let s = sat-at cs bs z.1 m e in (suc s.0, s.1, s.2, s.3)

  -- where no assertion is opaque and no cube was found to have values: a cube that isn't open has none
  pub others-clear : (n : ℕ) (done : List Cube) (answers : List CubeAnswer) → AllZip (IsOutcome terms) done answers → first_sat answers ≡ None
      → (k : ℕ) (c : Cube) → slice_get done k ≡ Some c → (Contains (map (λ e. e.0) (opens_from n [] answers)) (n + k) → ⊥) → CubeHasNoValues c
  others-clear n [] answers z e k c g h = cc
  others-clear n (d ∷ ds) [] z e k c g h = absurd z
  others-clear n (d ∷ ds) (answer.Sat m ∷ bs) z e k c g h = cc
  others-clear n (d ∷ ds) (answer.Unsat r ∷ bs) z e zero c g h = let same : d ≡ c = cc in subst CubeHasNoValues same z.0.right
  others-clear n (d ∷ ds) (answer.Unsat r ∷ bs) z e (suc k) c g h =
      others-clear (suc n) ds bs z.1 e k c g (λ i. h (subst (Contains (map (λ e. e.0) (opens_from (suc n) [] bs))) (omega arith) i))
  others-clear n (d ∷ ds) (answer.Open r ∷ bs) z e zero c g h =
      absurd (h (subst (Contains (n ∷ map (λ e. e.0) (opens_from (suc n) [] bs))) (omega arith) (Contains-here n (map (λ e. e.0) (opens_from (suc n) [] bs)))))
  others-clear n (d ∷ ds) (answer.Open r ∷ bs) z e (suc k) c g h =
      others-clear (suc n) ds bs z.1 e k c g (λ i. h (subst (Contains (n ∷ map (λ e. e.0) (opens_from (suc n) [] bs))) (omega arith) (Contains-there n _ _ i)))

  -- where some assertion is opaque the cubes that were found to have values are listed too
  pub others-opaque : (t : Term) (ts : List Term) (n : ℕ) (done : List Cube) (answers : List CubeAnswer) → AllZip (IsOutcome terms) done answers
      → (k : ℕ) (c : Cube) → slice_get done k ≡ Some c → (Contains (map (λ e. e.0) (opens_from n (t ∷ ts) answers)) (n + k) → ⊥) → CubeHasNoValues c
  others-opaque t ts n [] answers z k c g h = cc
  others-opaque t ts n (d ∷ ds) [] z k c g h = absurd z
  others-opaque t ts n (d ∷ ds) (answer.Sat m ∷ bs) z zero c g h =
      absurd (h (subst (Contains (n ∷ map (λ e. e.0) (opens_from (suc n) (t ∷ ts) bs))) (omega arith) (Contains-here n (map (λ e. e.0) (opens_from (suc n) (t ∷ ts) bs)))))
  others-opaque t ts n (d ∷ ds) (answer.Sat m ∷ bs) z (suc k) c g h =
      others-opaque t ts (suc n) ds bs z.1 k c g (λ i. h (subst (Contains (n ∷ map (λ e. e.0) (opens_from (suc n) (t ∷ ts) bs))) (omega arith) (Contains-there n _ _ i)))
  others-opaque t ts n (d ∷ ds) (answer.Unsat r ∷ bs) z zero c g h = let same : d ≡ c = cc in subst CubeHasNoValues same z.0.right
  others-opaque t ts n (d ∷ ds) (answer.Unsat r ∷ bs) z (suc k) c g h =
      others-opaque t ts (suc n) ds bs z.1 k c g (λ i. h (subst (Contains (map (λ e. e.0) (opens_from (suc n) (t ∷ ts) bs))) (omega arith) i))
  others-opaque t ts n (d ∷ ds) (answer.Open r ∷ bs) z zero c g h =
      absurd (h (subst (Contains (n ∷ map (λ e. e.0) (opens_from (suc n) (t ∷ ts) bs))) (omega arith) (Contains-here n (map (λ e. e.0) (opens_from (suc n) (t ∷ ts) bs)))))
  others-opaque t ts n (d ∷ ds) (answer.Open r ∷ bs) z (suc k) c g h =
      others-opaque t ts (suc n) ds bs z.1 k c g (λ i. h (subst (Contains (n ∷ map (λ e. e.0) (opens_from (suc n) (t ∷ ts) bs))) (omega arith) (Contains-there n _ _ i)))

  abbrev HasCause : List Cube → ℕ → ℕ → OpenReason → Type 0
  HasCause done n k reason = (j : ℕ) × (c : Cube) × (k ≡ n + j) × (slice_get done j ≡ Some c) × IsCause terms c reason

  cause-later : (d : Cube) (done : List Cube) (n k : ℕ) (reason : OpenReason) → HasCause done (suc n) k reason → HasCause (d ∷ done) n k reason
  cause-later d done n k reason h = (suc h.0, h.1, omega (arith, h.2), h.3, h.4)

  cause-first : (d : Cube) (done : List Cube) (n : ℕ) (own : OpenReason) → IsCause terms d own → (k : ℕ) (reason : OpenReason) → ◌≡◌ {A = ℕ × OpenReason} (n, own) (k, reason) → HasCause (d ∷ done) n k reason
  cause-first d done n own h k reason e =
      let same : own ≡ reason = ap (λ (p : ℕ × OpenReason). p.1) e in
      let at : n ≡ k = ap (λ (p : ℕ × OpenReason). p.0) e in
      (zero, d, omega arith, refl, subst (IsCause terms d) same h)

  -- each listed cube has its reason
  pub causes : (opaque : List Term) → ((t : Term) (ts : List Term) → opaque ≡ t ∷ ts → Contains (opaque_of terms) t) → (n : ℕ) (done : List Cube) (answers : List CubeAnswer)
      → AllZip (IsOutcome terms) done answers → (k : ℕ) (reason : OpenReason) → Contains (opens_from n opaque answers) (k, reason) → HasCause done n k reason
  causes opaque own n [] [] z k reason h = contains-none _ (k, reason) h
  causes opaque own n [] (a ∷ bs) z k reason h = absurd z
  causes opaque own n (d ∷ ds) [] z k reason h = absurd z
  causes [] own n (d ∷ ds) (answer.Sat m ∷ bs) z k reason h = cause-later d ds n k reason (causes [] own (suc n) ds bs z.1 k reason h)
  causes (t ∷ ts) own n (d ∷ ds) (answer.Sat m ∷ bs) z k reason h =
      contains-cases _ (k, reason) (n, Fragment (Opaque t)) (opens_from (suc n) (t ∷ ts) bs) h
      (cause-first d ds n (Fragment (Opaque t)) (own t ts refl, (m, z.0.right.holds)) k reason)
      (λ i. cause-later d ds n k reason (causes (t ∷ ts) own (suc n) ds bs z.1 k reason i))
  causes opaque own n (d ∷ ds) (answer.Unsat r ∷ bs) z k reason h = cause-later d ds n k reason (causes opaque own (suc n) ds bs z.1 k reason h)
  causes opaque own n (d ∷ ds) (answer.Open r ∷ bs) z k reason h =
      contains-cases _ (k, reason) (n, r) (opens_from (suc n) opaque bs) h
      (cause-first d ds n r z.0.right k reason)
      (λ i. cause-later d ds n k reason (causes opaque own (suc n) ds bs z.1 k reason i))

  -- where each cube must be decided and no assertion is opaque, none is listed
  pub none-open : (n : ℕ) (done : List Cube) (answers : List CubeAnswer) → AllZip (IsOutcome terms) done answers
      → ((k : ℕ) (c : Cube) → slice_get done k ≡ Some c → MustDecideCube c) → opens_from n [] answers ≡ []
  none-open n [] [] z h = refl
  none-open n [] (a ∷ bs) z h = absurd z
  none-open n (d ∷ ds) [] z h = absurd z
  none-open n (d ∷ ds) (answer.Sat m ∷ bs) z h = none-open (suc n) ds bs z.1 (λ k c e. h (suc k) c e)
  none-open n (d ∷ ds) (answer.Unsat r ∷ bs) z h = none-open (suc n) ds bs z.1 (λ k c e. h (suc k) c e)
  none-open n (d ∷ ds) (answer.Open r ∷ bs) z h = absurd (z.0.decided (h zero d refl))

  -- where besides no cube has values, none is listed either, whatever is opaque, and none has a model
  pub none-open-at-all : (n : ℕ) (opaque : List Term) (done : List Cube) (answers : List CubeAnswer) → AllZip (IsOutcome terms) done answers
      → ((k : ℕ) (c : Cube) → slice_get done k ≡ Some c → MustDecideCube c) → ((m : Named) (k : ℕ) (c : Cube) → slice_get done k ≡ Some c → AreTrueAtCube m c → AreValued m (clear_of terms) → ⊥)
      → (opens_from n opaque answers ≡ []) × (first_sat answers ≡ None)
  none-open-at-all n opaque [] [] z h v = (refl, refl)
  none-open-at-all n opaque [] (a ∷ bs) z h v = absurd z
  none-open-at-all n opaque (d ∷ ds) [] z h v = absurd z
  none-open-at-all n opaque (d ∷ ds) (answer.Sat m ∷ bs) z h v = absurd (v m zero d refl z.0.right.holds z.0.right.just.valued)
  none-open-at-all n opaque (d ∷ ds) (answer.Unsat r ∷ bs) z h v = none-open-at-all (suc n) opaque ds bs z.1 (λ k c e. h (suc k) c e) (λ m k c e. v m (suc k) c e)
  none-open-at-all n opaque (d ∷ ds) (answer.Open r ∷ bs) z h v = absurd (z.0.decided (h zero d refl))

-- numbers that rise from n on
abbrev pub RiseFrom : ℕ → List ℕ → Type 0
RiseFrom n [] = Unit {0}
RiseFrom n (k ∷ ks) = (n ≤ k) × RiseFrom (suc k) ks

rise-later : (m n : ℕ) (ks : List ℕ) → m ≤ n → RiseFrom n ks → RiseFrom m ks
rise-later m n [] h r = tt
rise-later m n (k ∷ ks) h r = (omega (arith, r.0), r.1)

pub opens-rise : (n : ℕ) (opaque : List Term) (answers : List CubeAnswer) → RiseFrom n (map (λ e. e.0) (opens_from n opaque answers))
opens-rise n opaque [] = tt
opens-rise n [] (answer.Sat m ∷ bs) = rise-later n (suc n) _ (omega arith) (opens-rise (suc n) [] bs)
opens-rise n (t ∷ ts) (answer.Sat m ∷ bs) = (omega arith, opens-rise (suc n) (t ∷ ts) bs)
opens-rise n opaque (answer.Unsat r ∷ bs) = rise-later n (suc n) _ (omega arith) (opens-rise (suc n) opaque bs)
opens-rise n opaque (answer.Open r ∷ bs) = (omega arith, opens-rise (suc n) opaque bs)

pub rise-strictly : (n : ℕ) (ks : List ℕ) → RiseFrom n ks → IsStrictlyIncreasing ks
rise-strictly n [] r i lt = absurd (omega arith)
rise-strictly n (k ∷ []) r i lt = absurd (omega arith)
rise-strictly n (k ∷ j ∷ ks) r zero lt = omega (arith, r.1.0)
rise-strictly n (k ∷ j ∷ ks) r (suc i) lt =
    let at : suc (i + 1) ≡ suc i + 1 = omega arith in
    let rest = rise-strictly (suc k) (j ∷ ks) r.1 i (omega arith) in
    subst (λ x. slice_index (k ∷ j ∷ ks) (suc i) < slice_index (k ∷ j ∷ ks) x) at rest
