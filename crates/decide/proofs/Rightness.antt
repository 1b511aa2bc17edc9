-- The verdict that right answers for all cubes make is right, and complete.
use Rattle.std.proofs.Common.{◌≡◌, ◌≢◌, ℕ, zero, suc, ◌↔◌, ◌⊎◌, Bool, true, false, not, cond, List, [], ◌∷◌, ◌++◌, map, Contains, All, Option, Some, None, Result, Ok, Err, IfOk, slice_get, refl, sym, ap, ◌∙◌, subst, arith, append-nil, inl, inr}
use Rattle.std.specs.List.{AllByRecursion, AllZip}
use Rattle.std.proofs.lemmas.Bool.{true≢false}
use Rattle.std.specs.List.Sorted.{IsStrictlyIncreasing}
use Rattle.sv_list.specs.Lists.{Contains-here, slice_get-append}
use Rattle.sv_terms.specs.Meaning.{Named}
use Rattle.sv_terms.specs.Parts.{is_opaque}
use Rattle.sv_terms.specs.Truth.{AllTrue, AreTrueAt, AreValued, HasNoValues, clear_of, opaque_of}
use Rattle.sv_terms.specs.declared.term.Term.{Term}
use Rattle.bool_cubes.specs.Cubes.{CubeTrue, SomeCubeTrue, cubes_of}
use Rattle.literal_forms.specs.Literals.{SomeOf}
use Rattle.bool_cubes.specs.Laws.{IsValuedCube}
use Rattle.literal_forms.specs.declared.literal.Cube.{Cube}
use Rattle.cube_search.specs.declared.answer.CubeAnswer.{CubeAnswer}
use Rattle.cube_search.specs.declared.answer.Refutation.{Refutation}
use Rattle.cube_search.specs.declared.reason.OpenReason.{OpenReason}
use Rattle.assertion_parts.specs.Constants.{AreOnly}
use Rattle.decide.specs.CubeValues.{CubeHasNoValues, AreTrueAtCube}
use Rattle.decide.specs.Folds.{first_sat, opens_from, refuted_from, refutation, with_first, without_sat, found, fold}
use Rattle.decide.specs.declared.verdict.Verdict.{Verdict}
use Rattle.decide.specs.declared.verdict.Verdict.TheVariants.{Sat, Unsat, Unknown}
use Rattle.decide.specs.Completeness.{MustDecideCube, MustDecide, IsComplete, IsUnsat, IsUnknown}
use Rattle.decide.specs.Jobs.{IsOutcome, IsFoldOf, IsModelOfSomeCube, IsSatOf}
use Rattle.decide.specs.Verdicts.{RightVerdict, HasOnly}
use Rattle.decide.proofs.Folding.{sat-at, others-clear, others-opaque, causes, none-open, none-open-at-all, opens-rise, rise-strictly}

-- where no term is opaque all are clear
pub all-clear : (terms : List Term) → opaque_of terms ≡ [] → clear_of terms ≡ terms
all-clear [] e = refl
all-clear (t ∷ ts) e = by (is_opaque t) refl (all-clear ts)
  where
    by : (b : Bool) → is_opaque t ≡ b → (opaque_of ts ≡ [] → clear_of ts ≡ ts) → clear_of (t ∷ ts) ≡ t ∷ ts
    by true h rest = (let e' : t ∷ opaque_of ts ≡ [] = sym (ap (λ b. cond b (t ∷ opaque_of ts) (opaque_of ts)) h) ∙ e in cc)
    by false h rest =
        let e' : opaque_of ts ≡ [] = sym (ap (λ b. cond b (t ∷ opaque_of ts) (opaque_of ts)) h) ∙ e in
        ap (λ b. cond (not b) (t ∷ clear_of ts) (clear_of ts)) h ∙ ap (λ l. t ∷ l) (rest e')

-- the laws of the cubes of some terms
pub record AreLaws (terms : List Term) : Type 0 where
  pub valued : (values : Named) → AreValued values (clear_of terms) → AllByRecursion (IsValuedCube values) (cubes_of (clear_of terms))
  pub same : (values : Named) → AreValued values (clear_of terms) → AllTrue values (clear_of terms) ↔ SomeCubeTrue values (clear_of terms)

all-at : (P : Cube → Type 0) (xs : List Cube) → All P xs → (k : ℕ) (x : Cube) → slice_get xs k ≡ Some x → P x
all-at P [] h k x e = cc
all-at P (y ∷ ys) h zero x e = let same : y ≡ x = cc in subst P same (h zero y (omega arith))
all-at P (y ∷ ys) h (suc k) x e = all-at P ys (λ i d lt. h (suc i) d (omega arith)) k x e

-- the one of which something holds
some-at : (V P : Cube → Type 0) (xs : List Cube) → AllByRecursion V xs → SomeOf P xs → (k : ℕ) × (c : Cube) × (slice_get xs k ≡ Some c) × V c × P c
some-at V P [] v h = absurd h
some-at V P (x ∷ xs) v (inl p) = (zero, x, refl, v.0, p)
some-at V P (x ∷ xs) v (inr q) = let r = some-at V P xs v.1 q in (suc r.0, r.1, r.2, r.3, r.4)

at-some : (P : Cube → Type 0) (xs : List Cube) (k : ℕ) (x : Cube) → slice_get xs k ≡ Some x → P x → SomeOf P xs
at-some P [] k x e p = cc
at-some P (y ∷ ys) zero x e p = let same : x ≡ y = cc in inl (subst P same p)
at-some P (y ∷ ys) (suc k) x e p = inr (at-some P ys k x e p)

module _ (terms : List Term) (laws : AreLaws terms) where
  all-done : (opaque : List Term) (done left : List Cube) (answers : List CubeAnswer) → cubes_of (clear_of terms) ≡ done ++ left → (left ≡ []) ⊎ (found opaque answers ≢ None) → found opaque answers ≡ None → cubes_of (clear_of terms) ≡ done
  all-done opaque done left answers parts stops none = elim stops [
    | inl e ↦ parts ∙ ap (λ l. done ++ l) e ∙ append-nil done
    | inr some ↦ absurd (some none)
  ]

  -- values of the terms are values of some cube
  some-cube : (values : Named) → AreTrueAt values (clear_of terms) → (k : ℕ) × (c : Cube) × (slice_get (cubes_of (clear_of terms)) k ≡ Some c) × AreTrueAtCube values c
  some-cube values h =
      let a = some-at (IsValuedCube values) (CubeTrue values) (cubes_of (clear_of terms)) (laws.valued values h.valued) ((laws.same values h.valued).0 h.holds) in
      (a.0, a.1, a.2, record { worded = h.worded; valued = a.3; holds = a.4 })

  -- and values of a cube are values of the terms
  of-cube : (values : Named) (k : ℕ) (c : Cube) → slice_get (cubes_of (clear_of terms)) k ≡ Some c → AreTrueAtCube values c → AreValued values (clear_of terms) → AreTrueAt values (clear_of terms)
  of-cube values k c g h v = record { worded = h.worded; valued = v; holds = (laws.same values v).1 (at-some (CubeTrue values) (cubes_of (clear_of terms)) k c g h.holds) }

  none-of-all : ((k : ℕ) (c : Cube) → slice_get (cubes_of (clear_of terms)) k ≡ Some c → CubeHasNoValues c) → HasNoValues (clear_of terms)
  none-of-all h values t = let s = some-cube values t in h s.0 s.1 s.2 values s.3

  first-opaque : (t : Term) (ts : List Term) → opaque_of terms ≡ t ∷ ts → Contains (opaque_of terms) t
  first-opaque t ts e = subst (λ l. Contains l t) (sym e) (Contains-here t ts)

  pub right-sat : (done left : List Cube) (answers : List CubeAnswer) (m : Named) → cubes_of (clear_of terms) ≡ done ++ left → AllZip (IsOutcome terms) done answers
      → opaque_of terms ≡ [] → first_sat answers ≡ Some m → RightVerdict terms (Sat m)
  right-sat done left answers m parts z none e =
      let s = sat-at terms done answers z m e in
      let at = subst (λ l. slice_get l s.0 ≡ Some s.1) (sym parts) (slice_get-append done left s.0 s.1 s.2) in
      (none, subst (AreTrueAt m) (all-clear terms none) (of-cube m s.0 s.1 at s.3.holds s.3.just.valued))

  pub right-rest : (opaque : List Term) (answers : List CubeAnswer) → opaque_of terms ≡ opaque → AllZip (IsOutcome terms) (cubes_of (clear_of terms)) answers
      → ((k : ℕ) (c : Cube) → slice_get (cubes_of (clear_of terms)) k ≡ Some c → (Contains (map (λ e. e.0) (opens_from 0 opaque answers)) k → ⊥) → CubeHasNoValues c)
      → RightVerdict terms (without_sat (opens_from 0 opaque answers) (refuted_from (refutation 0 0 0) answers))
  right-rest opaque answers is z others = by (opens_from 0 opaque answers) refl
    where
      by : (list : List (ℕ × OpenReason)) → opens_from 0 opaque answers ≡ list → RightVerdict terms (without_sat list (refuted_from (refutation 0 0 0) answers))
      by [] e = none-of-all (λ k c g. others k c g (λ i. absurd (let n : Contains [] k = subst (λ l. Contains (map (λ e. e.0) l) k) e i in omega (arith, n.1))))
      by (o ∷ os) e = record {
        some = λ n. cc;
        rise = subst (λ l. IsStrictlyIncreasing (map (λ e. e.0) l)) e (rise-strictly 0 (map (λ e. e.0) (opens_from 0 opaque answers)) (opens-rise 0 opaque answers));
        causes = λ k reason i.
            let c = causes terms opaque (λ t ts h. subst (λ l. Contains l t) refl (first-opaque t ts (is ∙ h))) 0 (cubes_of (clear_of terms)) answers z k reason (subst (λ l. Contains l (k, reason)) (sym e) i) in
            (c.1, subst (λ j. slice_get (cubes_of (clear_of terms)) j ≡ Some c.1) (omega (arith, c.2)) c.3, c.4);
        others = λ k c g i. others k c g (λ h. i (subst (λ l. Contains (map (λ e. e.0) l) k) e h));
      }

  pub right-fold : (opaque : List Term) (done left : List Cube) (answers : List CubeAnswer) (v : Verdict) → opaque_of terms ≡ opaque → cubes_of (clear_of terms) ≡ done ++ left
      → AllZip (IsOutcome terms) done answers → v ≡ fold opaque answers → (left ≡ []) ⊎ (found opaque answers ≢ None) → RightVerdict terms v
  right-fold [] done left answers v is parts z e ended = by (first_sat answers) refl
    where
      by : (o : Option Named) → first_sat answers ≡ o → RightVerdict terms v
      by (Some m) h = subst (RightVerdict terms) (sym (e ∙ ap (λ o. with_first o (without_sat (opens_from 0 [] answers) (refuted_from (refutation 0 0 0) answers))) h)) (right-sat done left answers m parts z is h)
      by None h =
          let whole : v ≡ without_sat (opens_from 0 [] answers) (refuted_from (refutation 0 0 0) answers) = e ∙ ap (λ o. with_first o (without_sat (opens_from 0 [] answers) (refuted_from (refutation 0 0 0) answers))) h in
          let all = all-done [] done left answers parts ended h in
          let z' = subst (λ l. AllZip (IsOutcome terms) l answers) (sym all) z in
          subst (RightVerdict terms) (sym whole) (right-rest [] answers is z' (λ k c g i. others-clear terms 0 (cubes_of (clear_of terms)) answers z' h k c g (λ j. i (subst (Contains (map (λ e. e.0) (opens_from 0 [] answers))) (omega arith) j))))
  right-fold (t ∷ ts) done left answers v is parts z e ended =
      let all = all-done (t ∷ ts) done left answers parts ended refl in
      let z' = subst (λ l. AllZip (IsOutcome terms) l answers) (sym all) z in
      subst (RightVerdict terms) (sym e) (right-rest (t ∷ ts) answers is z' (λ k c g i. others-opaque terms t ts 0 (cubes_of (clear_of terms)) answers z' k c g (λ j. i (subst (Contains (map (λ e. e.0) (opens_from 0 (t ∷ ts) answers))) (omega arith) j))))

  pub complete-fold : (opaque : List Term) (done left : List Cube) (answers : List CubeAnswer) (v : Verdict) → opaque_of terms ≡ opaque → cubes_of (clear_of terms) ≡ done ++ left
      → AllZip (IsOutcome terms) done answers → v ≡ fold opaque answers → MustDecide terms → IsComplete terms v
  complete-fold opaque done left answers v is parts z e must = record {
    decided = λ none. no-unknown opaque (sym is ∙ none) e;
    unsat = λ none.
        let c = none-open-at-all terms 0 opaque done answers z each (λ m k c g t w. none m (of-cube m k c (there k c g) t w)) in
        subst IsUnsat (sym (e ∙ folded opaque c.0 c.1)) tt;
  }
    where
      there : (k : ℕ) (c : Cube) → slice_get done k ≡ Some c → slice_get (cubes_of (clear_of terms)) k ≡ Some c
      there k c g = subst (λ l. slice_get l k ≡ Some c) (sym parts) (slice_get-append done left k c g)

      each : (k : ℕ) (c : Cube) → slice_get done k ≡ Some c → MustDecideCube c
      each k c g = all-at MustDecideCube (cubes_of (clear_of terms)) must.each k c (there k c g)

      folded : (opaque : List Term) → opens_from 0 opaque answers ≡ [] → first_sat answers ≡ None → fold opaque answers ≡ Unsat (refuted_from (refutation 0 0 0) answers)
      folded [] o f = ap (λ x. with_first x (without_sat (opens_from 0 [] answers) (refuted_from (refutation 0 0 0) answers))) f ∙ ap (λ l. without_sat l (refuted_from (refutation 0 0 0) answers)) o
      folded (t ∷ ts) o f = ap (λ l. without_sat l (refuted_from (refutation 0 0 0) answers)) o

      known : (x : Option Named) (r : Refutation) → IsUnknown (with_first x (Unsat r)) → ⊥
      known None r h = h
      known (Some m) r h = h

      no-unknown : (opaque : List Term) → opaque ≡ [] → v ≡ fold opaque answers → IsUnknown v → ⊥
      no-unknown [] n e u =
          let o = none-open terms 0 done answers z each in
          known (first_sat answers) (refuted_from (refutation 0 0 0) answers)
          (subst IsUnknown (e ∙ ap (λ l. with_first (first_sat answers) (without_sat l (refuted_from (refutation 0 0 0) answers))) o) u)
      no-unknown (t ∷ ts) n e u = cc

  -- what a fold of answers for the cubes is
  pub right-of : (v : Verdict) → IsFoldOf terms (cubes_of (clear_of terms)) v → RightVerdict terms v
  right-of v f = right-fold (opaque_of terms) f.done f.left f.answers v refl f.parts f.outcomes f.folded f.ended.stops

  pub complete-of : (v : Verdict) → MustDecide terms → IsFoldOf terms (cubes_of (clear_of terms)) v → IsComplete terms v
  complete-of v must f = complete-fold (opaque_of terms) f.done f.left f.answers v refl f.parts f.outcomes f.folded must

-- a model of a fold has values for the constants of the terms alone
has-model : Verdict → Bool
has-model (Sat values) = true
has-model (Unsat r) = false
has-model (Unknown why) = false

without-model : (list : List (ℕ × OpenReason)) (r : Refutation) → has-model (without_sat list r) ≡ false
unfolding has-model
without-model [] r = refl
without-model (o ∷ os) r = refl

no-model : (m : Named) (list : List (ℕ × OpenReason)) (r : Refutation) → Sat m ≡ without_sat list r → ⊥
unfolding has-model
no-model m list r e = true≢false (ap has-model e ∙ without-model list r)

model-is : (m : Named) (o : Option Named) (list : List (ℕ × OpenReason)) (r : Refutation) → Sat m ≡ with_first o (without_sat list r) → o ≡ Some m
model-is m None list r e = absurd (no-model m list r e)
model-is m (Some n) list r e = cc

-- a model of a fold is one of some cube, and then no term is opaque
pub sat-of : (terms : List Term) (m : Named) → IsFoldOf terms (cubes_of (clear_of terms)) (Sat m) → (k : ℕ) × (c : Cube) × (slice_get (cubes_of (clear_of terms)) k ≡ Some c) × IsSatOf terms c m × (opaque_of terms ≡ [])
sat-of terms m f = by (opaque_of terms) refl f.folded
  where
    by : (opaque : List Term) → opaque_of terms ≡ opaque → Sat m ≡ fold opaque f.answers → (k : ℕ) × (c : Cube) × (slice_get (cubes_of (clear_of terms)) k ≡ Some c) × IsSatOf terms c m × (opaque_of terms ≡ [])
    by [] none e =
        let s = sat-at terms f.done f.answers f.outcomes m (model-is m (first_sat f.answers) (opens_from 0 [] f.answers) (refuted_from (refutation 0 0 0) f.answers) e) in
        (s.0, s.1, subst (λ l. slice_get l s.0 ≡ Some s.1) (sym f.parts) (slice_get-append f.done f.left s.0 s.1 s.2), s.3, none)
    by (t ∷ ts) some e = absurd (no-model m (opens_from 0 (t ∷ ts) f.answers) (refuted_from (refutation 0 0 0) f.answers) e)

pub only-of : (terms : List Term) (v : Verdict) → IsFoldOf terms (cubes_of (clear_of terms)) v → HasOnly terms v
only-of terms (Unsat r) f = tt
only-of terms (Unknown why) f = tt
only-of terms (Sat m) f = let s = sat-of terms m f in subst (AreOnly m) (all-clear terms s.4) s.3.just.only

pub some-cube-of : (terms : List Term) (m : Named) → IsFoldOf terms (cubes_of (clear_of terms)) (Sat m) → IsModelOfSomeCube terms m
some-cube-of terms m f = let s = sat-of terms m f in (s.0, s.1, s.2, s.3.within)

pub when-fold : {E : Type 0} (P : Verdict → Type 0) (terms : List Term) (cubes : List Cube) (r : Result Verdict E) → cubes ≡ cubes_of (clear_of terms) → ((v : Verdict) → IsFoldOf terms (cubes_of (clear_of terms)) v → P v) → IfOk r (IsFoldOf terms cubes) → IfOk r P
when-fold P terms cubes (Ok v) e f h = f v (subst (λ l. IsFoldOf terms l v) e h)
when-fold P terms cubes (Err x) e f h = h
