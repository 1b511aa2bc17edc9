-- One batch more.
use Rattle.std.proofs.Common.{◌≡◌, ◌≢◌, ℕ, zero, suc, ◌+◌, ◌^◌, ◌<◌, ◌≤◌, ◌⊎◌, Bool, true, false, ◌||◌, nat_lt, List, [], ◌∷◌, ◌++◌, length, map, take, drop, Option, Some, None, Result, Ok, IfOk, refl, sym, ap, ◌∙◌, subst, arith, length-append, append_assoc, inl, inr}
use Rattle.std.specs.List.{AllByRecursion, AllZip}
use Rattle.std.proofs.lemmas.List.{length-drop, take-append-drop}
use Rattle.std.proofs.Math.Seq.{drop-append_seam}
use Rattle.std.specs.declared.alloc.AllocError.{AllocError}
use Rattle.std.specs.Option.{is_some}
use Rattle.std.proofs.lemmas.Bool.{ltb-true, ltb-false}
use Rattle.sv_list.specs.Lists.{AllZip-append, AllZip-length}
use Rattle.sv_terms.specs.Meaning.{Named}
use Rattle.sv_terms.specs.declared.term.Term.{Term}
use Rattle.bool_cubes.specs.Cubes.{cubes_of}
use Rattle.bool_cubes.specs.Refusing.{most_numbered}
use Rattle.literal_forms.specs.declared.literal.Cube.{Cube}
use Rattle.cube_search.specs.declared.answer.CubeAnswer.{CubeAnswer}
use Rattle.sv_terms.specs.Truth.{opaque_of}
use Rattle.decide.specs.CubeValues.{CubeHasNoValues}
use Rattle.decide.specs.Folds.{found, with_first, without_sat}
use Rattle.decide.specs.Passing.{PassesCubes, passed}
use Rattle.decide.specs.Tallies.{IsTallyOf, IsTallyWith, batch, verdict_of}
use Rattle.decide.specs.declared.tally.CubeTally.{CubeTally}
use Rattle.decide.proofs.Sharing.{LeftBy}
use Rattle.decide.proofs.Tallying.{found-over, passed-length}
use Rattle.decide.specs.Jobs.{IsAskedCube, IsOutcome, IsFoldOf, IsUnderWay}
use Rattle.decide.specs.Batches.{AreJobsOf, Yields}

-- a job, as contracts see it
abbrev Job : Type 0
Job = List Term × Cube

-- a job for one cube more
pub one-more-job : (terms : List Term) (jobs : List Job) (job : Job) (cube : Cube) (old mid new : List Cube) → AreJobsOf terms jobs old mid → mid ≡ cube ∷ new → job.0 ≡ terms → job.1 ≡ cube → AreJobsOf terms (jobs ++ job ∷ []) old new
one-more-job terms [] job cube old mid new h e t c = subst (λ o. AreJobsOf terms (job ∷ []) o new) (sym (h ∙ e)) (t, c, refl)
one-more-job terms (j ∷ jobs) job cube [] mid new h e t c = absurd h
one-more-job terms (j ∷ jobs) job cube (d ∷ old) mid new h e t c = (h.0, h.1, one-more-job terms jobs job cube old mid new h.2 e t c)

pub is-none : (old new : List Cube) (o : Option Cube) → o ≡ None → LeftBy old new o → (old ≡ []) × (new ≡ [])
is-none old new o e h = subst (LeftBy old new) e h

pub is-some : (old new : List Cube) (o : Option Cube) (c : Cube) → o ≡ Some c → LeftBy old new o → old ≡ c ∷ new
is-some old new o c e h = subst (LeftBy old new) e h

-- the cubes of the jobs, with an answer for each
record AreAnswered (terms : List Term) (old new : List Cube) (answers : List CubeAnswer) : Type 0 where
  cubes : List Cube
  both : old ≡ cubes ++ new
  each : AllZip (IsOutcome terms) cubes answers

answered : (terms : List Term) (jobs : List Job) (outcomes : List (Result CubeAnswer AllocError)) (answers : List CubeAnswer) (old new : List Cube) → AreJobsOf terms jobs old new → AllZip Yields jobs outcomes → outcomes ≡ map Ok answers → AreAnswered terms old new answers
answered terms [] [] [] old new a z e = record { cubes = []; both = a; each = tt }
answered terms [] [] (x ∷ answers) old new a z e = absurd cc
answered terms [] (o ∷ outcomes) answers old new a z e = absurd z
answered terms (j ∷ jobs) [] answers old new a z e = absurd z
answered terms (j ∷ jobs) (o ∷ outcomes) [] old new a z e = absurd cc
answered terms (j ∷ jobs) (o ∷ outcomes) (x ∷ answers) [] new a z e = absurd a
answered terms (j ∷ jobs) (o ∷ outcomes) (x ∷ answers) (c ∷ old) new a z e =
    let is : o ≡ Ok x = cc in
    let rest : outcomes ≡ map Ok answers = cc in
    let r = answered terms jobs outcomes answers old new a.2 z.1 rest in
    let own : IsOutcome j.0 j.1 x = subst (λ q. IfOk q (IsOutcome j.0 j.1)) is z.0 in
    record { cubes = c ∷ r.cubes; both = ap (λ l. c ∷ l) r.both; each = (subst (λ d. IsOutcome terms d x) a.1 (subst (λ l. IsOutcome l j.1 x) a.0 own), r.each) }

pub jobs-length : (terms : List Term) (jobs : List Job) (old new : List Cube) → AreJobsOf terms jobs old new → length old ≡ length jobs + length new
jobs-length terms [] old new a = omega (arith, ap length a)
jobs-length terms (j ∷ jobs) [] new a = absurd a
jobs-length terms (j ∷ jobs) (c ∷ old) new a = omega (arith, jobs-length terms jobs old new a.2)

-- what is left may be asked, as all may
pub asked-left : (terms : List Term) (jobs : List Job) (old new : List Cube) → AreJobsOf terms jobs old new → AllByRecursion (IsAskedCube terms) old → AllByRecursion (IsAskedCube terms) new
asked-left terms [] old new a h = subst (AllByRecursion (IsAskedCube terms)) a h
asked-left terms (j ∷ jobs) [] new a h = absurd a
asked-left terms (j ∷ jobs) (c ∷ old) new a h = asked-left terms jobs old new a.2 h.1

pub start : (terms : List Term) (cubes : List Cube) (tally : CubeTally) → IsTallyOf (opaque_of terms) [] tally → IsUnderWay terms cubes cubes tally
start terms cubes tally t = record {
  done = [];
  answers = [];
  parts = refl;
  outcomes = tt;
  tallied = t;
  whole = record { batches = 0; whole = refl; goes_on = nothing (opaque_of terms) };
}
  where
    nothing : (opaque : List Term) → found opaque [] ≡ None
    nothing [] = refl
    nothing (t ∷ ts) = refl

-- the numbers that bound the tally
pub counted : (terms : List Term) (cubes left : List Cube) (tally : CubeTally) → IsUnderWay terms cubes left tally → tally.count + length left ≡ length cubes
counted terms cubes left tally u =
    let a = AllZip-length (IsOutcome terms) u.done u.answers u.outcomes in
    let b = ap length u.parts ∙ length-append u.done left in
    omega (arith, a, b, u.tallied.count)

module _ (terms : List Term) (cubes old new : List Cube) (jobs : List Job) (outcomes : List (Result CubeAnswer AllocError)) (before after : CubeTally) (u : IsUnderWay terms cubes old before)
    (taken : AreJobsOf terms jobs old new) (yielded : AllZip Yields jobs outcomes) (last : List CubeAnswer) (is : outcomes ≡ map Ok last)
    (more : IsTallyWith last before after) where
  pub as-many : length last ≡ length jobs
  as-many = let r = answered terms jobs outcomes last old new taken yielded is in
      omega (arith, AllZip-length (IsOutcome terms) r.cubes last r.each, jobs-length terms jobs old new taken, ap length r.both ∙ length-append r.cubes new)

  tallied : IsTallyOf (opaque_of terms) (u.answers ++ last) after
  tallied = more (opaque_of terms) u.answers u.tallied

  -- the search goes on
  step : length jobs ≡ batch → after.model ≡ None → IsUnderWay terms cubes new after
  step size none =
      let r = answered terms jobs outcomes last old new taken yielded is in record {
        done = u.done ++ r.cubes;
        answers = u.answers ++ last;
        parts = u.parts ∙ ap (λ l. u.done ++ l) r.both ∙ sym (append_assoc u.done r.cubes new);
        outcomes = AllZip-append (IsOutcome terms) u.done r.cubes u.answers last u.outcomes r.each;
        tallied = tallied;
        whole = record {
          batches = suc u.whole.batches;
          whole = length-append u.answers last ∙ (let n = as-many in omega (arith, u.whole.whole, n, size));
          goes_on = sym tallied.model ∙ none;
        };
      }

  -- the search ends
  finish : (length jobs ≡ batch) ⊎ ((new ≡ []) × (length jobs ≤ batch)) → (new ≡ []) ⊎ (after.model ≢ None) → IsFoldOf terms cubes (verdict_of after)
  finish size stops =
      let r = answered terms jobs outcomes last old new taken yielded is in record {
        done = u.done ++ r.cubes;
        left = new;
        answers = u.answers ++ last;
        parts = u.parts ∙ ap (λ l. u.done ++ l) r.both ∙ sym (append_assoc u.done r.cubes new);
        outcomes = AllZip-append (IsOutcome terms) u.done r.cubes u.answers last u.outcomes r.each;
        folded = λ i. with_first (tallied.model i) (without_sat (tallied.open_cubes i) (tallied.refuted i));
        ended = record {
          before = u.answers;
          last = last;
          both = refl;
          earlier = u.whole;
          size = elim size [ inl e ↦ inl (as-many ∙ e) | inr p ↦ inr (p.0, subst (λ n. n ≤ batch) (sym as-many) p.1) ];
          stops = elim stops [ inl e ↦ inl e | inr n ↦ inr (λ e. n (tallied.model ∙ e)) ];
        };
      }

-- a batch's answers leave the tally's number below 2^64
pub room : (terms : List Term) (cubes old new : List Cube) (jobs : List Job) (outcomes : List (Result CubeAnswer AllocError)) (tally : CubeTally) → IsUnderWay terms cubes old tally → AreJobsOf terms jobs old new → AllZip Yields jobs outcomes → length cubes ≤ most_numbered → tally.count + length outcomes < 2 ^ 64
room terms cubes old new jobs outcomes tally u taken yielded few =
    let a = counted terms cubes old tally u in
    let b = jobs-length terms jobs old new taken in
    let d = AllZip-length Yields jobs outcomes yielded in
    omega (arith, a, b, d, few)

-- where a whole batch was taken, fewer cubes are left
fewer : (terms : List Term) (jobs : List Job) (old new : List Cube) → AreJobsOf terms jobs old new → length jobs ≡ batch → length new < length old
fewer terms jobs old new taken size = let b = jobs-length terms jobs old new taken in omega (arith, b, size)

module _ (new : List Cube) (jobs : List Job) (size : (length jobs ≡ batch) ⊎ ((new ≡ []) × (length jobs ≤ batch))) where
  -- a short batch is the last
  no-more : length jobs < batch → new ≡ []
  no-more short = elim size [ inl e ↦ absurd (omega (arith, short, e)) | inr p ↦ p.0 ]

  -- and one that isn't short is whole
  whole-size : batch ≤ length jobs → length jobs ≡ batch
  whole-size long = elim size [ inl e ↦ e | inr p ↦ omega (arith, p.1, long) ]

  -- whether it goes on
  stops-of : (m : Option Named) → (nat_lt (length jobs) batch || is_some m) ≡ true → (new ≡ []) ⊎ (m ≢ None)
  stops-of m e = by (nat_lt (length jobs) batch) refl m e
    where
      by : (b : Bool) → nat_lt (length jobs) batch ≡ b → (m : Option Named) → (b || is_some m) ≡ true → (new ≡ []) ⊎ (m ≢ None)
      by true h m e = inl (no-more (ltb-true (length jobs) batch h))
      by false h None e = absurd cc
      by false h (Some x) e = inr (λ n. cc)

  goes-on : (m : Option Named) → (nat_lt (length jobs) batch || is_some m) ≡ false → (length jobs ≡ batch) × (m ≡ None)
  goes-on m e = by (nat_lt (length jobs) batch) refl m e
    where
      by : (b : Bool) → nat_lt (length jobs) batch ≡ b → (m : Option Named) → (b || is_some m) ≡ false → (length jobs ≡ batch) × (m ≡ None)
      by true h m e = absurd cc
      by false h None e = (whole-size (ltb-false (length jobs) batch h), refl)
      by false h (Some x) e = absurd cc

-- one turn of the search: a batch is taken, answered and put to the tally, which tells whether the search ends with it
module _ (terms : List Term) (cubes old new : List Cube) (jobs : List Job) (outcomes : List (Result CubeAnswer AllocError)) (before after : CubeTally) (u : IsUnderWay terms cubes old before)
    (taken : AreJobsOf terms jobs old new) (yielded : AllZip Yields jobs outcomes)
    (more : (last : List CubeAnswer) × (outcomes ≡ map Ok last) × IsTallyWith last before after)
    (size : (length jobs ≡ batch) ⊎ ((new ≡ []) × (length jobs ≤ batch))) (n : ℕ) (len : n ≡ length jobs) (ends : Bool) (told : ends ≡ (nat_lt n batch || is_some after.model)) where
  test : (nat_lt (length jobs) batch || is_some after.model) ≡ ends
  test = ap (λ k. nat_lt k batch || is_some after.model) (sym len) ∙ sym told

  pub ended : ends ≡ true → IsFoldOf terms cubes (verdict_of after)
  ended e = finish terms cubes old new jobs outcomes before after u taken yielded more.0 more.1 more.2 size (stops-of new jobs size after.model (test ∙ e))

  pub went-on : ends ≡ false → IsUnderWay terms cubes new after
  went-on e = let on = goes-on new jobs size after.model (test ∙ e) in step terms cubes old new jobs outcomes before after u taken yielded more.0 more.1 more.2 on.0 on.1

  pub fewer-left : ends ≡ false → length new < length old
  fewer-left e = let on = goes-on new jobs size after.model (test ∙ e) in fewer terms jobs old new taken on.0

all-dropped : {X : Type 0} (P : X → Type 0) (n : ℕ) (xs : List X) → AllByRecursion P xs → AllByRecursion P (drop n xs)
all-dropped P zero xs h = h
all-dropped P (suc n) [] h = tt
all-dropped P (suc n) (x ∷ xs) h = all-dropped P n xs h.1

-- cubes without values have an answer that no work makes
outcomes-over : (terms : List Term) (n : ℕ) (cubes : List Cube) → n ≤ length cubes → AllByRecursion CubeHasNoValues (take n cubes) → AllZip (IsOutcome terms) (take n cubes) (passed n)
outcomes-over terms zero [] h none = tt
outcomes-over terms zero (c ∷ cubes) h none = tt
outcomes-over terms (suc n) [] h none = absurd (omega (arith, h))
outcomes-over terms (suc n) (c ∷ cubes) h none = (record { right = none.0; decided = λ must. tt }, outcomes-over terms n cubes (omega (arith, h)) none.1)

module _ (terms clear : List Term) (cubes old : List Cube) (before : CubeTally) (u : IsUnderWay terms cubes old before) (is : cubes ≡ cubes_of clear) where
  -- those that are left stand behind those that were answered
  pub left-behind : drop before.count (cubes_of clear) ≡ old
  left-behind =
      let n : before.count ≡ length u.done = u.tallied.count ∙ sym (AllZip-length (IsOutcome terms) u.done u.answers u.outcomes) in
      (λ i. drop (n i) (sym is i)) ∙ ap (λ l. drop (length u.done) l) u.parts ∙ drop-append_seam u.done old

  pub pass-room : length cubes ≤ most_numbered → before.count + length (drop before.count (cubes_of clear)) < 2 ^ 64
  pass-room few = let a = counted terms cubes old before u in let b = ap length left-behind in omega (arith, a, b, few)

  -- the search goes on behind those that are passed over
  pub go-over : (new : List Cube) (after : CubeTally) → PassesCubes clear old new before after → IsUnderWay terms cubes new after
  go-over new after p =
      let n = p.cubes in
      let enough : n ≤ length old = subst (λ l. n ≤ length l) left-behind p.known.enough in
      let none : AllByRecursion CubeHasNoValues (take n old) = subst (λ l. AllByRecursion CubeHasNoValues (take n l)) left-behind p.known.none in record {
        done = u.done ++ take n old;
        answers = u.answers ++ passed n;
        parts = u.parts ∙ ap (λ l. u.done ++ l) (sym (take-append-drop n old) ∙ ap (λ l. take n old ++ l) (sym p.left)) ∙ sym (append_assoc u.done (take n old) new);
        outcomes = AllZip-append (IsOutcome terms) u.done (take n old) u.answers (passed n) u.outcomes (outcomes-over terms n old enough none);
        tallied = p.tallied (opaque_of terms) u.answers u.tallied;
        whole = record {
          batches = u.whole.batches + p.known.batches;
          whole = length-append u.answers (passed n) ∙ (let l = passed-length n in let w = u.whole.whole in let k = p.known.whole in omega (arith, l, w, k));
          goes_on = found-over (opaque_of terms) u.answers n ∙ u.whole.goes_on;
        };
      }

module _ (clear : List Term) (old : List Cube) (before : CubeTally) (new : List Cube) (after : CubeTally) (p : PassesCubes clear old new before after) where
  pub asked-over : (terms : List Term) → AllByRecursion (IsAskedCube terms) old → AllByRecursion (IsAskedCube terms) new
  asked-over terms h = subst (AllByRecursion (IsAskedCube terms)) (sym p.left) (all-dropped (IsAskedCube terms) p.cubes old h)

  pub no-more-over : length new ≤ length old
  no-more-over = let e = ap length p.left in let l = length-drop p.cubes old in omega (arith, e, l)
