-- The tally of one answer more.
use Rattle.std.proofs.Common.{◌≡◌, ℕ, zero, suc, ◌+◌, List, [], ◌∷◌, ◌++◌, length, map, Option, Some, None, Result, Ok, refl, sym, ap, ◌∙◌, subst, arith, length-append, append-nil, append_assoc}
use Rattle.std.proofs.lemmas.List.{map-append}
use Rattle.std.specs.declared.alloc.AllocError.{AllocError}
use Rattle.sv_terms.specs.CutOff.{cut_off}
use Rattle.sv_terms.specs.Meaning.{Named}
use Rattle.sv_terms.specs.declared.term.Term.{Term}
use Rattle.assertion_parts.specs.Firsts.{first_of}
use Rattle.cube_search.specs.declared.answer.CubeAnswer.{CubeAnswer}
use Rattle.cube_search.specs.declared.answer.CubeAnswer.TheVariants as answer
use Rattle.cube_search.specs.declared.answer.Refutation.{Refutation}
use Rattle.cube_search.specs.declared.reason.OpenReason.{OpenReason}
use Rattle.cube_search.specs.declared.reason.OpenReason.TheVariants.{Fragment}
use Rattle.cube_search.specs.declared.reason.Shown.TheVariants.{Opaque}
use Rattle.decide.specs.Folds.{first_sat, opens_from, refuted_from, refutation, add, found, or_else}
use Rattle.decide.specs.Passing.{passed}
use Rattle.decide.specs.Tallies.{IsTallyOf}
use Rattle.decide.specs.declared.tally.CubeTally.{CubeTally}

opens-behind : (k : ℕ) (opaque : List Term) (xs : List CubeAnswer) (a : CubeAnswer) → opens_from k opaque (xs ++ a ∷ []) ≡ opens_from k opaque xs ++ opens_from (k + length xs) opaque (a ∷ [])
opens-behind k opaque [] a = ap (λ n. opens_from n opaque (a ∷ [])) (omega arith)
opens-behind k [] (answer.Sat m ∷ xs) a = opens-behind (suc k) [] xs a ∙ ap (λ n. opens_from (suc k) [] xs ++ opens_from n [] (a ∷ [])) (omega arith)
opens-behind k (t ∷ ts) (answer.Sat m ∷ xs) a =
    ap (λ l. (k, Fragment (Opaque t)) ∷ l) (opens-behind (suc k) (t ∷ ts) xs a ∙ ap (λ n. opens_from (suc k) (t ∷ ts) xs ++ opens_from n (t ∷ ts) (a ∷ [])) (omega arith))
opens-behind k opaque (answer.Unsat r ∷ xs) a = opens-behind (suc k) opaque xs a ∙ ap (λ n. opens_from (suc k) opaque xs ++ opens_from n opaque (a ∷ [])) (omega arith)
opens-behind k opaque (answer.Open r ∷ xs) a =
    ap (λ l. (k, r) ∷ l) (opens-behind (suc k) opaque xs a ∙ ap (λ n. opens_from (suc k) opaque xs ++ opens_from n opaque (a ∷ [])) (omega arith))

refuted-behind : (r : Refutation) (xs : List CubeAnswer) (a : CubeAnswer) → refuted_from r (xs ++ a ∷ []) ≡ refuted_from (refuted_from r xs) (a ∷ [])
refuted-behind r [] a = refl
refuted-behind r (answer.Sat m ∷ xs) a = refuted-behind r xs a
refuted-behind r (answer.Unsat s ∷ xs) a = refuted-behind (add r s) xs a
refuted-behind r (answer.Open s ∷ xs) a = refuted-behind r xs a

none-behind : {X : Type 0} (o : Option X) → or_else o None ≡ o
none-behind None = refl
none-behind (Some x) = refl

sat-behind : (xs : List CubeAnswer) (a : CubeAnswer) → first_sat (xs ++ a ∷ []) ≡ or_else (first_sat xs) (first_sat (a ∷ []))
sat-behind [] a = refl
sat-behind (answer.Sat m ∷ xs) a = refl
sat-behind (answer.Unsat s ∷ xs) a = sat-behind xs a
sat-behind (answer.Open s ∷ xs) a = sat-behind xs a

pub found-behind : (opaque : List Term) (xs : List CubeAnswer) (a : CubeAnswer) → found opaque (xs ++ a ∷ []) ≡ or_else (found opaque xs) (found opaque (a ∷ []))
found-behind [] xs a = sat-behind xs a
found-behind (t ∷ ts) xs a = refl

-- what one answer adds to a tally
pub record Adds (opaque : List Term) (next : CubeAnswer) (old new : CubeTally) : Type 0 where
  pub first : new.opaque ≡ old.opaque
  pub count : new.count ≡ old.count + 1
  pub model : new.model ≡ or_else old.model (found opaque (next ∷ []))
  pub list : new.open_cubes ≡ old.open_cubes ++ opens_from old.count opaque (next ∷ [])
  pub closed : new.refuted ≡ refuted_from old.refuted (next ∷ [])

pub one-more : (opaque : List Term) (before : List CubeAnswer) (next : CubeAnswer) (old new : CubeTally) → Adds opaque next old new → IsTallyOf opaque before old → IsTallyOf opaque (before ++ next ∷ []) new
one-more opaque before next old new a h = record {
  first = a.first ∙ h.first;
  count = a.count ∙ ap (λ n. n + 1) h.count ∙ sym (length-append before (next ∷ []));
  model = a.model ∙ ap (λ o. or_else o (found opaque (next ∷ []))) h.model ∙ sym (found-behind opaque before next);
  open_cubes =
      a.list
      ∙ (λ i. h.open_cubes i ++ opens_from (h.count i) opaque (next ∷ []))
      ∙ ap (λ n. opens_from 0 opaque before ++ opens_from n opaque (next ∷ [])) (omega arith)
      ∙ sym (opens-behind 0 opaque before next);
  refuted = a.closed ∙ ap (λ r. refuted_from r (next ∷ [])) h.refuted ∙ sym (refuted-behind (refutation 0 0 0) before next);
}

-- where no term is opaque, the first of the opaque ones is none; and where one is, it is that one
pub no-opaque : (opaque : List Term) → first_of opaque ≡ None → opaque ≡ []
no-opaque [] e = refl
no-opaque (t ∷ ts) e = cc

pub some-opaque : (opaque : List Term) (t : Term) → first_of opaque ≡ Some t → (ts : List Term) × (opaque ≡ t ∷ ts)
some-opaque [] t e = absurd cc
some-opaque (u ∷ ts) t e = (ts, let s : u ≡ t = cc in ap (λ x. x ∷ ts) s)

no-sat : (opaque : List Term) (o : Option Named) (a : CubeAnswer) → first_sat (a ∷ []) ≡ None → o ≡ or_else o (found opaque (a ∷ []))
no-sat [] o a e = sym (ap (or_else o) e ∙ none-behind o)
no-sat (t ∷ ts) o a e = sym (none-behind o)

module _ (opaque : List Term) (before : List CubeAnswer) (old new : CubeTally) (h : IsTallyOf opaque before old) where
  pub with-unsat : (a : CubeAnswer) (r : Refutation) → a ≡ answer.Unsat r → new.opaque ≡ old.opaque → new.count ≡ old.count + 1 → new.model ≡ old.model → new.open_cubes ≡ old.open_cubes → new.refuted ≡ add old.refuted r → IsTallyOf opaque (before ++ a ∷ []) new
  with-unsat a r e first count model list closed =
      subst (λ x. IsTallyOf opaque (before ++ x ∷ []) new) (sym e)
      (one-more opaque before (answer.Unsat r) old new record { first = first; count = count; model = model ∙ no-sat opaque old.model (answer.Unsat r) refl; list = list ∙ sym (append-nil old.open_cubes); closed = closed } h)

  pub with-open : (a : CubeAnswer) (reason : OpenReason) → a ≡ answer.Open reason → new ≡ record old { count = old.count + 1; open_cubes = old.open_cubes ++ (old.count, reason) ∷ [] } → IsTallyOf opaque (before ++ a ∷ []) new
  with-open a reason e n =
      subst (λ x. IsTallyOf opaque (before ++ x ∷ []) new) (sym e)
      (one-more opaque before (answer.Open reason) old new record {
        first = ap (λ (t : CubeTally). t.opaque) n;
        count = ap (λ (t : CubeTally). t.count) n;
        model = ap (λ (t : CubeTally). t.model) n ∙ no-sat opaque old.model (answer.Open reason) refl;
        list = ap (λ (t : CubeTally). t.open_cubes) n;
        closed = ap (λ (t : CubeTally). t.refuted) n;
      } h)

  pub with-opaque : (m : Named) (t : Term) → old.opaque ≡ Some t → new ≡ record old { count = old.count + 1; open_cubes = old.open_cubes ++ (old.count, Fragment (Opaque t)) ∷ [] } → IsTallyOf opaque (before ++ answer.Sat m ∷ []) new
  with-opaque m t e n =
      let s = some-opaque opaque t (sym h.first ∙ e) in
      one-more opaque before (answer.Sat m) old new record {
        first = ap (λ (t : CubeTally). t.opaque) n;
        count = ap (λ (t : CubeTally). t.count) n;
        model = ap (λ (t : CubeTally). t.model) n ∙ sym (ap (λ l. or_else old.model (found l (answer.Sat m ∷ []))) s.1 ∙ none-behind old.model);
        list = ap (λ (t : CubeTally). t.open_cubes) n ∙ sym (ap (λ l. old.open_cubes ++ opens_from old.count l (answer.Sat m ∷ [])) s.1);
        closed = ap (λ (t : CubeTally). t.refuted) n;
      } h

  pub with-model : (m : Named) → old.opaque ≡ None → new ≡ record old { count = old.count + 1; model = or_else old.model (Some m) } → IsTallyOf opaque (before ++ answer.Sat m ∷ []) new
  with-model m e n =
      let s = no-opaque opaque (sym h.first ∙ e) in
      one-more opaque before (answer.Sat m) old new record {
        first = ap (λ (t : CubeTally). t.opaque) n;
        count = ap (λ (t : CubeTally). t.count) n;
        model = ap (λ (t : CubeTally). t.model) n ∙ sym (ap (λ l. or_else old.model (found l (answer.Sat m ∷ []))) s);
        list = ap (λ (t : CubeTally). t.open_cubes) n ∙ sym (append-nil old.open_cubes) ∙ sym (ap (λ l. old.open_cubes ++ opens_from old.count l (answer.Sat m ∷ [])) s);
        closed = ap (λ (t : CubeTally). t.refuted) n;
      } h

-- one answer more, and what is still to come
module _ (all done rest more : List (Result CubeAnswer AllocError)) (x : Result CubeAnswer AllocError) (split : all ≡ done ++ rest) (front : rest ≡ x ∷ more) where
  pub split-on : all ≡ (done ++ x ∷ []) ++ more
  split-on = split ∙ ap (λ l. done ++ l) front ∙ sym (append_assoc done (x ∷ []) more)

pub more-answers : (done : List (Result CubeAnswer AllocError)) (answers : List CubeAnswer) (x : Result CubeAnswer AllocError) (a : CubeAnswer) → done ≡ map Ok answers → x ≡ Ok a → done ++ x ∷ [] ≡ map Ok (answers ++ a ∷ [])
more-answers done answers x a e is = (λ i. e i ++ is i ∷ []) ∙ sym (map-append Ok answers (a ∷ []))

pub tallied-on : (opaque : List Term) (before answers : List CubeAnswer) (a : CubeAnswer) (tally : CubeTally) → IsTallyOf opaque ((before ++ answers) ++ a ∷ []) tally → IsTallyOf opaque (before ++ (answers ++ a ∷ [])) tally
tallied-on opaque before answers a tally h = subst (λ l. IsTallyOf opaque l tally) (append_assoc before answers (a ∷ [])) h

-- cubes that are passed over add nothing but their number
pub passed-length : (n : ℕ) → length (passed n) ≡ n
passed-length zero = refl
passed-length (suc n) = ap suc (passed-length n)

passed-sat : (n : ℕ) → first_sat (passed n) ≡ None
passed-sat zero = refl
passed-sat (suc n) = passed-sat n

sat-over : (xs : List CubeAnswer) (n : ℕ) → first_sat (xs ++ passed n) ≡ first_sat xs
sat-over [] n = passed-sat n
sat-over (answer.Sat m ∷ xs) n = refl
sat-over (answer.Unsat s ∷ xs) n = sat-over xs n
sat-over (answer.Open s ∷ xs) n = sat-over xs n

pub found-over : (opaque : List Term) (xs : List CubeAnswer) (n : ℕ) → found opaque (xs ++ passed n) ≡ found opaque xs
found-over [] xs n = sat-over xs n
found-over (t ∷ ts) xs n = refl

passed-opens : (k : ℕ) (opaque : List Term) (n : ℕ) → opens_from k opaque (passed n) ≡ []
passed-opens k opaque zero = refl
passed-opens k opaque (suc n) = passed-opens (suc k) opaque n

opens-over : (k : ℕ) (opaque : List Term) (xs : List CubeAnswer) (n : ℕ) → opens_from k opaque (xs ++ passed n) ≡ opens_from k opaque xs
opens-over k opaque [] n = passed-opens k opaque n
opens-over k [] (answer.Sat m ∷ xs) n = opens-over (suc k) [] xs n
opens-over k (t ∷ ts) (answer.Sat m ∷ xs) n = ap (λ l. (k, Fragment (Opaque t)) ∷ l) (opens-over (suc k) (t ∷ ts) xs n)
opens-over k opaque (answer.Unsat r ∷ xs) n = opens-over (suc k) opaque xs n
opens-over k opaque (answer.Open r ∷ xs) n = ap (λ l. (k, r) ∷ l) (opens-over (suc k) opaque xs n)

-- counts that are cut off already
abbrev none : Refutation
none = refutation 0 0 0

cut-twice : (a b : ℕ) → cut_off (cut_off (a + b) + 0) ≡ cut_off (a + b)
cut-twice a b = omega arith

abbrev IsCut : Refutation → Type 0
IsCut r = add r none ≡ r

added-cut : (r s : Refutation) → IsCut (add r s)
added-cut r s i = refutation (cut-twice r.empty s.empty i) (cut-twice r.trees s.trees i) (cut-twice r.boxes s.boxes i)

passed-refuted : (r : Refutation) (n : ℕ) → IsCut r → refuted_from r (passed n) ≡ r
passed-refuted r zero h = refl
passed-refuted r (suc n) h = ap (λ s. refuted_from s (passed n)) h ∙ passed-refuted r n h

refuted-over : (r : Refutation) (xs : List CubeAnswer) (n : ℕ) → IsCut r → refuted_from r (xs ++ passed n) ≡ refuted_from r xs
refuted-over r [] n h = passed-refuted r n h
refuted-over r (answer.Sat m ∷ xs) n h = refuted-over r xs n h
refuted-over r (answer.Unsat s ∷ xs) n h = refuted-over (add r s) xs n (added-cut r s)
refuted-over r (answer.Open s ∷ xs) n h = refuted-over r xs n h

pub tally-over : (opaque : List Term) (before : List CubeAnswer) (n : ℕ) (old new : CubeTally) → new.opaque ≡ old.opaque → new.count ≡ old.count + n → new.model ≡ old.model → new.open_cubes ≡ old.open_cubes → new.refuted ≡ old.refuted
    → IsTallyOf opaque before old → IsTallyOf opaque (before ++ passed n) new
tally-over opaque before n old new first count model list closed h = record {
  first = first ∙ h.first;
  count = let l = length-append before (passed n) in let p = passed-length n in let c = h.count in omega (arith, count, l, p, c);
  model = model ∙ h.model ∙ sym (found-over opaque before n);
  open_cubes = list ∙ h.open_cubes ∙ sym (opens-over 0 opaque before n);
  refuted = closed ∙ h.refuted ∙ sym (refuted-over none before n refl);
}
