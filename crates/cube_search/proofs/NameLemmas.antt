-- Marks by which variables are named.
use Rattle.std.proofs.Common.{◌≡◌, ℕ, zero, suc, ◌<◌, ◌≤◌, ◌+◌, ◌⊎◌, Bool, true, false, List, [], ◌∷◌, ◌++◌, length, slice_get, slice_set, Some, Contains, refl, sym, ap, ◌∙◌, subst, arith, inl, inr}
use Rattle.std.proofs.lemmas.Bool.Decides.{eqb_tells}
use Rattle.sv_list.specs.Lists.{slice_get-contains}
use Rattle.cube_search.specs.Conflicts.{is_named, IsNamedToo, AreNamesOf, AreJoined, NamesOwn}

pub named-none : (v : ℕ) → is_named [] v ≡ false
named-none zero = refl
named-none (suc v) = refl

pub not-both : (b : Bool) → b ≡ true → b ≡ false → ⊥
not-both b p q = let e : true ≡ false = sym p ∙ q in cc

pub named-within : (names : List Bool) (v : ℕ) → is_named names v ≡ true → v < length names
named-within [] v e = absurd (not-both (is_named [] v) e (named-none v))
named-within (n ∷ names) zero e = omega arith
named-within (n ∷ names) (suc v) e = let r = named-within names v e in omega (arith, r)

-- a mark more that names nothing
pub named-longer : (names : List Bool) (v : ℕ) → is_named (names ++ false ∷ []) v ≡ is_named names v
named-longer [] zero = refl
named-longer [] (suc v) = named-none v
named-longer (n ∷ names) zero = refl
named-longer (n ∷ names) (suc v) = named-longer names v

-- a mark in the place of one
set-here : (names : List Bool) (v : ℕ) → v < length names → is_named (slice_set names v true) v ≡ true
set-here [] v lt = absurd (omega (arith, lt))
set-here (n ∷ names) zero lt = refl
set-here (n ∷ names) (suc v) lt = set-here names v (omega (arith, lt))

set-kept : (names : List Bool) (v u : ℕ) → is_named names u ≡ true → is_named (slice_set names v true) u ≡ true
set-kept [] v u e = e
set-kept (n ∷ names) zero zero e = refl
set-kept (n ∷ names) zero (suc u) e = e
set-kept (n ∷ names) (suc v) zero e = e
set-kept (n ∷ names) (suc v) (suc u) e = set-kept names v u e

set-only : (names : List Bool) (v u : ℕ) → is_named (slice_set names v true) u ≡ true → (is_named names u ≡ true) ⊎ (u ≡ v)
set-only [] v u e = inl e
set-only (n ∷ names) zero zero e = inr refl
set-only (n ∷ names) zero (suc u) e = inl e
set-only (n ∷ names) (suc v) zero e = inl e
set-only (n ∷ names) (suc v) (suc u) e = elim (set-only names v u e) [ inl h ↦ inl h | inr h ↦ inr (ap suc h) ]

pub set-names : (names : List Bool) (v : ℕ) → v < length names → IsNamedToo v names (slice_set names v true)
set-names names v lt = record { here = set-here names v lt; kept = set-kept names v; only = set-only names v }

-- a mark behind all
push-here : (names : List Bool) → is_named (names ++ true ∷ []) (length names) ≡ true
push-here [] = refl
push-here (n ∷ names) = push-here names

push-kept : (names : List Bool) (u : ℕ) → is_named names u ≡ true → is_named (names ++ true ∷ []) u ≡ true
push-kept [] u e = absurd (not-both (is_named [] u) e (named-none u))
push-kept (n ∷ names) zero e = e
push-kept (n ∷ names) (suc u) e = push-kept names u e

push-only : (names : List Bool) (u : ℕ) → is_named (names ++ true ∷ []) u ≡ true → (is_named names u ≡ true) ⊎ (u ≡ length names)
push-only [] zero e = inr refl
push-only [] (suc u) e = absurd (not-both (is_named [] u) e (named-none u))
push-only (n ∷ names) zero e = inl e
push-only (n ∷ names) (suc u) e = elim (push-only names u e) [ inl h ↦ inl h | inr h ↦ inr (ap suc h) ]

pub push-names : (old mid new : List Bool) (v : ℕ) → ((u : ℕ) → is_named mid u ≡ is_named old u) → length mid ≡ v → new ≡ mid ++ true ∷ [] → IsNamedToo v old new
push-names old mid new v same long is = record {
  here = ap (λ l. is_named l v) is ∙ subst (λ k. is_named (mid ++ true ∷ []) k ≡ true) long (push-here mid);
  kept = λ u e. ap (λ l. is_named l u) is ∙ push-kept mid u (same u ∙ e);
  only = λ u e. elim (push-only mid u (sym (ap (λ l. is_named l u) is) ∙ e)) [ inl h ↦ inl (sym (same u) ∙ h) | inr h ↦ inr (h ∙ long) ];
}

-- the name of one variable alone
pub one-name : (v : ℕ) (names : List Bool) → IsNamedToo v [] names → AreNamesOf (v ∷ []) names
one-name v names h = record {
  all = λ u c. subst (λ w. is_named names w ≡ true) (alone u c) h.here;
  only = λ u e. elim (h.only u e) [ inl n ↦ absurd (not-both (is_named [] u) n (named-none u)) | inr is ↦ (zero, omega arith, sym is) ];
}
  where
    alone : (u : ℕ) → Contains (v ∷ []) u → v ≡ u
    alone u (zero, k, e) = e
    alone u (suc n, k, e) = absurd (omega (arith, k))

-- the variables up to a place are named
pub record AreNamesUpTo (variables : List ℕ) (n : ℕ) (names : List Bool) : Type 0 where
  pub all : (i v : ℕ) → i < n → slice_get variables i ≡ Some v → is_named names v ≡ true
  pub only : (v : ℕ) → is_named names v ≡ true → Contains variables v

pub names-begun : (variables : List ℕ) (names : List Bool) → names ≡ [] → AreNamesUpTo variables 0 names
names-begun variables names is = record {
  all = λ i v lt e. absurd (omega (arith, lt));
  only = λ v e. absurd (not-both (is_named [] v) (sym (ap (λ l. is_named l v) is) ∙ e) (named-none v));
}

pub names-next : (variables : List ℕ) (n x : ℕ) (old new : List Bool) → slice_get variables n ≡ Some x → AreNamesUpTo variables n old → IsNamedToo x old new → AreNamesUpTo variables (n + 1) new
names-next variables n x old new there h more = record {
  all = λ i v lt e. elim (eqb_tells i n) [
    | inl is ↦ (let same : Some x ≡ Some v = sym there ∙ ap (slice_get variables) (sym is.1) ∙ e in let one : x ≡ v = cc in subst (λ w. is_named new w ≡ true) one more.here)
    | inr other ↦ more.kept v (h.all i v (let ne = other.1 in omega arith) e)
  ];
  only = λ v e. elim (more.only v e) [ inl o ↦ h.only v o | inr is ↦ subst (Contains variables) (sym is) (slice_get-contains variables n x there) ];
}

pub names-all : (variables : List ℕ) (n : ℕ) (names : List Bool) → length variables ≤ n → AreNamesUpTo variables n names → AreNamesOf variables names
names-all variables n names le h = record {
  all = λ v c. h.all c.0 v (let k = c.1 in omega arith) (contained-at variables v c);
  only = h.only;
}
  where
    contained-at : (xs : List ℕ) (v : ℕ) (c : Contains xs v) → slice_get xs c.0 ≡ Some v
    contained-at [] v c = absurd (let k = c.1 in omega arith)
    contained-at (x ∷ xs) v (zero, k, e) = ap Some e
    contained-at (x ∷ xs) v (suc i, k, e) = contained-at xs v (i, omega (arith, k), e)

-- the others up to a place are named too
pub record AreJoinedUpTo (one other : List Bool) (n : ℕ) (both : List Bool) : Type 0 where
  pub kept : (v : ℕ) → is_named one v ≡ true → is_named both v ≡ true
  pub taken : (v : ℕ) → v < n → is_named other v ≡ true → is_named both v ≡ true
  pub only : (v : ℕ) → is_named both v ≡ true → (is_named one v ≡ true) ⊎ (is_named other v ≡ true)

pub joined-begun : (one other : List Bool) → AreJoinedUpTo one other 0 one
joined-begun one other = record { kept = λ v e. e; taken = λ v lt e. absurd (omega (arith, lt)); only = λ v e. inl e }

pub joined-same : (one other both : List Bool) (n : ℕ) → is_named other n ≡ false → AreJoinedUpTo one other n both → AreJoinedUpTo one other (n + 1) both
joined-same one other both n none h = record {
  kept = h.kept;
  taken = λ v lt e. elim (eqb_tells v n) [
    | inl is ↦ absurd (not-both (is_named other v) e (ap (is_named other) is.1 ∙ none))
    | inr ne ↦ h.taken v (let k = ne.1 in omega arith) e
  ];
  only = h.only;
}

pub joined-next : (one other both new : List Bool) (n : ℕ) → is_named other n ≡ true → AreJoinedUpTo one other n both → IsNamedToo n both new → AreJoinedUpTo one other (n + 1) new
joined-next one other both new n some h more = record {
  kept = λ v e. more.kept v (h.kept v e);
  taken = λ v lt e. elim (eqb_tells v n) [
    | inl is ↦ subst (λ w. is_named new w ≡ true) (sym is.1) more.here
    | inr ne ↦ more.kept v (h.taken v (let k = ne.1 in omega arith) e)
  ];
  only = λ v e. elim (more.only v e) [ inl o ↦ h.only v o | inr is ↦ inr (ap (is_named other) is ∙ some) ];
}

pub joined-all : (one other both : List Bool) (n : ℕ) → length other ≤ n → AreJoinedUpTo one other n both → AreJoined one other both
joined-all one other both n le h = record { kept = h.kept; taken = λ v e. h.taken v (let k = named-within other v e in omega arith) e; only = h.only }

-- the variable that is defined, where one is named that its definition uses
pub own-named : (x : ℕ) (uses : List ℕ) (old new : List Bool) → IsNamedToo x old new → NamesOwn x uses old new
own-named x uses old new h = record { kept = h.kept; only = h.only; own = λ v c n. h.here }

pub own-same : (x : ℕ) (uses : List ℕ) (names : List Bool) → ((v : ℕ) → Contains uses v → is_named names v ≡ false) → NamesOwn x uses names names
own-same x uses names none = record { kept = λ v e. e; only = λ v e. inl e; own = λ v c n. absurd (not-both (is_named names v) n (none v c)) }
