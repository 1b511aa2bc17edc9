-- Definitions by their variables, and ways along what they use.
use Rattle.std.proofs.Common.{◌≡◌, refl, sym, ap, ◌∙◌, subst, ℕ, zero, suc, ◌+◌, ◌<◌, ◌≤◌, inl, inr, Bool, true, false, List, [], ◌∷◌, ◌++◌, length, get_or, replicate, drop, drop-cons, Option, Some, None, cond, arith, get_or-set_same, length-append}
use Rattle.std.specs.Prelude.{nat_eq, slice_get, slice_set, count_by}
use Rattle.std.proofs.lemmas.Bool.{cases_lt, eq-eqb, eqb-true}
use Rattle.std.proofs.Math.Seq.{get_or-append_seam}
use Rattle.std.proofs.lemmas.List.{get_or_append_left, get_or_default, get_or_past, length-replicate, length-set}
use Rattle.std.proofs.lemmas.List.Recursion.{is_count_by}
use Rattle.std.proofs.lemmas.Option.{slice_get_within, get_or_from_slice_get}
use Rattle.sv_list.specs.Lists.{some-once}
use Rattle.flat_cubes.specs.Using.{used}
use Rattle.flat_cubes.specs.Flattening.{IsCycle, IsTwice, NoneTwice, Uses, UsesInTurn, ordered}
use Rattle.flat_cubes.specs.Straight.{AreBelow, HaveVariablesBelow}
use Rattle.straight_line.specs.Tracing.{HasPlaces, LeadTo}
use Rattle.flat_cubes.specs.Members.{Among}
use Rattle.straight_line.specs.Waiting.{HaveOnce, IsAhead, AheadUsesAhead, IsSorted, picked, with_one}
use Rattle.flat_cubes.specs.declared.definition.Definition.{Definition}
use Rattle.straight_line.proofs.Sorted.{at_set}
use Rattle.straight_line.proofs.Uses.{within_uses, within_variable}

-- how many pass a test
abbrev pub passing : {X : Type 0} → (X → Bool) → List X → ℕ
passing p [] = 0
passing p (x ∷ xs) = cond (p x) (1 + passing p xs) (passing p xs)

pub passing_is : {X : Type 0} (p : X → Bool) (xs : List X) → passing p xs ≡ count_by p xs
passing_is p xs = is_count_by (passing p) p refl (λ d es. refl) xs

no_less : (b : Bool) (n : ℕ) → n ≤ cond b (1 + n) n
no_less true n = omega arith
no_less false n = omega arith

one_passes : {X : Type 0} (p : X → Bool) (xs : List X) (j : ℕ) (y : X) → slice_get xs j ≡ Some y → p y ≡ true → 0 < passing p xs
one_passes p [] j y e t = absurd (cc)
one_passes p (x ∷ xs) zero y e t = let q : x ≡ y = cc in subst (λ b. 0 < cond b (1 + passing p xs) (passing p xs)) (sym (ap p q ∙ t)) (omega arith)
one_passes p (x ∷ xs) (suc j) y e t = let h = one_passes p xs j y e t in let g = no_less (p x) (passing p xs) in omega arith

two_pass : {X : Type 0} (p : X → Bool) (xs : List X) (i j : ℕ) (x y : X) → i < j → slice_get xs i ≡ Some x → p x ≡ true → slice_get xs j ≡ Some y → p y ≡ true → 1 < passing p xs
two_pass p [] i j x y l e t f u = absurd (cc)
two_pass p (z ∷ xs) i zero x y l e t f u = absurd (omega arith)
two_pass p (z ∷ xs) zero (suc j) x y l e t f u =
    let q : z ≡ x = cc in
    let h = one_passes p xs j y f u in
    subst (λ b. 1 < cond b (1 + passing p xs) (passing p xs)) (sym (ap p q ∙ t)) (omega arith)
two_pass p (z ∷ xs) (suc i) (suc j) x y l e t f u = let h = two_pass p xs i j x y (omega arith) e t f u in let g = no_less (p z) (passing p xs) in omega arith

none_pass : {X : Type 0} (p : X → Bool) (xs : List X) → ((k : ℕ) (x : X) → slice_get xs k ≡ Some x → p x ≡ false) → passing p xs ≡ 0
none_pass p [] h = refl
none_pass p (x ∷ xs) h = ap (λ b. cond b (1 + passing p xs) (passing p xs)) (h 0 x refl) ∙ none_pass p xs (λ k y e. h (suc k) y e)

other_variable : (d e : Definition) (v : ℕ) → nat_eq d.variable v ≡ true → (d.variable ≡ e.variable → ⊥) → nat_eq e.variable v ≡ false
other_variable d e v t n = by_test (nat_eq e.variable v) refl
  where
    by_test : (b : Bool) → nat_eq e.variable v ≡ b → b ≡ false
    by_test true q = absurd (n (eqb-true d.variable v t ∙ sym (eqb-true e.variable v q)))
    by_test false q = refl

pub at_most_once : (ds : List Definition) (v : ℕ) → HaveOnce ds → passing (λ (e : Definition). nat_eq e.variable v) ds ≤ 1
at_most_once [] v once = omega arith
at_most_once (d ∷ ds) v once = by_test (nat_eq d.variable v) refl (at_most_once ds v (λ k j a b e f g. let r = once (suc k) (suc j) a b e f g in omega arith))
  where
    by_test : (b : Bool) → nat_eq d.variable v ≡ b → passing (λ (e : Definition). nat_eq e.variable v) ds ≤ 1 → cond b (1 + passing (λ (e : Definition). nat_eq e.variable v) ds) (passing (λ (e : Definition). nat_eq e.variable v) ds) ≤ 1
    by_test true t h = let z = none_pass (λ (e : Definition). nat_eq e.variable v) ds (λ k x e. other_variable d x v t (λ q. let r = once 0 (suc k) d x refl e q in absurd (omega arith))) in omega arith
    by_test false t h = h

pub none_twice : (ds : List Definition) → HaveOnce ds → NoneTwice ds
none_twice ds once v t = let h = at_most_once ds v once in let e = passing_is (λ (e : Definition). nat_eq e.variable v) ds in absurd (omega arith)

-- the first n definitions have their places
pub record IsPlacedTo (ds : List Definition) (variables n : ℕ) (places : List (Option ℕ)) : Type 0 where
  pub count : length places ≡ variables
  pub has : (k : ℕ) (d : Definition) → k < n → slice_get ds k ≡ Some d → get_or places d.variable None ≡ Some k
  pub is : (v k : ℕ) → get_or places v None ≡ Some k → (k < n) × ((d : Definition) × (slice_get ds k ≡ Some d) × (d.variable ≡ v))

no_place : (n v : ℕ) (k : ℕ) → get_or (replicate n None) v None ≡ Some k → ⊥
no_place zero v k e = cc
no_place (suc n) zero k e = cc
no_place (suc n) (suc v) k e = no_place n v k e

pub placed_none : (ds : List Definition) (n : ℕ) (places : List (Option ℕ)) → places ≡ replicate n None → IsPlacedTo ds n 0 places
placed_none ds n places e = record {
  count = ap length e ∙ length-replicate n None;
  has = λ k d l q. absurd (omega arith);
  is = λ v k q. absurd (no_place n v k (sym (ap (λ z. get_or z v None) e) ∙ q));
}

pub placed_more : (ds : List Definition) (n i : ℕ) (places : List (Option ℕ)) (d : Definition) → HaveVariablesBelow n ds → slice_get ds i ≡ Some d → get_or places d.variable None ≡ None → IsPlacedTo ds n i places → IsPlacedTo ds n (i + 1) (slice_set places d.variable (Some i))
placed_more ds n i places d within at free f =
    let inside : d.variable < length places = let l = within_variable n ds i d within at in let c = f.count in omega arith in
    record {
      count = length-set places d.variable (Some i) ∙ f.count;
      has = λ k c l e. elim (cases_lt k i) [
        | inl h ↦ elim (at_set places d.variable c.variable (Some i) None inside) [
          | inl q ↦ absurd (let g : None ≡ Some k = sym free ∙ ap (λ z. get_or places z None) (sym q.0) ∙ f.has k c h e in cc)
          | inr q ↦ q.1 ∙ f.has k c h e
        ]
        | inr h ↦
            let s : k ≡ i = omega arith in
            let same : d ≡ c = some-once (slice_get ds i) d c at (ap (slice_get ds) (sym s) ∙ e) in
            subst (λ z. get_or (slice_set places d.variable (Some i)) z.variable None ≡ Some k) same (get_or-set_same places d.variable (Some i) None inside ∙ ap Some (sym s))
      ];
      is = λ v k e. elim (at_set places d.variable v (Some i) None inside) [
        | inl q ↦ let s : i ≡ k = some_is i k (sym q.1 ∙ e) in (omega arith, (d, ap (slice_get ds) (sym s) ∙ at, sym q.0))
        | inr q ↦ let r = f.is v k (sym q.1 ∙ e) in (let l = r.0 in omega arith, r.1)
      ];
    }
  where
    some_is : (i k : ℕ) → Some i ≡ Some k → i ≡ k
    some_is i k e = cc

pub placed_twice : (ds : List Definition) (n i k : ℕ) (places : List (Option ℕ)) (d : Definition) → slice_get ds i ≡ Some d → get_or places d.variable None ≡ Some k → IsPlacedTo ds n i places → IsTwice ds d.variable
placed_twice ds n i k places d at e f =
    let r = f.is d.variable k e in
    let h = two_pass (λ (c : Definition). nat_eq c.variable d.variable) ds k i r.1.0 d r.0 r.1.1 (eq-eqb r.1.0.variable d.variable r.1.2) at (eq-eqb d.variable d.variable refl) in
    let q = passing_is (λ (c : Definition). nat_eq c.variable d.variable) ds in
    omega arith

pub placed_all : (ds : List Definition) (n i : ℕ) (places : List (Option ℕ)) → length ds ≤ i → IsPlacedTo ds n i places → (length places ≡ n) × HasPlaces ds places × HaveOnce ds × NoneTwice ds
placed_all ds n i places l f =
    let has : HasPlaces ds places = λ k d e. f.has k d (let m = slice_get_within ds k d e in omega arith) e in
    let once : HaveOnce ds = λ k j d e p q r. same_place k j (sym (has k d p) ∙ ap (λ z. get_or places z None) r ∙ has j e q) in
    (f.count, has, once, none_twice ds once)
  where
    same_place : (k j : ℕ) → Some k ≡ Some j → k ≡ j
    same_place k j e = cc

-- what follows a variable that is ahead
pub ahead_within : (ahead : List Bool) (v : ℕ) → IsAhead ahead v → v < length ahead
ahead_within ahead v a = elim (cases_lt v (length ahead)) [ inl l ↦ l | inr l ↦ absurd (let e : false ≡ true = sym (get_or_past ahead v false l) ∙ a in cc) ]

-- on the way each variable's definition uses the next one, and those that were seen have their places on it
pub record IsTraced (ds : List Definition) (ahead : List Bool) (path : List ℕ) (seen : List (Option ℕ)) (at : ℕ) : Type 0 where
  pub count : length seen ≡ length ahead
  pub is_ahead : IsAhead ahead at
  pub leads : LeadTo ds path at
  pub on : (v k : ℕ) → get_or seen v None ≡ Some k → (k < length path) × (get_or path k 0 ≡ v)

pub traced_none : (ds : List Definition) (ahead : List Bool) (seen : List (Option ℕ)) (at : ℕ) → seen ≡ replicate (length ahead) None → IsAhead ahead at → IsTraced ds ahead [] seen at
traced_none ds ahead seen at e a = record {
  count = ap length e ∙ length-replicate (length ahead) None;
  is_ahead = a;
  leads = tt;
  on = λ v k q. absurd (no_place (length ahead) v k (sym (ap (λ z. get_or z v None) e) ∙ q));
}

abbrev pub unseen : List (Option ℕ) → ℕ
unseen [] = 0
unseen (None ∷ ks) = suc (unseen ks)
unseen (Some k ∷ ks) = unseen ks

pub unseen_less : (seen : List (Option ℕ)) (v k : ℕ) → v < length seen → get_or seen v None ≡ None → unseen (slice_set seen v (Some k)) < unseen seen
unseen_less [] v k l e = absurd (omega arith)
unseen_less (None ∷ ks) zero k l e = omega arith
unseen_less (Some j ∷ ks) zero k l e = absurd (cc)
unseen_less (None ∷ ks) (suc v) k l e = let h = unseen_less ks v k (omega arith) e in omega arith
unseen_less (Some j ∷ ks) (suc v) k l e = unseen_less ks v k (omega arith) e

leads_on : (ds : List Definition) (v : ℕ) (vs : List ℕ) (w u : ℕ) → UsesInTurn ds v vs w → Uses ds w u → UsesInTurn ds v (vs ++ w ∷ []) u
leads_on ds v [] w u h q = (h, q)
leads_on ds v (x ∷ vs) w u h q = (h.0, leads_on ds x vs w u h.1 q)

lead_on : (ds : List Definition) (path : List ℕ) (w u : ℕ) → LeadTo ds path w → Uses ds w u → LeadTo ds (path ++ w ∷ []) u
lead_on ds [] w u h q = q
lead_on ds (v ∷ vs) w u h q = leads_on ds v vs w u h q

lead_drop : (ds : List Definition) (k : ℕ) (path : List ℕ) (u : ℕ) → LeadTo ds path u → LeadTo ds (drop k path) u
lead_drop ds zero path u h = h
lead_drop ds (suc k) [] u h = h
lead_drop ds (suc k) (v ∷ []) u h = lead_drop ds k [] u tt
lead_drop ds (suc k) (v ∷ w ∷ vs) u h = lead_drop ds k (w ∷ vs) u h.1

pub traced_cycle : (ds : List Definition) (ahead : List Bool) (path : List ℕ) (seen : List (Option ℕ)) (at k : ℕ) → IsTraced ds ahead path seen at → get_or seen at None ≡ Some k → IsCycle ds (drop k path)
traced_cycle ds ahead path seen at k t e =
    let o = t.on at k e in
    let parts : drop k path ≡ at ∷ drop (suc k) path = drop-cons path k 0 o.0 ∙ ap (λ z. z ∷ drop (suc k) path) o.1 in
    subst (IsCycle ds) (sym parts) (subst (λ z. LeadTo ds z at) parts (lead_drop ds k path at t.leads))

pub traced_on : (ds : List Definition) (ahead : List Bool) (path path' : List ℕ) (seen seen' : List (Option ℕ)) (at next : ℕ) → IsTraced ds ahead path seen at → path' ≡ path ++ at ∷ [] → seen' ≡ slice_set seen at (Some (length path)) → IsAhead ahead next → Uses ds at next → IsTraced ds ahead path' seen' next
traced_on ds ahead path path' seen seen' at next t e f a u =
    let inside : at < length seen = let l = ahead_within ahead at t.is_ahead in let c = t.count in omega arith in
    let longer = ap length e ∙ length-append path (at ∷ []) in
    record {
      count = ap length f ∙ length-set seen at (Some (length path)) ∙ t.count;
      is_ahead = a;
      leads = subst (λ z. LeadTo ds z next) (sym e) (lead_on ds path at next t.leads u);
      on = λ v k q. elim (at_set seen at v (Some (length path)) None inside) [
        | inl h ↦
            let s : length path ≡ k = some_is (length path) k (sym h.1 ∙ ap (λ z. get_or z v None) (sym f) ∙ q) in
            (omega arith, ap (λ z. get_or z k 0) e ∙ ap (λ z. get_or (path ++ at ∷ []) z 0) (sym s) ∙ get_or-append_seam path at [] 0 ∙ sym h.0)
        | inr h ↦
            let r = t.on v k (sym h.1 ∙ ap (λ z. get_or z v None) (sym f) ∙ q) in
            let l = r.0 in
            (omega arith, ap (λ z. get_or z k 0) e ∙ get_or_append_left path (at ∷ []) 0 k r.0 ∙ r.1)
      ];
    }
  where
    some_is : (i k : ℕ) → Some i ≡ Some k → i ≡ k
    some_is i k e = cc

-- the definition of a variable that is ahead uses one that is
pub record HasNext (ds : List Definition) (places : List (Option ℕ)) (ahead : List Bool) (v : ℕ) : Type 0 where
  pub place : ℕ
  pub definition : Definition
  pub is : slice_get ds place ≡ Some definition
  pub at : get_or places v None ≡ Some place
  pub defines : definition.variable ≡ v
  pub below : AreBelow (length ahead) (used definition.by)
  pub use_at : ℕ
  pub use_within : use_at < length (used definition.by)
  pub use_ahead : IsAhead ahead (get_or (used definition.by) use_at 0)

pub has_next : (ds : List Definition) (places : List (Option ℕ)) (ahead : List Bool) (v : ℕ) → HaveVariablesBelow (length ahead) ds → HasPlaces ds places → AheadUsesAhead ds ahead → IsAhead ahead v → HasNext ds places ahead v
has_next ds places ahead v within has closed a =
    let r = closed v a in
    record {
      place = r.0;
      definition = r.1;
      is = r.3;
      at = ap (λ z. get_or places z None) (sym r.4) ∙ has r.0 r.1 r.3;
      defines = r.4;
      below = within_uses (length ahead) ds r.0 r.1 within r.3;
      use_at = r.2;
      use_within = r.5;
      use_ahead = r.6;
    }

pub uses_found : (ds : List Definition) (k : ℕ) (d : Definition) (v : ℕ) (us : List ℕ) (i : ℕ) → slice_get ds k ≡ Some d → d.variable ≡ v → us ≡ used d.by → i < length us → Uses ds v (get_or us i 0)
uses_found ds k d v us i e q f l =
    let m : i < length (used d.by) = subst (λ z. i < length z) f l in
    subst (λ z. Uses ds v (get_or z i 0)) (sym f) (k, d, slice_get_within ds k d e, get_or_from_slice_get ds k d d e, (q, (i, m, get_or_default (used d.by) i (get_or (used d.by) i 0) 0 m)))

-- the first that is ahead is there
module _ (ds : List Definition) (places : List (Option ℕ)) (ahead : List Bool) (v : ℕ) (h : HasNext ds places ahead v) (us : List ℕ) (result : ℕ) (is : us ≡ used h.definition.by) (within : result ≤ length us) (before : (i : ℕ) → 0 ≤ i → i < result → IsAhead ahead (get_or us i 0) → ⊥) where
  pub found_within : result < length us
  found_within = elim (cases_lt result (length us)) [
    | inl l ↦ l
    | inr l ↦
        let u = h.use_within in
        let e : length us ≡ length (used h.definition.by) = ap length is in
        absurd (before h.use_at (omega arith) (omega arith) (subst (λ z. IsAhead ahead (get_or z h.use_at 0)) (sym is) h.use_ahead))
  ]

  pub found_uses : Uses ds v (get_or us result 0)
  found_uses = uses_found ds h.place h.definition v us result h.is h.defines is found_within

pub none_ahead : (ahead : List Bool) (i : ℕ) → length ahead ≤ i → ((k : ℕ) → k < i → get_or ahead k false ≡ false) → (v : ℕ) → IsAhead ahead v → ⊥
none_ahead ahead i l h v a = let m = ahead_within ahead v a in absurd (let e : false ≡ true = sym (h v (omega arith)) ∙ a in cc)

-- the places that were sorted are all places
pub picked_whole : (ds : List Definition) (places : List ℕ) → ((k : ℕ) → Among k places → (d : Definition) × (slice_get ds k ≡ Some d)) → length (picked ds places) ≡ length places
picked_whole ds [] h = refl
picked_whole ds (k ∷ ks) h = let t = h k (inl refl) in ap (λ o. length (with_one o (picked ds ks))) t.1 ∙ ap suc (picked_whole ds ks (λ j a. h j (inr a)))

pub sorted_whole : (ds es : List Definition) (places : List ℕ) (ahead : List Bool) → IsSorted ds places ahead → ((v : ℕ) → IsAhead ahead v → ⊥) → es ≡ picked ds places → (es ≡ ordered ds) × (length es ≡ length ds)
sorted_whole ds es places ahead s n e = (e ∙ sym s.kept, ap length e ∙ picked_whole ds places s.placed ∙ s.whole n)
