-- Names that are declared one after another, and what is known of the ones before.
use Rattle.std.proofs.Common.{◌≡◌, refl, sym, ap, ◌∙◌, subst, Bool, true, false, not, ◌&&◌, IsTrue, All, ℕ, take, drop, List, [], ◌∷◌, ◌++◌, Option, Some, None, append_assoc, is_some}
use Rattle.std.proofs.lemmas.List.{append-nil, take-append-drop}
use Rattle.std.specs.Map.{lookup}
use Rattle.std.specs.Cmp.Lexicographic.{same_text, lists_equiv}
use Rattle.std.specs.Cmp.{nat_eq_equiv}
use Rattle.std.proofs.lemmas.Bool.{not-true, not_from_false, and_parts, and_from}
use mathlib.Core.Bool.{cond}
use Rattle.sv_terms.specs.declared.entry.Body.{Body}
use Rattle.sv_terms.specs.declared.entry.Body.TheVariants as body
use Rattle.sv_terms.specs.declared.entry.Entry.{Entry}
use Rattle.sv_terms.specs.declared.entry.Entry.TheVariants as entry
use Rattle.sv_terms.specs.declared.sort.Sort.{Sort}
use Rattle.sv_terms.specs.declared.term.Term.{Term}
use Rattle.sv_terms.specs.Meaning.{Named}
use Rattle.sv_terms.specs.Sorting.{sort_of, is_of, is_valued}
use Rattle.term_weight.specs.Bodies.{body_sort, is_escaped}
use Rattle.term_walk.specs.Meant.{Names}
use Rattle.smt_names.specs.Signature.{Name, same_name}
use Rattle.sv_terms.specs.TransducerSizes.{has_formed}
use Rattle.sv_terms.proofs.ValueSorts.{same_is}
use Rattle.sort_check.specs.WellFormed.{constants_are, is_constant_of, is_declared, constants_known, hidden_by, is_bound, is_sort, is_body, is_entry, is_new, follow, is_well_formed, is_given, AreGiven}
use Rattle.smt_names.specs.Lookups.{lookup-there}
use Rattle.sort_check.proofs.WellTerms.{Each, each-all, all-each, weaker, known-valued}

pub same-name-is : (n m : Name) → IsTrue (same_name n m) → n ≡ m
same-name-is n m h = same_text n m (sym h)

pub same-name-self : (n : Name) → IsTrue (same_name n n)
same-name-self n = (lists_equiv nat_eq_equiv).refl n

-- the value of the first entry of a name, and of the same list with more behind it
pub looked-more : {A : Type 0} (P : Option A → Type 0) (n : Name) (xs ys : List (Name × A)) → (P None → ⊥) → P (lookup (same_name n) xs) → P (lookup (same_name n) (xs ++ ys))
looked-more P n [] ys nothing h = absurd (nothing h)
looked-more {A} P n (x ∷ xs) ys nothing h = go (same_name n x.0) (lookup (same_name n) xs) (lookup (same_name n) (xs ++ ys)) (looked-more P n xs ys nothing) h
  where
    go : (b : Bool) (o p : Option A) → (P o → P p) → P (cond b (Some x.1) o) → P (cond b (Some x.1) p)
    go true o p k h = h
    go false o p k h = k h

-- what is declared stays declared
pub declared-more : (xs ys : Names) (n : Name) (s : Sort) → IsTrue (is_declared xs n s) → IsTrue (is_declared (xs ++ ys) n s)
declared-more xs ys n s h = looked-more (λ o. IsTrue (is_constant_of s o)) n xs ys (λ k. let e : false ≡ true = k in cc) h

pub known-more : (xs ys : Names) (t : Term) → IsTrue (constants_known xs t) → IsTrue (constants_known (xs ++ ys) t)
known-more xs ys t h = weaker (is_declared xs) (is_declared (xs ++ ys)) (declared-more xs ys) t h

hidden-more : (o : Option Sort) (a b : Bool) (s : Sort) → (IsTrue a → IsTrue b) → IsTrue (hidden_by o a s) → IsTrue (hidden_by o b s)
hidden-more (Some t) a b s k h = h
hidden-more None a b s k h = k h

body-more : (parameters : List (Name × Sort)) (xs ys : Names) (b : Body) → IsTrue (is_body parameters xs b) → IsTrue (is_body parameters (xs ++ ys) b)
body-more parameters xs ys (body.Language r) h = refl
body-more parameters xs ys (body.Term t) h =
    let k = and_parts (is_sort (body_sort (body.Term t)) (sort_of t) && has_formed t) (constants_are (is_bound parameters xs) t) h in
    and_from (is_sort (body_sort (body.Term t)) (sort_of t) && has_formed t) (constants_are (is_bound parameters (xs ++ ys)) t) k.0
    (weaker (is_bound parameters xs) (is_bound parameters (xs ++ ys)) (λ n s. hidden-more (lookup (same_name n) parameters) (is_declared xs n s) (is_declared (xs ++ ys) n s) s (declared-more xs ys n s)) t k.1)

entry-more : (xs ys : Names) (e : Entry) → IsTrue (is_entry xs e) → IsTrue (is_entry (xs ++ ys) e)
entry-more xs ys (entry.Constant s) h = h
entry-more xs ys (entry.Macro parameters b) h = body-more parameters xs ys b h
entry-more xs ys (entry.Machine t) h = h

-- prefixes
pub follow-prefix : (before xs ys : Names) → IsTrue (follow before (xs ++ ys)) → IsTrue (follow before xs)
follow-prefix before [] ys h = refl
follow-prefix before (e ∷ xs) ys h =
    let k = and_parts (is_new before e.0 && is_entry before e.1) (follow (before ++ e ∷ []) (xs ++ ys)) h in
    and_from (is_new before e.0 && is_entry before e.1) (follow (before ++ e ∷ []) xs) k.0 (follow-prefix (before ++ e ∷ []) xs ys k.1)

-- one name more
pub follow-one : (before xs : Names) (n : Name) (e : Entry) → IsTrue (follow before xs) → IsTrue (is_new (before ++ xs) n) → IsTrue (is_entry (before ++ xs) e) → IsTrue (follow before (xs ++ (n, e) ∷ []))
follow-one before [] n e h g k =
    let same = append-nil before in
    and_from (is_new before n && is_entry before e) true (and_from (is_new before n) (is_entry before e) (subst (λ l. IsTrue (is_new l n)) same g) (subst (λ l. IsTrue (is_entry l e)) same k)) refl
follow-one before (x ∷ xs) n e h g k =
    let w = and_parts (is_new before x.0 && is_entry before x.1) (follow (before ++ x ∷ []) xs) h in
    let same = sym (append_assoc before (x ∷ []) xs) in
    and_from (is_new before x.0 && is_entry before x.1) (follow (before ++ x ∷ []) (xs ++ (n, e) ∷ [])) w.0
    (follow-one (before ++ x ∷ []) xs n e w.1 (subst (λ l. IsTrue (is_new l n)) same g) (subst (λ l. IsTrue (is_entry l e)) same k))

-- what a declared name stands for
pub record IsKept (whole : Names) (n : Name) (e : Entry) : Type 0 where
  pub open_name : is_escaped n ≡ false
  pub entry : IsTrue (is_entry whole e)

pub entry-found : (before xs : Names) (n : Name) (e : Entry) → IsTrue (follow before xs) → lookup (same_name n) xs ≡ Some e → IsKept (before ++ xs) n e
entry-found before [] n e h f = absurd (cc)
entry-found before (x ∷ xs) n e h f = go (same_name n x.0) refl (lookup (same_name n) xs) (λ k. subst (λ l. IsKept l n e) (append_assoc before (x ∷ []) xs) (entry-found (before ++ x ∷ []) xs n e w.1 k)) f
  where
    w : IsTrue (is_new before x.0 && is_entry before x.1) × IsTrue (follow (before ++ x ∷ []) xs)
    w = and_parts (is_new before x.0 && is_entry before x.1) (follow (before ++ x ∷ []) xs) h

    go : (b : Bool) → same_name n x.0 ≡ b → (o : Option Entry) → (o ≡ Some e → IsKept (before ++ x ∷ xs) n e) → cond b (Some x.1) o ≡ Some e → IsKept (before ++ x ∷ xs) n e
    go true s o k f =
        let m = and_parts (is_new before x.0) (is_entry before x.1) w.0 in
        let q = and_parts (not (is_escaped x.0)) (not (is_some (lookup (same_name x.0) before))) m.0 in
        let g : x.1 ≡ e = cc in
        record { open_name = ap is_escaped (same-name-is n x.0 s) ∙ not-true (is_escaped x.0) q.0; entry = subst (λ z. IsTrue (is_entry (before ++ x ∷ xs) z)) g (entry-more before (x ∷ xs) x.1 m.1) }
    go false s o k f = k f

pub sound-entry : (symbols : Names) (n : Name) (e : Entry) → IsTrue (is_well_formed symbols) → lookup (same_name n) symbols ≡ Some e → IsKept symbols n e
sound-entry symbols n e h f = entry-found [] symbols n e h f

-- one declaration more
pub one-more : (symbols : Names) (n : Name) (e : Entry) → IsTrue (is_well_formed symbols) → is_escaped n ≡ false → lookup (same_name n) symbols ≡ None → IsTrue (is_entry symbols e) → IsTrue (is_well_formed (symbols ++ (n, e) ∷ []))
one-more symbols n e h f g k = follow-one [] symbols n e h (and_from (not (is_escaped n)) (not (is_some (lookup (same_name n) symbols))) (not_from_false (is_escaped n) f) (not_from_false (is_some (lookup (same_name n) symbols)) (ap is_some g))) k

-- each declared constant has a value of its sort
given-at : (values : Named) (n m : Name) (e : Entry) (s : Sort) → n ≡ m → IsTrue (is_given values (m, e)) → IsTrue (is_constant_of s (Some e)) → IsTrue (is_of s (lookup (same_name n) values))
given-at values n m (entry.Constant t) s f h g =
    subst (λ k. IsTrue (is_of s (lookup (same_name k) values))) (sym f) (subst (λ z. IsTrue (is_of z (lookup (same_name m) values))) (same_is s t g) h)
given-at values n m (entry.Macro ps b) s f h g = absurd (cc)
given-at values n m (entry.Machine t) s f h g = absurd (cc)

given : (values : Named) (symbols : Names) (n : Name) (s : Sort) → Each (λ e. IsTrue (is_given values e)) symbols → IsTrue (is_declared symbols n s) → IsTrue (is_of s (lookup (same_name n) values))
given values [] n s h g = absurd (cc)
given values (x ∷ xs) n s h g = go (same_name n x.0) refl (lookup (same_name n) xs) (given values xs n s h.1) g
  where
    go : (b : Bool) → same_name n x.0 ≡ b → (o : Option Entry) → (IsTrue (is_constant_of s o) → IsTrue (is_of s (lookup (same_name n) values))) → IsTrue (is_constant_of s (cond b (Some x.1) o)) → IsTrue (is_of s (lookup (same_name n) values))
    go true e o i g = given-at values n x.0 x.1 s (same-name-is n x.0 e) h.0 g
    go false e o i g = i g

pub valued-by : (values : Named) (symbols : Names) (t : Term) → AreGiven values symbols → IsTrue (constants_known symbols t) → IsTrue (is_valued values t)
valued-by values symbols t h = known-valued (is_declared symbols) values (λ n s. given values symbols n s (all-each (λ e. IsTrue (is_given values e)) symbols h)) t

-- each entry may be declared, and is found under its name
each-entry : (before xs : Names) → IsTrue (follow before xs) → Each (λ e. IsTrue (is_entry (before ++ xs) e.1)) xs
each-entry before [] h = tt
each-entry before (x ∷ xs) h =
    let k = and_parts (is_new before x.0 && is_entry before x.1) (follow (before ++ x ∷ []) xs) h in
    let m = and_parts (is_new before x.0) (is_entry before x.1) k.0 in
    (entry-more before (x ∷ xs) x.1 m.1, subst (λ l. Each (λ e. IsTrue (is_entry l e.1)) xs) (append_assoc before (x ∷ []) xs) (each-entry (before ++ x ∷ []) xs k.1))

none-is : {A : Type 0} (o : Option A) → is_some o ≡ false → o ≡ None
none-is None e = refl
none-is (Some x) e = absurd (cc)

each-found : (before xs : Names) → IsTrue (follow before xs) → Each (λ e. lookup (same_name e.0) (before ++ xs) ≡ Some e.1) xs
each-found before [] h = tt
each-found before (x ∷ xs) h =
    let k = and_parts (is_new before x.0 && is_entry before x.1) (follow (before ++ x ∷ []) xs) h in
    let m = and_parts (is_new before x.0) (is_entry before x.1) k.0 in
    let n = and_parts (not (is_escaped x.0)) (not (is_some (lookup (same_name x.0) before))) m.0 in
    let e = none-is (lookup (same_name x.0) before) (not-true (is_some (lookup (same_name x.0) before)) n.1) in
    (lookup-there x.0 before (x ∷ xs) e ∙ ap (λ b. cond b (Some x.1) (lookup (same_name x.0) xs)) (same-name-self x.0), subst (λ l. Each (λ e. lookup (same_name e.0) l ≡ Some e.1) xs) (append_assoc before (x ∷ []) xs) (each-found (before ++ x ∷ []) xs k.1))

pub entries-allowed : (symbols : Names) → IsTrue (is_well_formed symbols) → All (λ e. IsTrue (is_entry symbols e.1)) symbols
entries-allowed symbols h = each-all (λ (e : Name × Entry). IsTrue (is_entry symbols e.1)) symbols (each-entry [] symbols h)

pub entries-found : (symbols : Names) → IsTrue (is_well_formed symbols) → All (λ e. lookup (same_name e.0) symbols ≡ Some e.1) symbols
entries-found symbols h = each-all (λ (e : Name × Entry). lookup (same_name e.0) symbols ≡ Some e.1) symbols (each-found [] symbols h)

pub well-formed-take : (n : ℕ) (symbols : Names) → IsTrue (is_well_formed symbols) → IsTrue (is_well_formed (take n symbols))
well-formed-take n symbols h = follow-prefix [] (take n symbols) (drop n symbols) (subst (λ l. IsTrue (is_well_formed l)) (sym (take-append-drop n symbols)) h)
