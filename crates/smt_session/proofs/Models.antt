-- The model that is made of the values of a verdict, over the declared symbols.
use Rattle.std.proofs.Common.{◌≡◌, refl, sym, ap, ◌∙◌, subst, ℕ, Bool, true, false, not, ◌&&◌, List, [], ◌∷◌, ◌++◌, Option, Some, None, IsTrue, zero, suc, ◌+◌, ◌<◌, length, take, drop, arith, get_or, append_assoc, append-nil, is_some}
use Rattle.std.specs.Prelude.{All, slice_get, if◌then◌else◌}
use Rattle.std.proofs.lemmas.Option.{none-some, slice_get_within, get_or_from_slice_get}
use Rattle.std.specs.List.{AllByRecursion}
use Rattle.std.specs.Map.{lookup}
use Rattle.std.proofs.lemmas.Bool.{true≢false}
use Rattle.std.proofs.lemmas.List.Elements.{recursion_from_All, All-from_recursion}
use Rattle.sv_list.specs.Bools.{and-first}
use Rattle.sv_list.specs.Lists.{take-read}
use Rattle.assert_stack.specs.Levels.{Symbol}
use Rattle.assertion_parts.specs.Constants.{AreOnly, ConstantsHaveOneSort, is_mentioned, mentions}
use Rattle.assertion_parts.specs.Filling.{AreChosen, default, or_default}
use Rattle.assertion_parts.proofs.Sorts.{same-is, same-self}
use Rattle.assertion_parts.proofs.Fillings.{worded-or}
use Rattle.decide.specs.Completeness.{IsComplete}
use Rattle.decide.specs.Jobs.{IsModelOfSomeCube}
use Rattle.decide.specs.Verdicts.{RightVerdict}
use Rattle.decide.proofs.Models.{model-keeps}
use Rattle.decide.specs.declared.verdict.Verdict.TheVariants.{Sat}
use Rattle.term_weight.specs.Bodies.{is_escaped}
use Rattle.sort_check.specs.WellFormed.{is_constant_of, is_declared, constants_known, is_entry, is_new, follow, is_well_formed, is_given, AreGiven}
use Rattle.sv_terms.specs.NamedLaws.{one-name}
use Rattle.sv_terms.specs.Meaning.{Named}
use Rattle.sv_terms.specs.Sorting.{kind, same_sort, is_of, is_valued}
use Rattle.sv_terms.specs.Truth.{AreTrueAt, AreValued, IsWorded}
use Rattle.sv_terms.specs.declared.entry.Entry.{Entry}
use Rattle.sv_terms.specs.declared.entry.Entry.TheVariants as entry
use Rattle.sv_terms.specs.declared.sort.Sort.{Sort}
use Rattle.sv_terms.specs.declared.sort.Sort.TheVariants as sort
use Rattle.sv_terms.specs.declared.term.Term.{Term}
use Rattle.sv_terms.specs.declared.value.Value.{Value}
use Rattle.smt_names.specs.Signature.{Name}
use Rattle.smt_session.specs.Verdicts.{IsModelFor, constants_of, kinds_of}
use Rattle.smt_session.specs.Models.{model_of}
use Rattle.smt_session.proofs.Agreeing.{agrees, agrees-at, either}
use Rattle.smt_session.proofs.Names.{same, parted, skip, cases, found-has}
use mathlib.Core.Bool.{cond}

pub model-joined : (words : Named) (xs ys : List Symbol) → model_of words (xs ++ ys) ≡ model_of words xs ++ model_of words ys
model-joined words [] ys = refl
model-joined words ((n, entry.Constant s) ∷ xs) ys = ap (λ z. (n, or_default s (lookup (same n) words)) ∷ z) (model-joined words xs ys)
model-joined words ((n, entry.Macro ps b) ∷ xs) ys = model-joined words xs ys
model-joined words ((n, entry.Machine t) ∷ xs) ys = model-joined words xs ys

gone : {V W : Type 0} (b : Bool) (e : V) (v : W) (o : Option V) (p : Option W) → (o ≡ None → p ≡ None) → cond b (Some e) o ≡ None → cond b (Some v) p ≡ None
gone b e v o p k h = skip b e o h (λ f g. ap (λ c. cond c (Some v) p) f ∙ k g)

-- a name that isn't declared has no value
pub not-in-model : (words : Named) (n : Name) (xs : List Symbol) → lookup (same n) xs ≡ None → lookup (same n) (model_of words xs) ≡ None
not-in-model words n [] h = refl
not-in-model words n ((m, entry.Constant s) ∷ xs) h =
    gone (same n m) (entry.Constant s) (or_default s (lookup (same m) words)) (lookup (same n) xs) (lookup (same n) (model_of words xs)) (not-in-model words n xs) h
not-in-model words n ((m, entry.Macro ps b) ∷ xs) h = skip (same n m) (entry.Macro ps b) (lookup (same n) xs) h (λ f g. not-in-model words n xs g)
not-in-model words n ((m, entry.Machine t) ∷ xs) h = skip (same n m) (entry.Machine t) (lookup (same n) xs) h (λ f g. not-in-model words n xs g)

-- a symbol is new behind those before it
third : (a b c : Bool) → (a && b && c) ≡ true → c ≡ true
third true true c h = h
third true false c h = absurd (true≢false (sym h))
third false b c h = absurd (true≢false (sym h))

not-some : (a : Bool) (o : Option Entry) → (not a && not (is_some o)) ≡ true → o ≡ None
not-some a None h = refl
not-some true (Some e) h = absurd (true≢false (sym h))
not-some false (Some e) h = absurd (true≢false (sym h))

follow-new : (before xs : List Symbol) (e : Symbol) (ys : List Symbol) → follow before (xs ++ e ∷ ys) ≡ true → lookup (same e.0) (before ++ xs) ≡ None
follow-new before [] e ys h =
    ap (λ z. lookup (same e.0) z) (append-nil before)
    ∙ not-some (is_escaped e.0) (lookup (same e.0) before)
    (and-first (is_new before e.0) (is_entry before e.1) (and-first (is_new before e.0 && is_entry before e.1) (follow (before ++ e ∷ []) ys) h))
follow-new before (x ∷ xs) e ys h =
    ap (λ z. lookup (same e.0) z) (sym (append_assoc before (x ∷ []) xs))
    ∙ follow-new (before ++ x ∷ []) xs e ys (third (is_new before x.0) (is_entry before x.1) (follow (before ++ x ∷ []) (xs ++ e ∷ ys)) h)

pub new-behind : (symbols xs : List Symbol) (e : Symbol) (ys : List Symbol) → symbols ≡ xs ++ e ∷ ys → IsTrue (is_well_formed symbols) → lookup (same e.0) xs ≡ None
new-behind symbols xs e ys is h = follow-new [] xs e ys (subst (λ z. follow [] z ≡ true) is h)

-- a constant, as it is declared
sort_in : Entry → Sort
sort_in (entry.Constant s) = s
sort_in (entry.Macro ps b) = sort.RegLan
sort_in (entry.Machine t) = sort.RegLan

is_constant : Entry → Bool
is_constant (entry.Constant s) = true
is_constant (entry.Macro ps b) = false
is_constant (entry.Machine t) = false

same-constant : (s t : Sort) → entry.Constant s ≡ entry.Constant t → s ≡ t
unfolding sort_in
same-constant s t e = ap sort_in e

no-constant : (e : Entry) (s : Sort) → is_constant e ≡ false → e ≡ entry.Constant s → ⊥
unfolding is_constant
no-constant e s h k = true≢false (sym (ap is_constant k) ∙ h)

pub as-constant : (n : Name) (s : Sort) (symbols : List Symbol) → lookup (same n) symbols ≡ Some (entry.Constant s) → lookup (same n) (constants_of symbols) ≡ Some s
unfolding is_constant
as-constant n s [] h = absurd (cc)
as-constant n s ((m, entry.Constant t) ∷ xs) h =
    cases (same n m) (entry.Constant t) (entry.Constant s) (lookup (same n) xs)
    (λ k g. ap (λ b. cond b (Some t) (lookup (same n) (constants_of xs))) k ∙ ap Some (same-constant t s g))
    (λ k g. ap (λ b. cond b (Some t) (lookup (same n) (constants_of xs))) k ∙ as-constant n s xs g) h
as-constant n s ((m, entry.Macro ps b) ∷ xs) h =
    cases (same n m) (entry.Macro ps b) (entry.Constant s) (lookup (same n) xs) (λ k g. absurd (no-constant (entry.Macro ps b) s refl g)) (λ k g. as-constant n s xs g) h
as-constant n s ((m, entry.Machine t) ∷ xs) h =
    cases (same n m) (entry.Machine t) (entry.Constant s) (lookup (same n) xs) (λ k g. absurd (no-constant (entry.Machine t) s refl g)) (λ k g. as-constant n s xs g) h

-- the value of a declared constant
pub in-model : (words : Named) (n : Name) (s : Sort) (symbols : List Symbol) → lookup (same n) (constants_of symbols) ≡ Some s → lookup (same n) (model_of words symbols) ≡ Some (or_default s (lookup (same n) words))
in-model words n s [] h = absurd (cc)
in-model words n s ((m, entry.Constant t) ∷ xs) h =
    let value_of : Name → Sort → Value = λ k z. or_default z (lookup (same k) words) in
    let branch : (b : Bool) → same n m ≡ b → lookup (same n) (model_of words ((m, entry.Constant t) ∷ xs)) ≡ cond b (Some (value_of m t)) (lookup (same n) (model_of words xs)) =
    λ b k. ap (λ b. cond b (Some (value_of m t)) (lookup (same n) (model_of words xs))) k in
    cases (same n m) t s (lookup (same n) (constants_of xs))
    (λ k g. branch true k ∙ ap (λ z. Some (value_of z t)) (sym (one-name n m k)) ∙ ap (λ z. Some (value_of n z)) g)
    (λ k g. branch false k ∙ in-model words n s xs g) h
in-model words n s ((m, entry.Macro ps b) ∷ xs) h = in-model words n s xs h
in-model words n s ((m, entry.Machine t) ∷ xs) h = in-model words n s xs h

declared-constant : (s : Sort) (o : Option Entry) → is_constant_of s o ≡ true → o ≡ Some (entry.Constant s)
declared-constant s None h = absurd (cc)
declared-constant s (Some (entry.Constant t)) h = ap (λ z. Some (entry.Constant z)) (sym (same-is s t h))
declared-constant s (Some (entry.Macro ps b)) h = absurd (cc)
declared-constant s (Some (entry.Machine t)) h = absurd (cc)

-- the sorts of the values
abbrev Suits : Named → Symbol → Type 0
Suits values (n, entry.Constant s) = kind (or_default s (lookup (same n) values)) ≡ s
Suits values (n, entry.Macro ps b) = Unit {0}
Suits values (n, entry.Machine t) = Unit {0}

kind-default : (s : Sort) → same_sort sort.RegLan s ≡ false → kind (default s) ≡ s
kind-default sort.Bool h = refl
kind-default sort.Int h = refl
kind-default sort.String h = refl
kind-default sort.RegLan h = absurd (cc)

kind-if : (s : Sort) (v : Value) (b : Bool) → same_sort s (kind v) ≡ b → same_sort sort.RegLan s ≡ false → kind (if b then v else default s) ≡ s
kind-if s v true e h = sym (same-is s (kind v) e)
kind-if s v false e h = kind-default s h

kind-or : (s : Sort) (o : Option Value) → same_sort sort.RegLan s ≡ false → kind (or_default s o) ≡ s
kind-or s None h = kind-default s h
kind-or s (Some v) h = kind-if s v (same_sort s (kind v)) refl h

not-language : (s : Sort) → (not (same_sort sort.RegLan s)) ≡ true → same_sort sort.RegLan s ≡ false
not-language sort.Bool h = refl
not-language sort.Int h = refl
not-language sort.String h = refl
not-language sort.RegLan h = absurd (cc)

suits : (values : Named) (symbols : List Symbol) (e : Symbol) → IsTrue (is_entry symbols e.1) → Suits values e
suits values symbols (n, entry.Constant s) allowed = kind-or s (lookup (same n) values) (not-language s allowed)
suits values symbols (n, entry.Macro ps b) allowed = tt
suits values symbols (n, entry.Machine t) allowed = tt

all-suit : (values : Named) (symbols xs : List Symbol) → AllByRecursion (λ (e : Symbol). IsTrue (is_entry symbols e.1)) xs → AllByRecursion (Suits values) xs
all-suit values symbols [] a = tt
all-suit values symbols (x ∷ xs) a = (suits values symbols x a.0, all-suit values symbols xs a.1)

kinds-cover : (values : Named) (xs : List Symbol) → AllByRecursion (Suits values) xs → kinds_of (model_of values xs) ≡ constants_of xs
kinds-cover values [] h = refl
kinds-cover values ((n, entry.Constant s) ∷ xs) h = λ i. (n, h.0 i) ∷ kinds-cover values xs h.1 i
kinds-cover values ((n, entry.Macro ps b) ∷ xs) h = kinds-cover values xs h.1
kinds-cover values ((n, entry.Machine t) ∷ xs) h = kinds-cover values xs h.1

worded-each : (values : Named) (xs : List Symbol) → AllByRecursion (λ (e : Name × Value). IsWorded e.1) values → AllByRecursion (λ (e : Name × Value). IsWorded e.1) (model_of values xs)
worded-each values [] w = tt
worded-each values ((n, entry.Constant s) ∷ xs) w = (worded-or s (lookup (same n) values) (λ v h. found-has (λ _ u. IsWorded u) values n v w h), worded-each values xs w)
worded-each values ((n, entry.Macro ps b) ∷ xs) w = worded-each values xs w
worded-each values ((n, entry.Machine t) ∷ xs) w = worded-each values xs w

-- a value of its sort is kept
kept-value : (s : Sort) (o : Option Value) → is_of s o ≡ true → Some (or_default s o) ≡ o
kept-value s None h = absurd (cc)
kept-value s (Some v) h = ap (λ b. Some (if b then v else default s)) h

value-stays : (values : Named) (symbols : List Symbol) (n : Name) (s : Sort) → IsTrue (is_declared symbols n s) → IsTrue (is_of s (lookup (same n) values)) → lookup (same n) (model_of values symbols) ≡ lookup (same n) values
value-stays values symbols n s known is =
    in-model values n s symbols (as-constant n s symbols (declared-constant s (lookup (same n) symbols) known)) ∙ kept-value s (lookup (same n) values) is

abbrev pub Allowed : Type 0
Allowed = (symbols : List Symbol) → IsTrue (is_well_formed symbols) → All (λ (e : Symbol). IsTrue (is_entry symbols e.1)) symbols

abbrev pub Placed : Type 0
Placed = (symbols : List Symbol) → IsTrue (is_well_formed symbols) → All (λ (e : Symbol). lookup (same e.0) symbols ≡ Some e.1) symbols

abbrev pub Valued : Type 0
Valued = (values : Named) (symbols : List Symbol) (term : Term) → AreGiven values symbols → IsTrue (constants_known symbols term) → IsTrue (is_valued values term)

-- each value is chosen from those of the verdict
chosen-each : (values : Named) (xs : List Symbol) → AllByRecursion (Suits values) xs → AllByRecursion (λ (e : Name × Value). e.1 ≡ or_default (kind e.1) (lookup (same e.0) values)) (model_of values xs)
chosen-each values [] h = tt
chosen-each values ((n, entry.Constant s) ∷ xs) h = (ap (λ z. or_default z (lookup (same n) values)) (sym h.0), chosen-each values xs h.1)
chosen-each values ((n, entry.Macro ps b) ∷ xs) h = chosen-each values xs h.1
chosen-each values ((n, entry.Machine t) ∷ xs) h = chosen-each values xs h.1

chosen-all : Allowed → (symbols : List Symbol) (values : Named) → IsTrue (is_well_formed symbols) → AreChosen values (model_of values symbols)
chosen-all allowed symbols values formed = λ name v e.
    found-has (λ n w. w ≡ or_default (kind w) (lookup (same n) values)) (model_of values symbols) name v
    (chosen-each values symbols (all-suit values symbols symbols (recursion_from_All (λ (e : Symbol). IsTrue (is_entry symbols e.1)) symbols (allowed symbols formed)))) e

-- a value of the verdict is kept, where it has values for the constants of the assertions alone
mentioned-stays : (symbols : List Symbol) (values : Named) (n : Name) (live : List Term) → AllByRecursion (λ t. IsTrue (constants_known symbols t)) live → AllByRecursion (λ t. IsTrue (is_valued values t)) live → is_mentioned n live ≡ true
    → lookup (same n) (model_of values symbols) ≡ lookup (same n) values
mentioned-stays symbols values n [] k g m = absurd (true≢false (sym m))
mentioned-stays symbols values n (t ∷ ts) k g m =
    either (lookup (same n) (model_of values symbols) ≡ lookup (same n) values) (mentions n t) (is_mentioned n ts) m
    (agrees-at (model_of values symbols) values (is_declared symbols) (value-stays values symbols) n t k.0 g.0) (mentioned-stays symbols values n ts k.1 g.1)

keeps-all : (symbols : List Symbol) (live : List Term) (values : Named) → AllByRecursion (λ t. IsTrue (constants_known symbols t)) live → AreValued values live → AreOnly values live
    → (n : Name) (x : Value) → lookup (same n) values ≡ Some x → lookup (same n) (model_of values symbols) ≡ Some x
keeps-all symbols live values known valued only n x e = by (is_mentioned n live) refl
  where
    by : (b : Bool) → is_mentioned n live ≡ b → lookup (same n) (model_of values symbols) ≡ Some x
    by true m = mentioned-stays symbols values n live known (recursion_from_All (λ t. IsTrue (is_valued values t)) live valued) m ∙ e
    by false m = absurd (none-some x (sym (only n m) ∙ e))

pub covers-all : Allowed → (symbols : List Symbol) (values : Named) → IsTrue (is_well_formed symbols) → kinds_of (model_of values symbols) ≡ constants_of symbols
covers-all allowed symbols values formed = kinds-cover values symbols (all-suit values symbols symbols (recursion_from_All (λ (e : Symbol). IsTrue (is_entry symbols e.1)) symbols (allowed symbols formed)))

-- a right model has a value for each declared constant
kind-found : (n : Name) (values : Named) (s : Sort) → lookup (same n) (kinds_of values) ≡ Some s → IsTrue (is_of s (lookup (same n) values))
kind-found n [] s h = absurd (cc)
kind-found n (v ∷ vs) s h =
    cases (same n v.0) (kind v.1) s (lookup (same n) (kinds_of vs))
    (λ k g. ap (λ b. is_of s (cond b (Some v.1) (lookup (same n) vs))) k ∙ ap (same_sort s) g ∙ same-self s)
    (λ k g. ap (λ b. is_of s (cond b (Some v.1) (lookup (same n) vs))) k ∙ kind-found n vs s g) h

given-at : (values : Named) (symbols : List Symbol) (e : Symbol) → kinds_of values ≡ constants_of symbols → lookup (same e.0) symbols ≡ Some e.1 → IsTrue (is_given values e)
given-at values symbols (n, entry.Constant s) covers found = kind-found n values s (ap (lookup (same n)) covers ∙ as-constant n s symbols found)
given-at values symbols (n, entry.Macro ps b) covers found = refl
given-at values symbols (n, entry.Machine t) covers found = refl

pub given : Placed → (values : Named) (symbols : List Symbol) → IsTrue (is_well_formed symbols) → kinds_of values ≡ constants_of symbols → AreGiven values symbols
given placed values symbols formed covers k d l = given-at values symbols (get_or symbols k d) covers (placed symbols formed k d l)

-- one more symbol of the list, at its place
pub model-more : (words : Named) (symbols : List Symbol) (i : ℕ) (e : Symbol) (model new : Named) → Some e ≡ slice_get symbols i → model ≡ model_of words (take i symbols) → new ≡ model ++ model_of words (e ∷ []) → new ≡ model_of words (take (i + 1) symbols)
model-more words symbols i e model new h m n =
    n ∙ ap (λ z. z ++ model_of words (e ∷ [])) m ∙ sym (model-joined words (take i symbols) (e ∷ []))
    ∙ ap (model_of words) (sym (take-read symbols i e (slice_get_within symbols i e (sym h)) (sym (get_or_from_slice_get symbols i e e (sym h)))))

pub model-new : (words : Named) (symbols : List Symbol) (i : ℕ) (e : Symbol) (model : Named) → IsTrue (is_well_formed symbols) → Some e ≡ slice_get symbols i → model ≡ model_of words (take i symbols) → lookup (same e.0) model ≡ None
model-new words symbols i e model formed h m =
    let at = parted symbols i e (slice_get_within symbols i e (sym h)) (sym (get_or_from_slice_get symbols i e e (sym h))) in
    ap (lookup (same e.0)) m ∙ not-in-model words e.0 (take i symbols) (new-behind symbols (take i symbols) e (drop (i + 1) symbols) at formed)

pub not-past : {X : Type 0} (xs : List X) (i : ℕ) → i < length xs → None ≡ slice_get xs i → ⊥
not-past [] i l h = omega (arith, l)
not-past (x ∷ xs) zero l h = cc
not-past (x ∷ xs) (suc i) l h = not-past xs i (omega (arith, l)) h

-- each term has its constants' values in the model
valued-all : Allowed → Placed → Valued → (symbols : List Symbol) (live : List Term) (values : Named) → IsTrue (is_well_formed symbols) → AllByRecursion (λ t. IsTrue (constants_known symbols t)) live → AreValued (model_of values symbols) live
valued-all allowed placed valued symbols live values formed known k d l =
    valued (model_of values symbols) symbols (get_or live k d)
    (given placed (model_of values symbols) symbols formed (covers-all allowed symbols values formed))
    (All-from_recursion (λ t. IsTrue (constants_known symbols t)) live known k d l)

-- terms over well formed names have one sort for each name
pub one-sort : Allowed → Placed → Valued → (symbols : List Symbol) (live : List Term) → IsTrue (is_well_formed symbols) → AllByRecursion (λ t. IsTrue (constants_known symbols t)) live → ConstantsHaveOneSort live
one-sort allowed placed valued symbols live formed known = (model_of [] symbols, valued-all allowed placed valued symbols live [] formed known)

-- what is true at the values of a verdict is true at the model
pub true-at : Allowed → Placed → Valued → (symbols : List Symbol) (live : List Term) (values : Named) → IsTrue (is_well_formed symbols) → AllByRecursion (λ t. IsTrue (constants_known symbols t)) live → AreTrueAt values live → AreTrueAt (model_of values symbols) live
true-at allowed placed valued symbols live values formed known h = record {
  worded = All-from_recursion (λ (e : Name × Value). IsWorded e.1) (model_of values symbols) (worded-each values symbols (recursion_from_All (λ (e : Name × Value). IsWorded e.1) values h.worded));
  valued = valued-all allowed placed valued symbols live values formed known;
  holds = λ k d l.
      agrees (model_of values symbols) values (is_declared symbols) (value-stays values symbols) (get_or live k d)
      (All-from_recursion (λ t. IsTrue (constants_known symbols t)) live known k d l) (h.valued k d l)
      ∙ h.holds k d l;
}

-- the values of a verdict make a model for the declared constants
pub model-for : Allowed → Placed → Valued → (symbols : List Symbol) (live : List Term) (values : Named) → IsTrue (is_well_formed symbols) → AllByRecursion (λ t. IsTrue (constants_known symbols t)) live → AreTrueAt values live → AreOnly values live → IsModelOfSomeCube live values
    → IsModelFor symbols live (model_of values symbols)
model-for allowed placed valued symbols live values formed known right only some = record {
  covers = covers-all allowed symbols values formed;
  chosen = (
    some.0,
    some.1,
    some.2,
    model-keeps values (model_of values symbols) (keeps-all symbols live values known right.valued only) (chosen-all allowed symbols values formed) (true-at allowed placed valued symbols live values formed known right).worded some.1 some.3,
  );
  unmentioned = λ name s is no. in-model values name s symbols is ∙ ap (λ o. Some (or_default s o)) (only name no);
}

-- the verdict with the model in the place of its values
pub right-model : Allowed → Placed → Valued → (symbols : List Symbol) (live : List Term) (values : Named) → IsTrue (is_well_formed symbols) → AllByRecursion (λ t. IsTrue (constants_known symbols t)) live → RightVerdict live (Sat values) → RightVerdict live (Sat (model_of values symbols))
right-model allowed placed valued symbols live values formed known h = (h.0, true-at allowed placed valued symbols live values formed known h.1)

pub complete-model : (live : List Term) (values other : Named) → IsComplete live (Sat values) → IsComplete live (Sat other)
complete-model live values other h = record { decided = λ none u. u; unsat = h.unsat }
