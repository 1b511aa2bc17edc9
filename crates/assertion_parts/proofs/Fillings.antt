-- Values for the constants of terms, one after another.
use Rattle.std.proofs.Common.{◌≡◌, refl, sym, ap, ◌∙◌, subst, ℕ, suc, ◌+◌, ◌<◌, cond, not, Bool, true, false, ◌&&◌, ◌||◌, IsTrue, All, List, [], ◌∷◌, ◌++◌, length, take, get_or, Option, Some, None, Bor, nat_eq, arith}
use Rattle.std.specs.List.{AllByRecursion, list_all, list_any}
use Rattle.std.specs.Option.{is_some, option_copied}
use Rattle.std.specs.Cmp.Lexicographic.{pointwise}
use Rattle.std.proofs.lemmas.Bool.{and_parts, and_from, or_parts}
use Rattle.std.proofs.lemmas.List.Elements.{recursion_from_All, All-from_recursion}
use Rattle.sv_list.specs.Bools.{or-false, and-true}
use Rattle.indexmap.specs.IndexMap.{insert_entry}
use Rattle.sv_terms.specs.Meaning.{Named}
use Rattle.sv_terms.specs.NamedLaws.{found-set, found-other, one-name}
use Rattle.sv_terms.specs.Parts.{is_opaque}
use Rattle.sv_terms.specs.Sorting.{is_of, is_valued, kind, same_sort}
use Rattle.sv_terms.specs.Truth.{AreWorded, IsWorded, clear_of}
use Rattle.sv_terms.specs.declared.op.Op.{Op}
use Rattle.sv_terms.specs.declared.regex.Regex.{Regex}
use Rattle.sv_terms.specs.declared.sort.Sort.{Sort}
use Rattle.sv_terms.specs.declared.sort.Sort.TheVariants as sort
use Rattle.sv_terms.specs.declared.term.Term.{Term}
use Rattle.sv_terms.specs.declared.term.Term.TheVariants as v
use Rattle.sv_terms.specs.declared.transducer.Transducer.{Transducer}
use Rattle.sv_terms.specs.declared.value.Value.{Value}
use Rattle.sv_terms.specs.declared.value.Value.TheVariants.{Truth, Number, Text}
use Rattle.assertion_parts.specs.Constants.{mentions, is_mentioned, ConstantsHaveOneSort}
use Rattle.assertion_parts.specs.Filling.{default, or_default, value_of, AreChosen, IsFilling, Grows, Fills, FillsAll, FillsOne, IsFilledFrom}
use Rattle.assertion_parts.proofs.Listed.{take-more}
use Rattle.assertion_parts.proofs.Sorts.{same-is, same-self, valued-kept, all-kept}
use Rattle.assertion_parts.proofs.Terms.{every-Constant, every-Apply, every-InRe, every-Related, some-Constant, some-Apply, some-InRe, some-Related}

abbrev Name : Type 0
Name = List ℕ

abbrev same : Name → Name → Bool
same = pointwise nat_eq

-- what is said of a value behind a reference
pub copied-some : {X : Type 0} (o : Option (Bor X)) (p : Option X) → is_some o ≡ true → option_copied o ≡ p → (x : X) × (p ≡ Some x)
copied-some None p h e = absurd cc
copied-some (Some b) p h e = (b.now, sym e)

pub copied-none : {X : Type 0} (o : Option (Bor X)) (p : Option X) → is_some o ≡ false → option_copied o ≡ p → p ≡ None
copied-none None p h e = sym e
copied-none (Some b) p h e = absurd cc

abbrev Worded : Named → Type 0
Worded = AllByRecursion (λ (e : Name × Value). IsWorded e.1)

worded-set : (xs : Named) (k : Name) (x : Value) → Worded xs → IsWorded x → Worded (insert_entry same xs k x)
worded-set [] k x h w = (w, tt)
worded-set (e ∷ es) k x h w = by (same k e.0) refl (worded-set es k x h.1 w)
  where
    by : (b : Bool) → same k e.0 ≡ b → Worded (insert_entry same es k x) → Worded (insert_entry same (e ∷ es) k x)
    by true g rest = subst (λ b. Worded (cond b ((e.0, x) ∷ es) (e ∷ insert_entry same es k x))) (sym g) (w, h.1)
    by false g rest = subst (λ b. Worded (cond b ((e.0, x) ∷ es) (e ∷ insert_entry same es k x))) (sym g) (h.0, rest)

worded-found : (xs : Named) (n : Name) (x : Value) → Worded xs → value_of xs n ≡ Some x → IsWorded x
worded-found [] n x h e = absurd cc
worded-found (y ∷ ys) n x h e = by (same n y.0) refl (worded-found ys n x h.1)
  where
    by : (b : Bool) → same n y.0 ≡ b → (value_of ys n ≡ Some x → IsWorded x) → IsWorded x
    by true g rest = let s : Some y.1 ≡ Some x = sym (ap (λ b. cond b (Some y.1) (value_of ys n)) g) ∙ e in let t : y.1 ≡ x = cc in subst IsWorded t h.0
    by false g rest = rest (sym (ap (λ b. cond b (Some y.1) (value_of ys n)) g) ∙ e)

-- the value that is chosen
not-language : (s : Sort) → (o : Option Value) → is_of s o ≡ true → s ≡ sort.RegLan → ⊥
not-language s None h e = absurd cc
not-language s (Some (Truth b)) h e = absurd (let k : same_sort sort.RegLan sort.Bool ≡ true = subst (λ z. same_sort z sort.Bool ≡ true) e h in cc)
not-language s (Some (Number n)) h e = absurd (let k : same_sort sort.RegLan sort.Int ≡ true = subst (λ z. same_sort z sort.Int ≡ true) e h in cc)
not-language s (Some (Text w)) h e = absurd (let k : same_sort sort.RegLan sort.String ≡ true = subst (λ z. same_sort z sort.String ≡ true) e h in cc)

kind-default : (s : Sort) → (s ≡ sort.RegLan → ⊥) → kind (default s) ≡ s
kind-default sort.Bool f = refl
kind-default sort.Int f = refl
kind-default sort.String f = refl
kind-default sort.RegLan f = absurd (f refl)

kind-or : (s : Sort) → (s ≡ sort.RegLan → ⊥) → (o : Option Value) → kind (or_default s o) ≡ s
kind-or s f None = kind-default s f
kind-or s f (Some x) = by (same_sort s (kind x)) refl
  where
    by : (b : Bool) → same_sort s (kind x) ≡ b → kind (or_default s (Some x)) ≡ s
    by true g = ap (λ b. kind (cond b x (default s))) g ∙ sym (same-is s (kind x) g)
    by false g = ap (λ b. kind (cond b x (default s))) g ∙ kind-default s f

pub worded-default : (s : Sort) → IsWorded (default s)
worded-default sort.Bool = tt
worded-default sort.Int = tt
worded-default sort.String = tt
worded-default sort.RegLan = tt

pub worded-or : (s : Sort) (o : Option Value) → ((x : Value) → o ≡ Some x → IsWorded x) → IsWorded (or_default s o)
worded-or s None f = worded-default s
worded-or s (Some x) f = by (same_sort s (kind x)) refl
  where
    by : (b : Bool) → same_sort s (kind x) ≡ b → IsWorded (or_default s (Some x))
    by true g = subst (λ b. IsWorded (cond b x (default s))) (sym g) (f x refl)
    by false g = subst (λ b. IsWorded (cond b x (default s))) (sym g) (worded-default s)

-- a value of the sort of one that is there
of-both : (s : Sort) (u : Value) (o : Option Value) → is_of s o ≡ true → is_of (kind u) o ≡ true → same_sort s (kind u) ≡ true
of-both s u None h k = absurd cc
of-both s u (Some x) h k = subst (λ z. same_sort s z ≡ true) (same-is s (kind x) h ∙ sym (same-is (kind u) (kind x) k)) (same-self s)

-- a step that does nothing, and two steps
pub grows-none : (sample given old : Named) (test : Name → Bool) → IsFilling sample given old → Grows sample given old old test
grows-none sample given old test h = record { filling = h; kept = λ n x e. e; others = λ n e. refl }

pub grows-more : (sample given old new : Named) (test other : Name → Bool) → ((n : Name) → other n ≡ test n) → Grows sample given old new test → Grows sample given old new other
grows-more sample given old new test other e g = record { filling = g.filling; kept = g.kept; others = λ n h. g.others n (sym (e n) ∙ h) }

pub grows-twice : (sample given old mid new : Named) (one two : Name → Bool) → Grows sample given old mid one → Grows sample given mid new two → Grows sample given old new (λ n. one n || two n)
grows-twice sample given old mid new one two g h = record {
  filling = h.filling;
  kept = λ n x e. h.kept n x (g.kept n x e);
  others = λ n e. let p = or_parts (one n) (two n) e in h.others n p.1 ∙ g.others n p.0;
}

-- a constant that has a value
pub fills-there : (given : Named) (name : Name) (s : Sort) (old : Named) (u : Value) → value_of old name ≡ Some u → FillsOne given name s old old
fills-there given name s old u e sample of h = (grows-none sample given old (λ other. same other name) h, subst (λ o. is_of s o ≡ true) (sym e) (of-both s u (value_of sample name) of (h.of_sort name u e)))

-- one that gets it
pub fills-new : (given : Named) (name : Name) (s : Sort) (old new : Named) (x : Value) → value_of old name ≡ None → x ≡ or_default s (value_of given name) → new ≡ insert_entry same old name x → FillsOne given name s old new
fills-new given name s old new x none is set sample of h = (
  record {
    filling = record { chosen = chosen; of_sort = of_sort; worded = worded };
    kept = kept;
    others = λ n f. other n f;
  },
  ap (is_of s) here ∙ subst (λ z. same_sort s z ≡ true) (sym kind-is) (same-self s),
)
  where
    no-language : s ≡ sort.RegLan → ⊥
    no-language = not-language s (value_of sample name) of

    kind-is : kind x ≡ s
    kind-is = ap kind is ∙ kind-or s no-language (value_of given name)

    here : value_of new name ≡ Some x
    here = ap (λ m. value_of m name) set ∙ found-set old name x

    other : (n : Name) → same n name ≡ false → value_of new n ≡ value_of old n
    other n f = ap (λ m. value_of m n) set ∙ found-other old name n x f

    -- what holds of the new value, and of each old one
    each : (P : Name → Value → Type 0) → P name x → ((n : Name) (y : Value) → value_of old n ≡ Some y → P n y) → (n : Name) (y : Value) → value_of new n ≡ Some y → P n y
    each P p q n y e = by (same n name) refl
      where
        by : (b : Bool) → same n name ≡ b → P n y
        by true g =
            let m : name ≡ n = sym (one-name n name g) in
            let xy : Some x ≡ Some y = sym here ∙ ap (value_of new) m ∙ e in
            let z : x ≡ y = cc in
            subst (λ k. P k y) m (subst (P name) z p)
        by false g = q n y (sym (other n g) ∙ e)

    chosen : AreChosen given new
    chosen = each (λ n y. y ≡ or_default (kind y) (value_of given n)) (is ∙ ap (λ z. or_default z (value_of given name)) (sym kind-is)) h.chosen

    of_sort : (n : Name) (y : Value) → value_of new n ≡ Some y → is_of (kind y) (value_of sample n) ≡ true
    of_sort = each (λ n y. is_of (kind y) (value_of sample n) ≡ true) (subst (λ z. is_of z (value_of sample name) ≡ true) (sym kind-is) of) h.of_sort

    worded : AreWorded given → AreWorded new
    worded w =
        let p = recursion_from_All (λ (e : Name × Value). IsWorded e.1) given w in
        let q = recursion_from_All (λ (e : Name × Value). IsWorded e.1) old (h.worded w) in
        let r = subst IsWorded (sym is) (worded-or s (value_of given name) (λ y e. worded-found given name y p e)) in
        All-from_recursion (λ (e : Name × Value). IsWorded e.1) new (subst Worded (sym set) (worded-set old name x q r))

    kept : (n : Name) (y : Value) → value_of old n ≡ Some y → value_of new n ≡ Some y
    kept n y e = by (same n name) refl
      where
        by : (b : Bool) → same n name ≡ b → value_of new n ≡ Some y
        by true g = absurd (let m : None ≡ Some y = sym none ∙ ap (value_of old) (sym (one-name n name g)) ∙ e in cc)
        by false g = other n g ∙ e

-- the terms
module _ (given old : Named) where
  pub fills-Constant : (new : Named) (name : Name) (s : Sort) → FillsOne given name s old new → Fills given (v.Constant name s) old new
  fills-Constant new name s f sample of h =
      let g = λ (values : Named) (n : Name) (z : Sort). is_of z (value_of values n) in
      let m = λ (x : Transducer). true in
      let r = f sample (sym (every-Constant (g sample) m name s) ∙ of) h in (
        grows-more sample given old new (λ n. same n name) (λ n. mentions n (v.Constant name s)) (λ n. some-Constant (λ other z. same n other) false name s) r.0,
        every-Constant (g new) m name s ∙ r.1,
      )

  pub fills-Apply : (new : Named) (o : Op) (ts : List Term) → FillsAll given ts old new → Fills given (v.Apply o ts) old new
  fills-Apply new o ts f sample of h =
      let g = λ (values : Named) (n : Name) (z : Sort). is_of z (value_of values n) in
      let m = λ (x : Transducer). true in
      let r = f sample (sym (every-Apply (g sample) m o ts) ∙ of) h in (
        grows-more sample given old new (λ n. is_mentioned n ts) (λ n. mentions n (v.Apply o ts)) (λ n. some-Apply (λ other z. same n other) false o ts) r.0,
        every-Apply (g new) m o ts ∙ r.1,
      )

  pub fills-InRe : (new : Named) (t : Term) (q : Regex) → Fills given t old new → Fills given (v.InRe t q) old new
  fills-InRe new t q f sample of h =
      let g = λ (values : Named) (n : Name) (z : Sort). is_of z (value_of values n) in
      let m = λ (x : Transducer). true in
      let r = f sample (sym (every-InRe (g sample) m t q) ∙ of) h in (
        grows-more sample given old new (λ n. mentions n t) (λ n. mentions n (v.InRe t q)) (λ n. some-InRe (λ other z. same n other) false t q) r.0,
        every-InRe (g new) m t q ∙ r.1,
      )

  pub fills-Related : (mid new : Named) (x : Transducer) (t u : Term) → Fills given t old mid → Fills given u mid new → Fills given (v.Related x t u) old new
  fills-Related mid new x t u e f sample of h =
      let g = λ (values : Named) (n : Name) (z : Sort). is_of z (value_of values n) in
      let m = λ (y : Transducer). true in
      let p = and_parts (is_valued sample t) (is_valued sample u) (sym (every-Related (g sample) m x t u) ∙ of) in
      let r = e sample p.0 h in
      let q = f sample p.1 r.0.filling in (
        grows-more sample given old new (λ n. mentions n t || mentions n u) (λ n. mentions n (v.Related x t u)) (λ n. some-Related (λ other z. same n other) false x t u)
            (grows-twice sample given old mid new (λ n. mentions n t) (λ n. mentions n u) r.0 q.0),
        every-Related (g new) m x t u ∙ and_from (is_valued new t) (is_valued new u) (valued-kept mid new q.0.kept t r.1) q.1,
      )

  pub fills-no-terms : FillsAll given [] old old
  fills-no-terms sample of h = (grows-none sample given old (λ n. false) h, refl)

any-joined : (f : Term → Bool) (ts us : List Term) → list_any f (ts ++ us) ≡ (list_any f ts || list_any f us)
any-joined f [] us = refl
any-joined f (t ∷ ts) us = ap (λ b. f t || b) (any-joined f ts us) ∙ sym (or-assoc (f t) (list_any f ts) (list_any f us))
  where
    or-assoc : (a b c : Bool) → ((a || b) || c) ≡ (a || (b || c))
    or-assoc true b c = refl
    or-assoc false b c = refl

all-joined : (f : Term → Bool) (ts us : List Term) → list_all f (ts ++ us) ≡ (list_all f ts && list_all f us)
all-joined f [] us = refl
all-joined f (t ∷ ts) us = ap (λ b. f t && b) (all-joined f ts us) ∙ sym (and-assoc (f t) (list_all f ts) (list_all f us))
  where
    and-assoc : (a b c : Bool) → ((a && b) && c) ≡ (a && (b && c))
    and-assoc true b c = refl
    and-assoc false b c = refl

-- more terms
pub fills-joined : (given old mid new : Named) (ts us : List Term) → FillsAll given ts old mid → FillsAll given us mid new → FillsAll given (ts ++ us) old new
fills-joined given old mid new ts us e f sample of h =
    let p = and_parts (list_all (is_valued sample) ts) (list_all (is_valued sample) us) (sym (all-joined (is_valued sample) ts us) ∙ of) in
    let r = e sample p.0 h in
    let q = f sample p.1 r.0.filling in (
      grows-more sample given old new (λ n. is_mentioned n ts || is_mentioned n us) (λ n. is_mentioned n (ts ++ us)) (λ n. any-joined (mentions n) ts us)
          (grows-twice sample given old mid new (λ n. is_mentioned n ts) (λ n. is_mentioned n us) r.0 q.0),
      all-joined (is_valued new) ts us ∙ and_from (list_all (is_valued new) ts) (list_all (is_valued new) us) (all-kept mid new q.0.kept ts r.1) q.1,
    )

pub fills-single : (given old new : Named) (t : Term) → Fills given t old new → FillsAll given (t ∷ []) old new
fills-single given old new t f sample of h =
    let r = f sample (sym (and-true (is_valued sample t)) ∙ of) h in (
      grows-more sample given old new (λ n. mentions n t) (λ n. is_mentioned n (t ∷ [])) (λ n. or-false (mentions n t)) r.0,
      and-true (is_valued new t) ∙ r.1,
    )

-- one term more
pub fills-more : (given old mid new : Named) (ts : List Term) (i : ℕ) (t d : Term) → i < length ts → get_or ts i d ≡ t → FillsAll given (take i ts) old mid → Fills given t mid new → FillsAll given (take (i + 1) ts) old new
fills-more given old mid new ts i t d lt e f g =
    subst (λ l. FillsAll given l old new) (sym (take-more ts i t d lt e)) (fills-joined given old mid new (take i ts) (t ∷ []) f (fills-single given mid new t g))

-- and one of which only the clear ones count
clear-joined : (ts us : List Term) → clear_of (ts ++ us) ≡ clear_of ts ++ clear_of us
clear-joined [] us = refl
clear-joined (t ∷ ts) us = by (not (is_opaque t)) refl (clear-joined ts us)
  where
    by : (b : Bool) → not (is_opaque t) ≡ b → clear_of (ts ++ us) ≡ clear_of ts ++ clear_of us → clear_of ((t ∷ ts) ++ us) ≡ clear_of (t ∷ ts) ++ clear_of us
    by true e rest = ap (λ b. cond b (t ∷ clear_of (ts ++ us)) (clear_of (ts ++ us))) e ∙ ap (λ l. t ∷ l) rest ∙ sym (ap (λ b. cond b (t ∷ clear_of ts) (clear_of ts) ++ clear_of us) e)
    by false e rest = ap (λ b. cond b (t ∷ clear_of (ts ++ us)) (clear_of (ts ++ us))) e ∙ rest ∙ sym (ap (λ b. cond b (t ∷ clear_of ts) (clear_of ts) ++ clear_of us) e)

pub clear-more : (given old mid new : Named) (ts : List Term) (i : ℕ) (t d : Term) → i < length ts → get_or ts i d ≡ t → FillsAll given (clear_of (take i ts)) old mid → FillsAll given (clear_of (t ∷ [])) mid new → FillsAll given (clear_of (take (i + 1) ts)) old new
clear-more given old mid new ts i t d lt e f g =
    subst (λ l. FillsAll given l old new) (sym (ap clear_of (take-more ts i t d lt e) ∙ clear-joined (take i ts) (t ∷ []))) (fills-joined given old mid new (clear_of (take i ts)) (clear_of (t ∷ [])) f g)

pub clear-opaque : (t : Term) → is_opaque t ≡ true → clear_of (t ∷ []) ≡ []
clear-opaque t e = ap (λ b. cond (not b) (t ∷ []) []) e

pub clear-plain : (t : Term) → is_opaque t ≡ false → clear_of (t ∷ []) ≡ t ∷ []
clear-plain t e = ap (λ b. cond (not b) (t ∷ []) []) e

-- all terms, from nothing on
all-true : (f : Term → Bool) (ts : List Term) → All (λ t. IsTrue (f t)) ts → IsTrue (list_all f ts)
all-true f [] h = refl
all-true f (t ∷ ts) h = and_from (f t) (list_all f ts) (h 0 t (omega arith)) (all-true f ts (λ k d l. h (suc k) d (omega (arith, l))))

true-all : (f : Term → Bool) (ts : List Term) → IsTrue (list_all f ts) → AllByRecursion (λ t. IsTrue (f t)) ts
true-all f [] h = tt
true-all f (t ∷ ts) h = let p = and_parts (f t) (list_all f ts) h in (p.0, true-all f ts p.1)

nothing : (sample given : Named) → IsFilling sample given []
nothing sample given = record {
  chosen = λ n x e. absurd cc;
  of_sort = λ n x e. absurd cc;
  worded = λ w k d l. absurd (omega (arith, l));
}

pub filled : (given : Named) (ts : List Term) (full : Named) → FillsAll given ts [] full → ConstantsHaveOneSort ts → IsFilledFrom given ts full
filled given ts full f one =
    let r = f one.0 (all-true (is_valued one.0) ts one.1) (nothing one.0 given) in record {
      chosen = r.0.filling.chosen;
      worded = r.0.filling.worded;
      just = record {
        valued = All-from_recursion (λ t. IsTrue (is_valued full t)) ts (true-all (is_valued full) ts r.1);
        only = λ n e. r.0.others n e;
      };
    }
