-- The assertions without opaque parts, and what is known of their cubes.
use Rattle.std.proofs.Common.{◌≡◌, refl, sym, ◌∙◌, subst, ℕ, ◌<◌, cond, not, Bool, true, false, ◌&&◌, IsTrue, List, [], ◌∷◌, Some, Result, Err, IfOk, arith}
use Rattle.std.specs.List.{AllByRecursion, list_all}
use Rattle.std.proofs.lemmas.Bool.{and_parts, and_from}
use Rattle.std.proofs.lemmas.List.Elements.{recursion_from_All, All-from_recursion}
use Rattle.sv_list.specs.Lists.{AllByRecursion-weaker}
use Rattle.sv_terms.specs.CutOff.{cut_off}
use Rattle.sv_terms.specs.Meaning.{Named}
use Rattle.sv_terms.specs.Parts.{is_opaque}
use Rattle.sv_terms.specs.Sorting.{is_valued, sort_of}
use Rattle.sv_terms.specs.TransducerSizes.{is_formed, has_formed}
use Rattle.sv_terms.specs.Truth.{AreValued, clear_of}
use Rattle.sv_terms.specs.declared.sort.Sort.{Sort}
use Rattle.sv_terms.specs.declared.sort.Sort.TheVariants as sort
use Rattle.sv_terms.specs.declared.term.Term.{Term}
use Rattle.sv_terms.specs.declared.term.Term.TheVariants as v
use Rattle.assertion_parts.specs.Constants.{ConstantsHaveOneSort, has_words}
use Rattle.assertion_parts.proofs.Terms.{every-Apply, words-Apply}
use Rattle.bool_cubes.specs.Cubes.{cubes_of}
use Rattle.bool_cubes.specs.Laws.{CubesAreExact, IsAssertion, IsFittingCube, IsPassedCube, IsPassedOn, IsClearBool, IsValuedCube, LiteralsAreValued, LiteralsFit, LiteralsPass}
use Rattle.bool_cubes.specs.Past.{HasNoPast}
use Rattle.bool_cubes.specs.Refusing.{IsRefusedWhereMany, count_of, most_cubes}
use Rattle.bool_cubes.specs.declared.fault.CubeFault.{CubeFault}
use Rattle.bool_cubes.specs.declared.fault.CubeFault.TheVariants as fault
use Rattle.literal_forms.specs.Shapes.{seen}
use Rattle.literal_forms.specs.declared.literal.Literal.{Literal}
use Rattle.literal_forms.specs.declared.literal.Cube.{Cube}
use Rattle.straight_line.specs.Laws.{IsSpelled}
use Rattle.decide.specs.Completeness.{IsComplete, MustDecide}
use Rattle.decide.specs.Jobs.{IsAskedCube, IsFolded}
use Rattle.decide.specs.Verdicts.{HasOnly, RightVerdict, refused_as}
use Rattle.decide.proofs.Rightness.{AreLaws}
use Rattle.decide.proofs.Sorts.{FormedIsTold, is_spelled, spelled}

-- what holds of all terms holds of the clear ones, which besides are clear
kept : (P : Term → Type 0) (ts : List Term) → AllByRecursion P ts → AllByRecursion (λ t. P t × (is_opaque t ≡ false)) (clear_of ts)
kept P [] h = tt
kept P (t ∷ ts) h = by (is_opaque t) refl (kept P ts h.1)
  where
    by : (b : Bool) → is_opaque t ≡ b → AllByRecursion (λ t. P t × (is_opaque t ≡ false)) (clear_of ts) → AllByRecursion (λ t. P t × (is_opaque t ≡ false)) (clear_of (t ∷ ts))
    by true e rest = subst (λ b. AllByRecursion (λ t. P t × (is_opaque t ≡ false)) (cond (not b) (t ∷ clear_of ts) (clear_of ts))) (sym e) rest
    by false e rest = subst (λ b. AllByRecursion (λ t. P t × (is_opaque t ≡ false)) (cond (not b) (t ∷ clear_of ts) (clear_of ts))) (sym e) ((h.0, e), rest)

abbrev pub IsBool : Term → Type 0
IsBool t = sort_of t ≡ Some sort.Bool

pub clear-sorted : (ts : List Term) → AllByRecursion IsBool ts → AllByRecursion IsClearBool (clear_of ts)
clear-sorted ts h = AllByRecursion-weaker (λ t. IsBool t × (is_opaque t ≡ false)) IsClearBool (λ t p. record { sorted = p.0; clear = p.1 }) (clear_of ts) (kept IsBool ts h)

clear-formed : (ts : List Term) → AllByRecursion (λ t. IsTrue (has_formed t)) ts → AllByRecursion (λ t. IsTrue (has_formed t)) (clear_of ts)
clear-formed ts h = AllByRecursion-weaker (λ t. IsTrue (has_formed t) × (is_opaque t ≡ false)) (λ t. IsTrue (has_formed t)) (λ t p. p.0) (clear_of ts) (kept (λ t. IsTrue (has_formed t)) ts h)

pub clear-one-sort : (ts : List Term) → ConstantsHaveOneSort ts → ConstantsHaveOneSort (clear_of ts)
clear-one-sort ts one =
    let P = λ (t : Term). IsTrue (is_valued one.0 t) in
    (one.0, All-from_recursion P (clear_of ts) (AllByRecursion-weaker (λ t. P t × (is_opaque t ≡ false)) P (λ t p. p.0) (clear_of ts) (kept P ts (recursion_from_All P ts one.1))))

assertions : (values : Named) (ts : List Term) → AllByRecursion IsClearBool ts → AllByRecursion (λ t. IsTrue (is_valued values t)) ts → AllByRecursion (IsAssertion values) ts
assertions values [] s h = tt
assertions values (t ∷ ts) s h = (record { sorted = s.0.sorted; valued = h.0; clear = s.0.clear }, assertions values ts s.1 h.1)

-- that all are spelled
spelled-all : (ts : List Term) → IsTrue (list_all has_words ts) → AllByRecursion (λ t. IsTrue (has_formed t)) ts → IsTrue (list_all is_spelled ts)
spelled-all [] h k = refl
spelled-all (t ∷ ts) h k = let p = and_parts (has_words t) (list_all has_words ts) h in and_from (is_spelled t) (list_all is_spelled ts) (and_from (has_words t) (has_formed t) p.0 k.0) (spelled-all ts p.1 k.1)

halves : (ts : List Term) → IsTrue (list_all has_words ts) → IsTrue (list_all has_formed ts) → IsTrue (list_all is_spelled ts)
halves [] h k = refl
halves (t ∷ ts) h k =
    let p = and_parts (has_words t) (list_all has_words ts) h in
    let q = and_parts (has_formed t) (list_all has_formed ts) k in
    and_from (is_spelled t) (list_all is_spelled ts) (and_from (has_words t) (has_formed t) p.0 q.0) (halves ts p.1 q.1)

-- a test that is passed on
abbrev of_any : List ℕ → Sort → Bool
of_any n s = true

passed-on : IsPassedOn is_spelled
passed-on = record {
  joined = λ o s t h k.
      let p = and_parts (has_words s) (has_formed s) h in
      let q = and_parts (has_words t) (has_formed t) k in
      and_from (has_words (v.Apply o (s ∷ t ∷ []))) (has_formed (v.Apply o (s ∷ t ∷ [])))
      (words-Apply o (s ∷ t ∷ []) ∙ and_from (has_words s) (has_words t && true) p.0 (and_from (has_words t) true q.0 refl))
      (every-Apply of_any is_formed o (s ∷ t ∷ []) ∙ and_from (has_formed s) (has_formed t && true) p.1 (and_from (has_formed t) true q.1 refl));
  parts = λ o ts h.
      let p = and_parts (has_words (v.Apply o ts)) (has_formed (v.Apply o ts)) h in
      halves ts (sym (words-Apply o ts) ∙ p.0) (sym (every-Apply of_any is_formed o ts) ∙ p.1);
}

literals-spelled : FormedIsTold → (ls : List Literal) → AllByRecursion (λ (l : Literal). IsTrue (is_spelled l.atom)) ls → AllByRecursion (λ (l : Literal). IsSpelled (seen l.atom)) ls
literals-spelled told [] h = tt
literals-spelled told (l ∷ ls) h = (spelled told l.atom h.0, literals-spelled told ls h.1)

-- what holds of each list at each value holds of each at all values
turned : (A : Named → Type 0) (P : Named → Cube → Type 0) (cs : List Cube) → ((values : Named) → A values → AllByRecursion (P values) cs) → AllByRecursion (λ c. (values : Named) → A values → P values c) cs
turned A P [] h = tt
turned A P (c ∷ cs) h = (λ values a. (h values a).0, turned A P cs (λ values a. (h values a).1))

asked-each : (terms : List Term) (cs : List Cube) → ConstantsHaveOneSort (clear_of terms) → AllByRecursion IsFittingCube cs → AllByRecursion (λ (c : Cube). AllByRecursion (λ (l : Literal). IsSpelled (seen l.atom)) c.literals) cs
    → AllByRecursion (λ c. (values : Named) → AreValued values (clear_of terms) → IsValuedCube values c) cs → AllByRecursion (IsAskedCube terms) cs
asked-each terms [] one f s w = tt
asked-each terms (c ∷ cs) one f s w = (record { fits = f.0; spelled = s.0; valued = w.0; one_sort = one }, asked-each terms cs one f.1 s.1 w.1)

-- a cube of assertions may be asked
pub all-asked : LiteralsFit → LiteralsPass → LiteralsAreValued → FormedIsTold → (terms : List Term) → AllByRecursion IsBool terms → AllByRecursion (λ t. IsTrue (has_formed t)) terms → ConstantsHaveOneSort terms
    → IsTrue (list_all has_words (clear_of terms)) → HasNoPast (clear_of terms) → AllByRecursion (IsAskedCube terms) (cubes_of (clear_of terms))
all-asked fit pass valued told terms sorted formed one words plain =
    let cs = cubes_of (clear_of terms) in
    let good = spelled-all (clear_of terms) words (clear-formed terms formed) in
    asked-each terms cs (clear-one-sort terms one) (fit (clear_of terms) plain)
    (AllByRecursion-weaker (IsPassedCube is_spelled) (λ (c : Cube). AllByRecursion (λ (l : Literal). IsSpelled (seen l.atom)) c.literals) (λ c h. literals-spelled told c.literals h) cs (pass is_spelled passed-on (clear_of terms) good))
    (turned (λ values. AreValued values (clear_of terms)) IsValuedCube cs
    (λ values a. valued values (clear_of terms) (assertions values (clear_of terms) (clear-sorted terms sorted) (recursion_from_All (λ t. IsTrue (is_valued values t)) (clear_of terms) a))))

-- the laws of the cubes
pub laws-of : CubesAreExact → LiteralsAreValued → (terms : List Term) → AllByRecursion IsBool terms → AreLaws terms
laws-of exact valued terms sorted = record {
  valued = λ values a. valued values (clear_of terms) (assertions values (clear_of terms) (clear-sorted terms sorted) (recursion_from_All (λ t. IsTrue (is_valued values t)) (clear_of terms) a));
  same = λ values a. exact values (clear_of terms) (assertions values (clear_of terms) (clear-sorted terms sorted) (recursion_from_All (λ t. IsTrue (is_valued values t)) (clear_of terms) a));
}

cut-more : (n : ℕ) → most_cubes < n → most_cubes < cut_off n
cut-more n h = omega (arith, h)

-- refusals
module _ (X : Type 0) (terms : List Term) where
  pub refused-right : (f : CubeFault) → IsRefusedWhereMany {X = X} (clear_of terms) (Err f) → IfOk (refused_as f) (RightVerdict terms)
  refused-right (fault.Past l r) h = h
  refused-right (fault.TooMany n) h = (h.2, subst (λ k. most_cubes < k) (sym h.2) (cut-more (count_of (clear_of terms)) h.1))
  refused-right (fault.Memory e) h = tt

  pub refused-complete : (f : CubeFault) → IsRefusedWhereMany {X = X} (clear_of terms) (Err f) → MustDecide terms → IfOk (refused_as f) (IsComplete terms)
  refused-complete (fault.Past l r) h must = absurd (must.fits l r h)
  refused-complete (fault.TooMany n) h must = absurd (let few = must.few in let many = h.1 in omega (arith, few, many))
  refused-complete (fault.Memory e) h must = tt

  pub refused-at : (xs : List Term) (r : Result X CubeFault) (f : CubeFault) → xs ≡ clear_of terms → r ≡ Err f → IsRefusedWhereMany xs r → IsRefusedWhereMany {X = X} (clear_of terms) (Err f)
  refused-at xs r f e is h = subst (λ ts. IsRefusedWhereMany {X = X} ts (Err f)) e (subst (IsRefusedWhereMany xs) is h)

pub refused-only : (terms : List Term) (f : CubeFault) → IfOk (refused_as f) (HasOnly terms)
refused-only terms (fault.Past l r) = tt
refused-only terms (fault.TooMany n) = tt
refused-only terms (fault.Memory e) = tt

pub refused-folded : (terms : List Term) (f : CubeFault) → IfOk (refused_as f) (IsFolded terms)
refused-folded terms (fault.Past l r) = tt
refused-folded terms (fault.TooMany n) = tt
refused-folded terms (fault.Memory e) = tt
