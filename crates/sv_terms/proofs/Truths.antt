-- Values that are no truth values, words or meanings: what no assertion is made true by.
use Rattle.std.proofs.Common.{◌≡◌, refl, sym, ap, ◌∙◌, subst, map, Bool, true, false, not, IsTrue, ℕ, zero, suc, List, [], ◌∷◌, Option, Some, None, nat_eq, arith, ⊎_elim}
use Rattle.std.specs.List.{list_all, list_any}
use Rattle.std.specs.Map.{lookup}
use Rattle.std.specs.Option.{option_map}
use Rattle.std.specs.Cmp.Lexicographic.{pointwise}
use Rattle.std.proofs.lemmas.Bool.{and_parts, or_cases}
use mathlib.Core.Bool.{cond}
use Rattle.sv_word.specs.Words.{IsWord}
use Rattle.sv_terms.specs.declared.value.Value.{Value}
use Rattle.sv_terms.specs.declared.value.Value.TheVariants.{Truth, Number, Text}
use Rattle.sv_terms.specs.declared.op.Op.{Op}
use Rattle.sv_terms.specs.declared.op.Op.TheVariants as op
use Rattle.sv_terms.specs.declared.regex.Regex.{Regex}
use Rattle.sv_terms.specs.declared.regex.Regex.TheVariants as regex
use Rattle.sv_terms.specs.declared.sort.Sort.{Sort}
use Rattle.sv_terms.specs.declared.sort.Sort.TheVariants as sort
use Rattle.sv_terms.specs.declared.term.Term.{Term, roll-Term}
use Rattle.sv_terms.specs.declared.term.Term.TheVariants as v
use Rattle.sv_terms.specs.declared.term.Term.TheOpen.{Term-F}
use Rattle.sv_terms.specs.declared.term.Term.TheFolds.{map-Term, ind-Term, fold-roll-Term}
use Rattle.sv_terms.specs.declared.transducer.Transducer.{Transducer}
use Rattle.sv_terms.specs.Language.{Word}
use Rattle.sv_terms.specs.Matches.{matches}
use Rattle.sv_terms.specs.Meaning.{Named, all_of, applied, applied_if, tested, related, val, val_step}
use Rattle.sv_terms.specs.Opened.{In-All}
use Rattle.sv_terms.specs.Parts.{opaque_step, is_opaque}
use Rattle.sv_terms.specs.Sorting.{is_of, valued_step, is_valued}
use Rattle.sv_terms.specs.Truth.{clear_of, IsWorded, AreWorded, AreTrueAt, HasValues, HasNoValues}
use Rattle.sv_terms.proofs.Matching.{matches-In}

-- a term with an opaque part has no meaning
all_later : (o : Option Value) (os : List (Option Value)) → all_of os ≡ None → all_of (o ∷ os) ≡ None
all_later None os e = refl
all_later (Some x) os e = ap (option_map (λ xs. x ∷ xs)) e

related_none : (t : Transducer) (o : Option Value) → related t o None ≡ None
related_none t None = refl
related_none t (Some (Truth b)) = refl
related_none t (Some (Number n)) = refl
related_none t (Some (Text w)) = refl

module _ (values : Named) where
  abbrev IsLost : Term → Type 0
  IsLost t = IsTrue (is_opaque t) → val values t ≡ None

  abbrev Lost : Type 0
  Lost = (t : Term) × IsLost t

  abbrev parts : List Lost → List Term
  parts ys = map (λ y. y.0) ys

  each_lost : (ys : List Lost) → IsTrue (list_any (λ b. b) (map is_opaque (parts ys))) → all_of (map (val values) (parts ys)) ≡ None
  each_lost [] h = absurd (cc)
  each_lost (y ∷ ys) h =
      ⊎_elim (λ k. ap (λ o. all_of (o ∷ map (val values) (parts ys))) (y.1 k))
      (λ k. all_later (val values y.0) (map (val values) (parts ys)) (each_lost ys k))
      (or_cases (is_opaque y.0) (list_any (λ b. b) (map is_opaque (parts ys))) h)

  layer_lost : (y : Term-F Lost) → IsTrue (opaque_step (map-Term Term Bool is_opaque (map-Term Lost Term (λ e. e.0) y)))
      → val_step values (map-Term Term (Option Value) (val values) (map-Term Lost Term (λ e. e.0) y)) ≡ None
  layer_lost (Term-F.Truth b) h = absurd (cc)
  layer_lost (Term-F.Number n) h = absurd (cc)
  layer_lost (Term-F.Text w) h = absurd (cc)
  layer_lost (Term-F.Constant name s) h = absurd (cc)
  layer_lost (Term-F.Apply o ys) h = ap (applied_if o) (each_lost ys h)
  layer_lost (Term-F.InRe y r) h = ap (tested (matches r)) (y.1 h)
  layer_lost (Term-F.Related t y z) h =
      ⊎_elim (λ k. ap (λ o. related t o (val values z.0)) (y.1 k))
      (λ k. ap (related t (val values y.0)) (z.1 k) ∙ related_none t (val values y.0))
      (or_cases (is_opaque y.0) (is_opaque z.0) h)
  layer_lost (Term-F.Opaque s) h = refl

  pub opaque-none : (t : Term) → IsTrue (is_opaque t) → val values t ≡ None
  opaque-none = ind-Term IsLost (λ x y is h.
      let k = subst (λ z. IsTrue (opaque_step (map-Term Term Bool is_opaque z)) → val_step values (map-Term Term (Option Value) (val values) z) ≡ None) is (layer_lost y) in
      fold-roll-Term (Option Value) (val_step values) x ∙ k (sym (fold-roll-Term Bool opaque_step x) ∙ h))

  -- the meaning of a few forms
  at : (t : Term) (x : Term-F Term) → roll-Term x ≡ t → val values t ≡ val_step values (map-Term Term (Option Value) (val values) x)
  at t x e = ap (val values) (sym e) ∙ fold-roll-Term (Option Value) (val_step values) x

  valued_at : (t : Term) (x : Term-F Term) → roll-Term x ≡ t → is_valued values t ≡ valued_step values (map-Term Term Bool (is_valued values) x)
  valued_at t x e = ap (is_valued values) (sym e) ∙ fold-roll-Term Bool (valued_step values) x

  val-Constant : (n : List ℕ) (s : Sort) → val values (v.Constant n s) ≡ lookup (pointwise nat_eq n) values
  val-Constant n s = at _ (Term-F.Constant n s) (v.rolls-Constant n s)

  val-Apply : (o : Op) (ts : List Term) → val values (v.Apply o ts) ≡ applied_if o (all_of (map (val values) ts))
  val-Apply o ts = at _ (Term-F.Apply o ts) (v.rolls-Apply o ts)

  val-InRe : (t : Term) (r : Regex) → val values (v.InRe t r) ≡ tested (matches r) (val values t)
  val-InRe t r = at _ (Term-F.InRe t r) (v.rolls-InRe t r)

  valued-Constant : (n : List ℕ) (s : Sort) → is_valued values (v.Constant n s) ≡ is_of s (lookup (pointwise nat_eq n) values)
  valued-Constant n s = valued_at _ (Term-F.Constant n s) (v.rolls-Constant n s)

  valued-Apply : (o : Op) (ts : List Term) → is_valued values (v.Apply o ts) ≡ list_all (λ b. b) (map (is_valued values) ts)
  valued-Apply o ts = valued_at _ (Term-F.Apply o ts) (v.rolls-Apply o ts)

  valued-InRe : (t : Term) (r : Regex) → is_valued values (v.InRe t r) ≡ is_valued values t
  valued-InRe t r = valued_at _ (Term-F.InRe t r) (v.rolls-InRe t r)

-- a value of its sort
truth_of_sort : (o : Option Value) → IsTrue (is_of sort.Bool o) → (b : Bool) × (o ≡ Some (Truth b))
truth_of_sort None h = absurd (cc)
truth_of_sort (Some (Truth b)) h = (b, refl)
truth_of_sort (Some (Number n)) h = absurd (cc)
truth_of_sort (Some (Text w)) h = absurd (cc)

word_of_sort : (o : Option Value) → IsTrue (is_of sort.String o) → (w : Word) × (o ≡ Some (Text w))
word_of_sort None h = absurd (cc)
word_of_sort (Some (Truth b)) h = absurd (cc)
word_of_sort (Some (Number n)) h = absurd (cc)
word_of_sort (Some (Text w)) h = (w, refl)

-- a name's value is a word where it is a text
pub worded-value : (name : List ℕ) (values : Named) (x : Value) → AreWorded values → lookup (pointwise nat_eq name) values ≡ Some x → IsWorded x
worded-value name [] x h e = absurd (cc)
worded-value name (y ∷ values) x h e = by (pointwise nat_eq name y.0) refl (worded-value name values x (λ k d l. h (suc k) d (omega (arith, l))))
  where
    chosen : (b : Bool) → pointwise nat_eq name y.0 ≡ b → cond b (Some y.1) (lookup (pointwise nat_eq name) values) ≡ Some x
    chosen b q = sym (ap (λ c. cond c (Some y.1) (lookup (pointwise nat_eq name) values)) q) ∙ e

    one : Some y.1 ≡ Some x → y.1 ≡ x
    one q = cc

    by : (b : Bool) → pointwise nat_eq name y.0 ≡ b → (lookup (pointwise nat_eq name) values ≡ Some x → IsWorded x) → IsWorded x
    by true q later = subst IsWorded (one (chosen true q)) (h zero y (omega arith))
    by false q later = later (chosen false q)

-- of three truth values two are one
repeated : (a b c : Bool) → applied op.Distinct (Truth a ∷ Truth b ∷ Truth c ∷ []) ≡ Some (Truth true) → ⊥
repeated true true c e = cc
repeated true false true e = cc
repeated true false false e = cc
repeated false true true e = cc
repeated false true false e = cc
repeated false false c e = cc

abbrev truth_named : List ℕ → Term
truth_named n = v.Constant n sort.Bool

pub three-truths : (p q r : List ℕ) → HasNoValues (v.Apply op.Distinct (truth_named p ∷ truth_named q ∷ truth_named r ∷ []) ∷ [])
three-truths p q r values are =
    let t = v.Apply op.Distinct (truth_named p ∷ truth_named q ∷ truth_named r ∷ []) in
    let valued = sym (valued-Apply values op.Distinct (truth_named p ∷ truth_named q ∷ truth_named r ∷ [])) ∙ are.valued zero t (omega arith) in
    let first = and_parts (is_valued values (truth_named p)) _ valued in
    let second = and_parts (is_valued values (truth_named q)) _ first.1 in
    let third = and_parts (is_valued values (truth_named r)) _ second.1 in
    let a = truth_of_sort (lookup (pointwise nat_eq p) values) (sym (valued-Constant values p sort.Bool) ∙ first.0) in
    let b = truth_of_sort (lookup (pointwise nat_eq q) values) (sym (valued-Constant values q sort.Bool) ∙ second.0) in
    let c = truth_of_sort (lookup (pointwise nat_eq r) values) (sym (valued-Constant values r sort.Bool) ∙ third.0) in
    repeated a.0 b.0 c.0
    (sym (val-Apply values op.Distinct (truth_named p ∷ truth_named q ∷ truth_named r ∷ [])
    ∙ ap (λ o. applied_if op.Distinct (all_of (o ∷ val values (truth_named q) ∷ val values (truth_named r) ∷ []))) (val-Constant values p sort.Bool ∙ a.1)
    ∙ ap (λ o. applied_if op.Distinct (all_of (Some (Truth a.0) ∷ o ∷ val values (truth_named r) ∷ []))) (val-Constant values q sort.Bool ∙ b.1)
    ∙ ap (λ o. applied_if op.Distinct (all_of (Some (Truth a.0) ∷ Some (Truth b.0) ∷ o ∷ []))) (val-Constant values r sort.Bool ∙ c.1))
    ∙ are.holds zero t (omega arith))

-- every text is in the language of all words
pub no-other-text : (x : List ℕ) → HasNoValues (v.Apply op.Not (v.InRe (v.Constant x sort.String) regex.All ∷ []) ∷ [])
no-other-text x values are =
    let member = v.InRe (v.Constant x sort.String) regex.All in
    let t = v.Apply op.Not (member ∷ []) in
    let valued = sym (valued-Apply values op.Not (member ∷ [])) ∙ are.valued zero t (omega arith) in
    let first = and_parts (is_valued values member) _ valued in
    let o = word_of_sort (lookup (pointwise nat_eq x) values) (sym (valued-Constant values x sort.String) ∙ sym (valued-InRe values (v.Constant x sort.String) regex.All) ∙ first.0) in
    let word : IsWord o.0 = worded-value x values (Text o.0) are.worded o.1 in
    let in_all : IsTrue (matches regex.All o.0) = (matches-In regex.All o.0).1 (subst (λ (T : Type 0). T) (sym (In-All o.0)) word) in
    let holds : val values t ≡ Some (Truth true) = are.holds zero t (omega arith) in
    let found : val values member ≡ Some (Truth true) =
    val-InRe values (v.Constant x sort.String) regex.All ∙ ap (tested (matches regex.All)) (val-Constant values x sort.String ∙ o.1) ∙ ap (λ b. Some (Truth b)) in_all in
    let refuted : val values t ≡ Some (Truth false) = val-Apply values op.Not (member ∷ []) ∙ ap (λ q. applied_if op.Not (all_of (q ∷ []))) found in
    truths_apart (sym refuted ∙ holds)
  where
    truths_apart : Some (Truth false) ≡ Some (Truth true) → ⊥
    truths_apart e = cc

-- an assertion with an opaque part has no values, and leaves nothing that could lack them
pub opaque-untrue : (t : Term) → IsTrue (is_opaque t) → HasValues (t ∷ []) → ⊥
opaque-untrue t h values =
    let none = opaque-none values.0 t h in
    let some : val values.0 t ≡ Some (Truth true) = values.1.holds zero t (omega arith) in
    cc

pub opaque-left-out : (t : Term) → IsTrue (is_opaque t) → HasValues (clear_of (t ∷ []))
opaque-left-out t h = (
  [],
  subst (AreTrueAt []) (sym (ap (λ b. cond (not b) (t ∷ []) []) h)) (record {
    worded = λ k d l. absurd (omega (arith, l));
    valued = λ k d l. absurd (omega (arith, l));
    holds = λ k d l. absurd (omega (arith, l));
  }),
)
