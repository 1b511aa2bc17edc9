-- Values of the sorts of constants, and words: tests and what they tell.
use Rattle.std.proofs.Common.{◌≡◌, refl, sym, ◌∙◌, subst, ℕ, Bool, true, IsTrue, List, [], ◌∷◌, Option, Some, None}
use Rattle.std.specs.Prelude.{nat_le}
use Rattle.std.specs.List.{list_all}
use Rattle.std.proofs.lemmas.Bool.{le-leb, leb-true, and_parts, and_from}
use Rattle.sv_word.specs.Words.{IsWord, greatest_character}
use Rattle.sv_terms.specs.Meaning.{Named}
use Rattle.sv_terms.specs.Sorting.{is_of, is_valued, same_sort}
use Rattle.sv_terms.specs.declared.sort.Sort.{Sort}
use Rattle.sv_terms.specs.declared.sort.Sort.TheVariants as sort
use Rattle.sv_terms.specs.declared.term.Term.{Term}
use Rattle.sv_terms.specs.declared.transducer.Transducer.{Transducer}
use Rattle.sv_terms.specs.declared.value.Value.{Value}
use Rattle.assertion_parts.specs.Filling.{value_of}
use Rattle.assertion_parts.proofs.Terms.{Each, induct, every-Truth, every-Number, every-Text, every-Constant, every-Apply, every-InRe, every-Related, every-Opaque}

-- values that are there stay a test's answer
module _ (a b : Named) (kept : (n : List ℕ) (x : Value) → value_of a n ≡ Some x → value_of b n ≡ Some x) where
  abbrev Keeps : Term → Type 0
  Keeps t = IsTrue (is_valued a t) → IsTrue (is_valued b t)

  of-one : (s : Sort) (o p : Option Value) → ((x : Value) → o ≡ Some x → p ≡ Some x) → IsTrue (is_of s o) → IsTrue (is_of s p)
  of-one s None p k h = cc
  of-one s (Some x) p k h = subst (λ q. IsTrue (is_of s q)) (sym (k x refl)) h

  of-each : (ts : List Term) → Each Keeps ts → IsTrue (list_all (is_valued a) ts) → IsTrue (list_all (is_valued b) ts)
  of-each [] w h = refl
  of-each (t ∷ ts) w h = let p = and_parts (is_valued a t) (list_all (is_valued a) ts) h in and_from (is_valued b t) (list_all (is_valued b) ts) (w.0 p.0) (of-each ts w.1 p.1)

  pub valued-kept : (t : Term) → Keeps t
  valued-kept =
      let f = λ (n : List ℕ) (s : Sort). is_of s (value_of a n) in
      let g = λ (n : List ℕ) (s : Sort). is_of s (value_of b n) in
      let m = λ (x : Transducer). true in
      induct Keeps
      (λ c h. every-Truth g m c)
      (λ n h. every-Number g m n)
      (λ w h. every-Text g m w)
      (λ n s h. every-Constant g m n s ∙ of-one s (value_of a n) (value_of b n) (kept n) (sym (every-Constant f m n s) ∙ h))
      (λ o ts w h. every-Apply g m o ts ∙ of-each ts w (sym (every-Apply f m o ts) ∙ h))
      (λ t r w h. every-InRe g m t r ∙ w (sym (every-InRe f m t r) ∙ h))
      (λ x t u w z h. let p = and_parts (is_valued a t) (is_valued a u) (sym (every-Related f m x t u) ∙ h) in every-Related g m x t u ∙ and_from (is_valued b t) (is_valued b u) (w p.0) (z p.1))
      (λ s h. every-Opaque g m s)

  pub all-kept : (ts : List Term) → IsTrue (list_all (is_valued a) ts) → IsTrue (list_all (is_valued b) ts)
  all-kept [] h = refl
  all-kept (t ∷ ts) h = let p = and_parts (is_valued a t) (list_all (is_valued a) ts) h in and_from (is_valued b t) (list_all (is_valued b) ts) (valued-kept t p.0) (all-kept ts p.1)

pub same-is : (s t : Sort) → same_sort s t ≡ true → s ≡ t
same-is sort.Bool sort.Bool h = refl
same-is sort.Int sort.Int h = refl
same-is sort.String sort.String h = refl
same-is sort.RegLan sort.RegLan h = refl
same-is _ _ h = absurd cc

pub same-self : (s : Sort) → same_sort s s ≡ true
same-self sort.Bool = refl
same-self sort.Int = refl
same-self sort.String = refl
same-self sort.RegLan = refl

-- words and their test
pub word-is : (w : List ℕ) → IsTrue (list_all (λ c. nat_le c greatest_character) w) → IsWord w
word-is [] h = tt
word-is (c ∷ w) h = let p = and_parts (nat_le c greatest_character) (list_all (λ c. nat_le c greatest_character) w) h in (leb-true c greatest_character p.0, word-is w p.1)

pub word-told : (w : List ℕ) → IsWord w → IsTrue (list_all (λ c. nat_le c greatest_character) w)
word-told [] h = refl
word-told (c ∷ w) h = and_from (nat_le c greatest_character) (list_all (λ c. nat_le c greatest_character) w) (le-leb c greatest_character h.0) (word-told w h.1)
