-- What holds of the literals of cubes, by tests of the terms that stand in them.
use Rattle.std.proofs.Common.{◌≡◌, sym, ◌∙◌, subst, ℕ, ◌↔◌, map, true, ◌&&◌, Bool, IsTrue, List, [], ◌∷◌, Option, Some, None}
use Rattle.std.specs.List.{list_all}
use Rattle.std.proofs.lemmas.Bool.{and_parts}
use Rattle.sv_terms.specs.Meaning.{Named}
use Rattle.sv_terms.specs.Sorting.{is_of, is_valued, kind}
use Rattle.sv_terms.specs.TransducerSizes.{is_formed, has_formed}
use Rattle.sv_terms.specs.Transduction.{IsFormed}
use Rattle.sv_terms.specs.declared.sort.Sort.{Sort}
use Rattle.sv_terms.specs.declared.sort.Sort.TheVariants as sort
use Rattle.sv_terms.specs.declared.term.Term.{Term}
use Rattle.sv_terms.specs.declared.transducer.Transducer.{Transducer}
use Rattle.sv_terms.specs.declared.value.Value.{Value}
use Rattle.assertion_parts.specs.Constants.{has_words}
use Rattle.assertion_parts.specs.Filling.{value_of}
use Rattle.assertion_parts.proofs.Sorts.{same-is, word-is}
use Rattle.assertion_parts.proofs.Terms.{Each, induct, every-Constant, every-Apply, every-InRe, every-Related, words-Text, words-Apply, words-InRe, words-Related}
use Rattle.literal_forms.specs.Mirrors.{seen-Truth, seen-Number, seen-Text, seen-Constant, seen-Apply, seen-InRe, seen-Related, seen-Opaque}
use Rattle.literal_forms.specs.Shapes.{seen, shapes}
use Rattle.flat_cubes.specs.Flattening.{IsSortedBy, AreSortedBy}
use Rattle.straight_line.specs.Laws.{IsSpelled, AreSpelled}

-- the sort of a value that is there; none has this sort otherwise
abbrev pub sort_at : Option Value → Sort
sort_at None = sort.RegLan
sort_at (Some x) = kind x

abbrev pub sorts_by : Named → List ℕ → Sort
sorts_by values n = sort_at (value_of values n)

sort-is : (s : Sort) (o : Option Value) → IsTrue (is_of s o) → sort_at o ≡ s
sort-is s None h = cc
sort-is s (Some x) h = sym (same-is s (kind x) h)

-- the constants of a term have the sorts of their values
module _ (values : Named) where
  abbrev Sorted : Term → Type 0
  Sorted t = IsTrue (is_valued values t) → IsSortedBy (sorts_by values) (seen t)

  sorted-each : (ts : List Term) → Each Sorted ts → IsTrue (list_all (is_valued values) ts) → AreSortedBy (sorts_by values) (shapes (map seen ts))
  sorted-each [] w h = tt
  sorted-each (t ∷ ts) w h = let p = and_parts (is_valued values t) (list_all (is_valued values) ts) h in (w.0 p.0, sorted-each ts w.1 p.1)

  pub sorted-by : (t : Term) → Sorted t
  sorted-by =
      let f = λ (n : List ℕ) (s : Sort). is_of s (value_of values n) in
      let m = λ (x : Transducer). true in
      let S = IsSortedBy (sorts_by values) in
      induct Sorted
      (λ c h. subst S (sym (seen-Truth c)) tt)
      (λ n h. subst S (sym (seen-Number n)) tt)
      (λ w h. subst S (sym (seen-Text w)) tt)
      (λ n s h. subst S (sym (seen-Constant n s)) (sort-is s (value_of values n) (sym (every-Constant f m n s) ∙ h)))
      (λ o ts w h. subst S (sym (seen-Apply o ts)) (sorted-each ts w (sym (every-Apply f m o ts) ∙ h)))
      (λ t r w h. subst S (sym (seen-InRe t r)) (w (sym (every-InRe f m t r) ∙ h)))
      (λ x t u w z h. let p = and_parts (is_valued values t) (is_valued values u) (sym (every-Related f m x t u) ∙ h) in subst S (sym (seen-Related x t u)) (w p.0, z p.1))
      (λ s h. subst S (sym (seen-Opaque s)) tt)

abbrev pub FormedIsTold : Type 0
FormedIsTold = (m : Transducer) → IsTrue (is_formed m) ↔ IsFormed m

-- a term whose literals are words and whose transducers are formed
abbrev pub is_spelled : Term → Bool
is_spelled t = has_words t && has_formed t

module _ (told : FormedIsTold) where
  abbrev Spells : Term → Type 0
  Spells t = IsTrue (has_words t) → IsTrue (has_formed t) → IsSpelled (seen t)

  spelled-each : (ts : List Term) → Each Spells ts → IsTrue (list_all has_words ts) → IsTrue (list_all has_formed ts) → AreSpelled (shapes (map seen ts))
  spelled-each [] w h k = tt
  spelled-each (t ∷ ts) w h k =
      let p = and_parts (has_words t) (list_all has_words ts) h in
      let q = and_parts (has_formed t) (list_all has_formed ts) k in
      (w.0 p.0 q.0, spelled-each ts w.1 p.1 q.1)

  spelled-by : (t : Term) → Spells t
  spelled-by =
      let f = λ (n : List ℕ) (s : Sort). true in
      let S = IsSpelled in
      induct Spells
      (λ c h k. subst S (sym (seen-Truth c)) tt)
      (λ n h k. subst S (sym (seen-Number n)) tt)
      (λ w h k. subst S (sym (seen-Text w)) (word-is w (sym (words-Text w) ∙ h)))
      (λ n s h k. subst S (sym (seen-Constant n s)) tt)
      (λ o ts w h k. subst S (sym (seen-Apply o ts)) (spelled-each ts w (sym (words-Apply o ts) ∙ h) (sym (every-Apply f is_formed o ts) ∙ k)))
      (λ t r w h k. subst S (sym (seen-InRe t r)) (w (sym (words-InRe t r) ∙ h) (sym (every-InRe f is_formed t r) ∙ k)))
      (λ x t u w z h k.
      let p = and_parts (has_words t) (has_words u) (sym (words-Related x t u) ∙ h) in
      let q = and_parts (is_formed x) (has_formed t && has_formed u) (sym (every-Related f is_formed x t u) ∙ k) in
      let r = and_parts (has_formed t) (has_formed u) q.1 in
      subst S (sym (seen-Related x t u)) ((told x).0 q.0, w p.0 r.0, z p.1 r.1))
      (λ s h k. subst S (sym (seen-Opaque s)) tt)

  pub spelled : (t : Term) → IsTrue (is_spelled t) → IsSpelled (seen t)
  spelled t h = let p = and_parts (has_words t) (has_formed t) h in spelled-by t p.0 p.1
