-- Steps of the passes over forms.
use Rattle.std.proofs.Common.{◌≡◌, refl, sym, ap, ◌∙◌, ℕ, zero, suc, ◌+◌, ◌<◌, ◌≤◌, Bool, false, List, [], ◌∷◌, length, map, get_or, take, drop, ◌-◌, Result, Ok, Err, arith, add-one}
use Rattle.std.proofs.lemmas.List.{take_all}
use Rattle.std.specs.List.{list_all}
use Rattle.sexpr_reader.specs.declared.kind.TokenKind.{TokenKind}
use Rattle.sexpr_reader.specs.declared.sexpr.Sexpr.{Sexpr}
use Rattle.sexpr_reader.specs.declared.sexpr.Sexpr.TheVariants as v
use Rattle.smt_names.specs.declared.check_fault.CheckFault.{CheckFault}
use Rattle.smt_names.specs.declared.opening.Opening.{Opening}
use Rattle.smt_names.specs.declared.opening.Opening.TheVariants.{Let, Quantifier, Annotation, Identifier, Application}
use Rattle.item_passes.specs.declared.pass.Pass.{Pass}
use Rattle.item_passes.specs.Binders.{are_some, each, is_binding}
use Rattle.smt_names.specs.Form.{are_all}
use Rattle.smt_names.specs.Faults.{Answers, ◌>>◌}
use Rattle.smt_names.specs.Form.{Form, Forms, forms, seen, token, group, end, ◌⨾◌}
use Rattle.smt_names.specs.Tokens.{chosen}
use Rattle.item_passes.specs.Passes.{at_identifier, at_numeral, in_list, looked, looked_all, looked_let, looked_values, looked_value, looked_quantifier, looked_annotated}
use Rattle.smt_names.specs.Tokens.{opening}
use Rattle.smt_names.specs.Shapes.{seen-Atom, seen-List, none-seen, are-listed}
use Rattle.smt_names.specs.Answering.{answers-same, exact-answers}

-- what is looked for in forms from the left, each by `one`, goes on with the next item
module _ (one : Form → Result Unit CheckFault) (all : Forms → Result Unit CheckFault) (none : all end ≡ Ok tt) (next : (f : Form) (fs : Forms) → all (f ⨾ fs) ≡ (one f >> all fs)) where
  at-next : (xs : List Sexpr) (i : ℕ) (d : Sexpr) → i < length xs → all (forms (map seen (drop i xs))) ≡ (one (seen (get_or xs i d)) >> all (forms (map seen (drop (suc i) xs))))
  at-next [] i d h = absurd (omega arith)
  at-next (x ∷ xs) zero d h = next (seen x) (forms (map seen xs))
  at-next (x ∷ xs) (suc i) d h = at-next xs i d (omega arith)

  goes-on : (xs : List Sexpr) (i : ℕ) (d : Sexpr) (u : Unit {0}) (w : Result Unit CheckFault) → i < length xs → one (seen (get_or xs i d)) ≡ Ok u → all (forms (map seen (drop i xs))) ≡ w → all (forms (map seen (drop (i + 1) xs))) ≡ w
  goes-on xs i d u w h e g = rw add-one (sym (ap (λ r. r >> all (forms (map seen (drop (suc i) xs)))) e) ∙ sym (at-next xs i d h) ∙ g)

  stops : (xs : List Sexpr) (i : ℕ) (d : Sexpr) (f : CheckFault) (w : Result Unit CheckFault) → i < length xs → one (seen (get_or xs i d)) ≡ Err f → all (forms (map seen (drop i xs))) ≡ w → w ≡ Err f
  stops xs i d f w h e g = sym g ∙ at-next xs i d h ∙ ap (λ r. r >> all (forms (map seen (drop (suc i) xs)))) e

  at-end : (xs : List Sexpr) (i : ℕ) → length xs ≤ i → all (forms (map seen (drop i xs))) ≡ Ok tt
  at-end [] zero h = none
  at-end [] (suc i) h = none
  at-end (x ∷ xs) zero h = absurd (omega arith)
  at-end (x ∷ xs) (suc i) h = at-end xs i (omega arith)

  ends : (xs : List Sexpr) (i : ℕ) (w : Result Unit CheckFault) → length xs ≤ i → all (forms (map seen (drop i xs))) ≡ w → w ≡ Ok tt
  ends xs i w h g = sym g ∙ at-end xs i h

module _ (pass : Pass) where
  pub all-on : (xs : List Sexpr) (i : ℕ) (d : Sexpr) (u : Unit {0}) (w : Result Unit CheckFault) → i < length xs → looked pass (seen (get_or xs i d)) ≡ Ok u → looked_all pass (forms (map seen (drop i xs))) ≡ w → looked_all pass (forms (map seen (drop (i + 1) xs))) ≡ w
  all-on = goes-on (looked pass) (looked_all pass) refl (λ f fs. refl)

  pub all-stop : (xs : List Sexpr) (i : ℕ) (d : Sexpr) (f : CheckFault) (w : Result Unit CheckFault) → i < length xs → looked pass (seen (get_or xs i d)) ≡ Err f → looked_all pass (forms (map seen (drop i xs))) ≡ w → w ≡ Err f
  all-stop = stops (looked pass) (looked_all pass) refl (λ f fs. refl)

  pub all-end : (xs : List Sexpr) (i : ℕ) (w : Result Unit CheckFault) → length xs ≤ i → looked_all pass (forms (map seen (drop i xs))) ≡ w → w ≡ Ok tt
  all-end = ends (looked pass) (looked_all pass) refl (λ f fs. refl)

  pub values-on : (xs : List Sexpr) (i : ℕ) (d : Sexpr) (u : Unit {0}) (w : Result Unit CheckFault) → i < length xs → looked_value pass (seen (get_or xs i d)) ≡ Ok u → looked_values pass (forms (map seen (drop i xs))) ≡ w → looked_values pass (forms (map seen (drop (i + 1) xs))) ≡ w
  values-on = goes-on (looked_value pass) (looked_values pass) refl (λ f fs. refl)

  pub values-stop : (xs : List Sexpr) (i : ℕ) (d : Sexpr) (f : CheckFault) (w : Result Unit CheckFault) → i < length xs → looked_value pass (seen (get_or xs i d)) ≡ Err f → looked_values pass (forms (map seen (drop i xs))) ≡ w → w ≡ Err f
  values-stop = stops (looked_value pass) (looked_values pass) refl (λ f fs. refl)

  pub values-end : (xs : List Sexpr) (i : ℕ) (w : Result Unit CheckFault) → length xs ≤ i → looked_values pass (forms (map seen (drop i xs))) ≡ w → w ≡ Ok tt
  values-end = ends (looked_value pass) (looked_values pass) refl (λ f fs. refl)

module _ (one : Form → Result Unit CheckFault) where
  pub each-on : (xs : List Sexpr) (i : ℕ) (d : Sexpr) (u : Unit {0}) (w : Result Unit CheckFault) → i < length xs → one (seen (get_or xs i d)) ≡ Ok u → each one (forms (map seen (drop i xs))) ≡ w → each one (forms (map seen (drop (i + 1) xs))) ≡ w
  each-on = goes-on one (each one) refl (λ f fs. refl)

  pub each-stop : (xs : List Sexpr) (i : ℕ) (d : Sexpr) (f : CheckFault) (w : Result Unit CheckFault) → i < length xs → one (seen (get_or xs i d)) ≡ Err f → each one (forms (map seen (drop i xs))) ≡ w → w ≡ Err f
  each-stop = stops one (each one) refl (λ f fs. refl)

  pub each-end : (xs : List Sexpr) (i : ℕ) (w : Result Unit CheckFault) → length xs ≤ i → each one (forms (map seen (drop i xs))) ≡ w → w ≡ Ok tt
  each-end = ends one (each one) refl (λ f fs. refl)

-- whether one or more forms pass a test
module _ (test : Form → Bool) where
  pub some-is : (xs : List Sexpr) → 1 ≤ length xs → are_some test (forms (map seen xs)) ≡ are_all test (forms (map seen xs))
  some-is [] h = absurd (omega arith)
  some-is (x ∷ xs) h = refl

  pub some-none : (xs : List Sexpr) → length xs < 1 → are_some test (forms (map seen xs)) ≡ false
  some-none [] h = refl
  some-none (x ∷ xs) h = absurd (omega arith)

pub bindings-listed : (xs : List Sexpr) → are_all is_binding (forms (map seen xs)) ≡ list_all (λ x. is_binding (seen x)) xs
bindings-listed = are-listed is_binding

pub ruleset testing = (bindings-listed, some-is, some-none)

-- an atom, and a list of nothing
module _ (pass : Pass) (b : Sexpr) where
  pub look-atom : (k : TokenKind) (text : List ℕ) (r : Result Unit CheckFault) → b ≡ v.Atom k text → r ≡ at_numeral pass (seen b) → Answers (looked pass (seen b)) r
  look-atom k text r is_ e =
      let s : seen b ≡ token k text = ap seen is_ ∙ seen-Atom k text in
      exact-answers (looked pass (seen b)) r (ap (looked pass) s ∙ sym (ap (at_numeral pass) s) ∙ sym e)

  pub look-none : (xs : List Sexpr) → b ≡ v.List xs → length xs < 1 → looked pass (seen b) ≡ Ok tt
  look-none xs is_ h = ap (looked pass) (ap seen is_ ∙ seen-List xs ∙ ap group (none-seen xs h))

-- a list with a first item, by what that makes of it
module _ (pass : Pass) (b : Sexpr) (xs : List Sexpr) (is_ : b ≡ v.List xs) (x : Sexpr) (h : 1 ≤ length xs) (e : x ≡ get_or xs 0 x) where
  abbrev behind : Forms
  behind = forms (map seen (take (length xs - 1) (drop 1 xs)))

  first-seen : seen b ≡ group (seen x ⨾ behind)
  first-seen = ap seen is_ ∙ seen-List xs ∙ go xs h e
    where
      go : (xs : List Sexpr) → 1 ≤ length xs → x ≡ get_or xs 0 x → group (forms (map seen xs)) ≡ group (seen x ⨾ forms (map seen (take (length xs - 1) (drop 1 xs))))
      go [] h e = absurd (omega arith)
      go (a ∷ xs) h e = λ i. group (seen (sym e i) ⨾ forms (map seen (sym (take_all (length (a ∷ xs) - 1) xs (omega arith)) i)))

  by : (o : Opening) → o ≡ opening (seen x) → looked pass (seen b) ≡ chosen o (looked_let pass behind) (looked_quantifier pass behind) (looked_annotated pass behind) (at_identifier pass behind) (in_list (seen x) (looked pass (seen x)) >> looked_all pass behind)
  by o g = ap (looked pass) first-seen ∙ ap (λ o. chosen o (looked_let pass behind) (looked_quantifier pass behind) (looked_annotated pass behind) (at_identifier pass behind) (in_list (seen x) (looked pass (seen x)) >> looked_all pass behind)) (sym g)

  module _ (r : Result Unit CheckFault) where
    pub look-let : Let ≡ opening (seen x) → Answers (looked_let pass behind) r → Answers (looked pass (seen b)) r
    look-let g a = answers-same (looked_let pass behind) (looked pass (seen b)) r (by Let g) a

    pub look-quantifier : Quantifier ≡ opening (seen x) → Answers (looked_quantifier pass behind) r → Answers (looked pass (seen b)) r
    look-quantifier g a = answers-same (looked_quantifier pass behind) (looked pass (seen b)) r (by Quantifier g) a

    pub look-annotated : Annotation ≡ opening (seen x) → Answers (looked_annotated pass behind) r → Answers (looked pass (seen b)) r
    look-annotated g a = answers-same (looked_annotated pass behind) (looked pass (seen b)) r (by Annotation g) a

    pub look-identifier : Identifier ≡ opening (seen x) → r ≡ at_identifier pass behind → Answers (looked pass (seen b)) r
    look-identifier g a = exact-answers (looked pass (seen b)) r (by Identifier g ∙ sym a)

    pub look-application : (u : Unit {0}) → Application ≡ opening (seen x) → in_list (seen x) (looked pass (seen x)) ≡ Ok u → Answers (looked_all pass behind) r → Answers (looked pass (seen b)) r
    look-application u g k a = answers-same (looked_all pass behind) (looked pass (seen b)) r (by Application g ∙ ap (λ m. m >> looked_all pass behind) k) a

pub ruleset looking = (all-on, all-stop, all-end, values-on, values-stop, values-end, each-on, each-stop, each-end)
