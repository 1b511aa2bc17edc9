-- Names that forms bind, and names that stand twice.
use Rattle.std.proofs.Common.{◌≡◌, refl, sym, ap, ◌∙◌, ℕ, zero, suc, ◌+◌, ◌<◌, ◌≤◌, Bool, true, false, ◌||◌, List, [], ◌∷◌, ◌++◌, length, map, get_or, drop, Option, Some, None, arith, add-one, append_assoc}
use Rattle.std.proofs.lemmas.List.{append-nil}
use Rattle.std.specs.List.{list_any}
use Rattle.std.specs.Option.{option_to_list}
use Rattle.sv_list.specs.Bools.{or-assoc, or-false}
use Rattle.sexpr_reader.specs.declared.sexpr.Sexpr.{Sexpr}
use Rattle.sv_terms.specs.declared.sort.Sort.{Sort}
use Rattle.item_passes.specs.Binders.{bound_name, bound_names, repeats, variable_of, variable_sort, variables}
use Rattle.smt_names.specs.Form.{Form, Forms, forms, seen, end, ◌⨾◌}
use Rattle.smt_names.specs.Signature.{Name, same_name, stands_in}

-- lists that are joined of a piece of each form
module _ {A : Type 0} (piece : Form → List A) (all : Forms → List A) (none : all end ≡ []) (next : (f : Form) (fs : Forms) → all (f ⨾ fs) ≡ piece f ++ all fs) where
  at-next : (xs : List Sexpr) (i : ℕ) (d : Sexpr) → i < length xs → all (forms (map seen (drop i xs))) ≡ piece (seen (get_or xs i d)) ++ all (forms (map seen (drop (suc i) xs)))
  at-next [] i d h = absurd (omega arith)
  at-next (x ∷ xs) zero d h = next (seen x) (forms (map seen xs))
  at-next (x ∷ xs) (suc i) d h = at-next xs i d (omega arith)

  goes-on : (done : List A) (xs : List Sexpr) (i : ℕ) (d : Sexpr) (p : List A) (w : List A) → i < length xs → piece (seen (get_or xs i d)) ≡ p → done ++ all (forms (map seen (drop i xs))) ≡ w → (done ++ p) ++ all (forms (map seen (drop (i + 1) xs))) ≡ w
  goes-on done xs i d p w h e g = rw add-one (append_assoc done p (all (forms (map seen (drop (suc i) xs)))) ∙ sym (ap (λ q. done ++ (q ++ all (forms (map seen (drop (suc i) xs))))) e) ∙ sym (ap (λ r. done ++ r) (at-next xs i d h)) ∙ g)

  at-end : (xs : List Sexpr) (i : ℕ) → length xs ≤ i → all (forms (map seen (drop i xs))) ≡ []
  at-end [] zero h = none
  at-end [] (suc i) h = none
  at-end (x ∷ xs) zero h = absurd (omega arith)
  at-end (x ∷ xs) (suc i) h = at-end xs i (omega arith)

  ends : (done : List A) (xs : List Sexpr) (i : ℕ) (w : List A) → length xs ≤ i → done ++ all (forms (map seen (drop i xs))) ≡ w → w ≡ done
  ends done xs i w h g = sym g ∙ ap (λ r. done ++ r) (at-end xs i h) ∙ append-nil done

  pub skips : (xs : List Sexpr) (i : ℕ) (d : Sexpr) → i < length xs → piece (seen (get_or xs i d)) ≡ [] → all (forms (map seen (drop i xs))) ≡ all (forms (map seen (drop (i + 1) xs)))
  skips xs i d h e = rw add-one (at-next xs i d h ∙ ap (λ q. q ++ all (forms (map seen (drop (suc i) xs)))) e)

  pub takes : (xs : List Sexpr) (i : ℕ) (d : Sexpr) (a : A) → i < length xs → piece (seen (get_or xs i d)) ≡ a ∷ [] → all (forms (map seen (drop i xs))) ≡ a ∷ all (forms (map seen (drop (i + 1) xs)))
  takes xs i d a h e = rw add-one (at-next xs i d h ∙ ap (λ q. q ++ all (forms (map seen (drop (suc i) xs)))) e)

pub variables-on : (done : List (Name × Sort)) (xs : List Sexpr) (i : ℕ) (d : Sexpr) (o : Option (Name × Sort)) (p : Name × Sort) (w : List (Name × Sort)) → i < length xs → option_to_list o ≡ variable_of (bound_name (seen (get_or xs i d))) (variable_sort (seen (get_or xs i d))) → o ≡ Some p → done ++ variables (forms (map seen (drop i xs))) ≡ w → (done ++ p ∷ []) ++ variables (forms (map seen (drop (i + 1) xs))) ≡ w
variables-on done xs i d o p w h e f g = goes-on (λ v. variable_of (bound_name v) (variable_sort v)) variables refl (λ f fs. refl) done xs i d (p ∷ []) w h (sym e ∙ ap option_to_list f) g

pub variables-skip : (done : List (Name × Sort)) (xs : List Sexpr) (i : ℕ) (d : Sexpr) (o : Option (Name × Sort)) (w : List (Name × Sort)) → i < length xs → option_to_list o ≡ variable_of (bound_name (seen (get_or xs i d))) (variable_sort (seen (get_or xs i d))) → o ≡ None → done ++ variables (forms (map seen (drop i xs))) ≡ w → done ++ variables (forms (map seen (drop (i + 1) xs))) ≡ w
variables-skip done xs i d o w h e f g = sym (ap (λ r. done ++ r) (skips (λ v. variable_of (bound_name v) (variable_sort v)) variables refl (λ f fs. refl) xs i d h (sym e ∙ ap option_to_list f))) ∙ g

pub variables-end : (done : List (Name × Sort)) (xs : List Sexpr) (i : ℕ) (w : List (Name × Sort)) → length xs ≤ i → done ++ variables (forms (map seen (drop i xs))) ≡ w → w ≡ done
variables-end = ends (λ v. variable_of (bound_name v) (variable_sort v)) variables refl (λ f fs. refl)

pub ruleset binding = (variables-on, variables-skip, variables-end)

-- whether a name stands twice, or among those that were met
abbrev pub later : List Name → List Name → Bool
later met [] = false
later met (n ∷ ns) = stands_in met n || later (met ++ n ∷ []) ns

or-swap : (a b c d : Bool) → (a || ((b || c) || d)) ≡ ((a || b) || (c || d))
or-swap true b c d = refl
or-swap false b c d = or-assoc b c d

or-middle : (a b c d : Bool) → ((a || b) || (c || d)) ≡ ((a || c) || (b || d))
or-middle true b c d = refl
or-middle false true true d = refl
or-middle false true false d = refl
or-middle false false c d = refl

stands-more : (m n : Name) (met : List Name) → stands_in (met ++ n ∷ []) m ≡ (stands_in met m || same_name m n)
stands-more m n [] = or-false (same_name m n)
stands-more m n (s ∷ met) = ap (λ r. same_name m s || r) (stands-more m n met) ∙ sym (or-assoc (same_name m s) (stands_in met m) (same_name m n))

among-more : (met : List Name) (n : Name) (ns : List Name) → list_any (λ m. stands_in (met ++ n ∷ []) m) ns ≡ (list_any (λ m. stands_in met m) ns || list_any (λ m. same_name m n) ns)
among-more met n [] = refl
among-more met n (m ∷ ns) = ap (λ r. r || list_any (λ m. stands_in (met ++ n ∷ []) m) ns) (stands-more m n met) ∙ ap (λ r. (stands_in met m || same_name m n) || r) (among-more met n ns) ∙ or-middle (stands_in met m) (same_name m n) (list_any (λ m. stands_in met m) ns) (list_any (λ m. same_name m n) ns)

later-is : (met ns : List Name) → later met ns ≡ (list_any (λ m. stands_in met m) ns || repeats ns)
later-is met [] = refl
later-is met (n ∷ ns) = ap (λ r. stands_in met n || r) (later-is (met ++ n ∷ []) ns ∙ ap (λ r. r || repeats ns) (among-more met n ns)) ∙ or-swap (stands_in met n) (list_any (λ m. stands_in met m) ns) (list_any (λ m. same_name m n) ns) (repeats ns)

none-met : (ns : List Name) → list_any (λ m. stands_in [] m) ns ≡ false
none-met [] = refl
none-met (n ∷ ns) = none-met ns

pub later-first : (ns : List Name) → later [] ns ≡ repeats ns
later-first ns = later-is [] ns ∙ ap (λ r. r || repeats ns) (none-met ns)

module _ (xs : List Sexpr) (i : ℕ) (d : Sexpr) (h : i < length xs) where
  pub later-on : (met : List Name) (n : Name) (w : Bool) → bound_name (seen (get_or xs i d)) ≡ Some n → stands_in met n ≡ false → later met (bound_names (forms (map seen (drop i xs)))) ≡ w → later (met ++ n ∷ []) (bound_names (forms (map seen (drop (i + 1) xs)))) ≡ w
  later-on met n w e f g = sym (ap (λ r. r || later (met ++ n ∷ []) (bound_names (forms (map seen (drop (i + 1) xs))))) f) ∙ sym (ap (later met) (takes (λ b. option_to_list (bound_name b)) bound_names refl (λ f fs. refl) xs i d n h (ap option_to_list e))) ∙ g

  pub later-twice : (met : List Name) (n : Name) (w : Bool) → bound_name (seen (get_or xs i d)) ≡ Some n → stands_in met n ≡ true → later met (bound_names (forms (map seen (drop i xs)))) ≡ w → true ≡ w
  later-twice met n w e f g = sym (ap (λ r. r || later (met ++ n ∷ []) (bound_names (forms (map seen (drop (i + 1) xs))))) f) ∙ sym (ap (later met) (takes (λ b. option_to_list (bound_name b)) bound_names refl (λ f fs. refl) xs i d n h (ap option_to_list e))) ∙ g

  pub later-skip : (met : List Name) (w : Bool) → bound_name (seen (get_or xs i d)) ≡ None → later met (bound_names (forms (map seen (drop i xs)))) ≡ w → later met (bound_names (forms (map seen (drop (i + 1) xs)))) ≡ w
  later-skip met w e g = sym (ap (later met) (skips (λ b. option_to_list (bound_name b)) bound_names refl (λ f fs. refl) xs i d h (ap option_to_list e))) ∙ g

pub later-end : (met : List Name) (xs : List Sexpr) (i : ℕ) (w : Bool) → length xs ≤ i → later met (bound_names (forms (map seen (drop i xs)))) ≡ w → false ≡ w
later-end met xs i w h g = sym (ap (later met) (at-end (λ b. option_to_list (bound_name b)) bound_names refl (λ f fs. refl) xs i h)) ∙ g

pub ruleset repeating = (later-first, later-on, later-twice, later-skip, later-end)
