-- The names of states, one after another.
use Rattle.std.proofs.Common.{◌≡◌, refl, sym, ap, ◌∙◌, ℕ, zero, suc, ◌+◌, ◌<◌, ◌≤◌, true, false, List, [], ◌∷◌, ◌++◌, length, map, get_or, drop, Some, None, Result, Ok, Err, arith, add-one}
use Rattle.sexpr_reader.specs.declared.sexpr.Sexpr.{Sexpr}
use Rattle.smt_names.specs.declared.check_fault.CheckFault.{CheckFault}
use Rattle.smt_names.specs.declared.check_fault.CheckFault.TheVariants as fault
use Rattle.smt_names.specs.Faults.{and_then, ◌>>◌, refuse}
use Rattle.smt_names.specs.Form.{forms, seen}
use Rattle.smt_names.specs.Signature.{Name, stands_in}
use Rattle.smt_names.specs.Tokens.{symbol}
use Rattle.transducer_form.specs.Descriptions.{state_behind, states_behind}

at-next : (before : List Name) (xs : List Sexpr) (i : ℕ) (d : Sexpr) → i < length xs → states_behind before (forms (map seen (drop i xs))) ≡ and_then (λ more. states_behind more (forms (map seen (drop (suc i) xs)))) (state_behind before (symbol (seen (get_or xs i d))))
at-next before [] i d h = absurd (omega arith)
at-next before (x ∷ xs) zero d h = refl
at-next before (x ∷ xs) (suc i) d h = at-next before xs i d (omega arith)

module _ (before : List Name) (xs : List Sexpr) (i : ℕ) (d : Sexpr) (w : Result (List Name) CheckFault) (h : i < length xs) (g : states_behind before (forms (map seen (drop i xs))) ≡ w) where
  pub states-on : (n : Name) → symbol (seen (get_or xs i d)) ≡ Some n → stands_in before n ≡ false → states_behind (before ++ n ∷ []) (forms (map seen (drop (i + 1) xs))) ≡ w
  states-on n e f = rw add-one (sym (ap (λ b. and_then (λ more. states_behind more (forms (map seen (drop (suc i) xs)))) (refuse b fault.Transducer >> Ok (before ++ n ∷ []))) f)
      ∙ sym (ap (λ o. and_then (λ more. states_behind more (forms (map seen (drop (suc i) xs)))) (state_behind before o)) e) ∙ sym (at-next before xs i d h) ∙ g)

  pub states-twice : (n : Name) → symbol (seen (get_or xs i d)) ≡ Some n → stands_in before n ≡ true → w ≡ Err fault.Transducer
  states-twice n e f = sym g ∙ at-next before xs i d h ∙ ap (λ o. and_then (λ more. states_behind more (forms (map seen (drop (suc i) xs)))) (state_behind before o)) e
      ∙ ap (λ b. and_then (λ more. states_behind more (forms (map seen (drop (suc i) xs)))) (refuse b fault.Transducer >> Ok (before ++ n ∷ []))) f

  pub states-shape : symbol (seen (get_or xs i d)) ≡ None → w ≡ Err fault.Shape
  states-shape e = sym g ∙ at-next before xs i d h ∙ ap (λ o. and_then (λ more. states_behind more (forms (map seen (drop (suc i) xs)))) (state_behind before o)) e

pub states-end : (before : List Name) (xs : List Sexpr) (i : ℕ) (w : Result (List Name) CheckFault) → length xs ≤ i → states_behind before (forms (map seen (drop i xs))) ≡ w → w ≡ Ok before
states-end before [] zero w h g = sym g
states-end before [] (suc i) w h g = sym g
states-end before (x ∷ xs) zero w h g = absurd (omega arith)
states-end before (x ∷ xs) (suc i) w h g = states-end before xs i w (omega arith) g

pub ruleset listing = (states-on, states-twice, states-shape, states-end)
