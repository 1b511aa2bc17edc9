-- Lists that are read from forms, one form after another.
use Rattle.std.proofs.Common.{◌≡◌, refl, sym, ap, ◌∙◌, ℕ, zero, suc, ◌+◌, ◌<◌, ◌≤◌, List, [], ◌∷◌, ◌++◌, length, map, get_or, drop, Result, Ok, Err, arith, add-one, append_assoc}
use Rattle.std.proofs.lemmas.List.{append-nil}
use Rattle.sexpr_reader.specs.declared.sexpr.Sexpr.{Sexpr}
use Rattle.smt_names.specs.declared.check_fault.CheckFault.{CheckFault}
use Rattle.smt_names.specs.Answering.{fault-passes}
use Rattle.smt_names.specs.Faults.{Answers, and_then, made_of}
use Rattle.smt_names.specs.Form.{Form, forms, seen}
use Rattle.transducer_form.specs.Descriptions.{list_behind, each_joined, each}

module _ {A : Type 0} where
  behind-twice : (xs ys : List A) (r : Result (List A) CheckFault) → list_behind (xs ++ ys) r ≡ list_behind xs (list_behind ys r)
  behind-twice xs ys (Ok zs) = ap Ok (append_assoc xs ys zs)
  behind-twice xs ys (Err f) = refl

  pub behind-none : (r : Result (List A) CheckFault) → list_behind [] r ≡ r
  behind-none (Ok zs) = refl
  behind-none (Err f) = refl

module _ {A : Type 0} (one : Form → Result (List A) CheckFault) where
  at-next : (xs : List Sexpr) (i : ℕ) (d : Sexpr) → i < length xs → each_joined one (forms (map seen (drop i xs))) ≡ and_then (λ ys. list_behind ys (each_joined one (forms (map seen (drop (suc i) xs))))) (one (seen (get_or xs i d)))
  at-next [] i d h = absurd (omega arith)
  at-next (x ∷ xs) zero d h = refl
  at-next (x ∷ xs) (suc i) d h = at-next xs i d (omega arith)

  pub joined-on : (done : List A) (xs : List Sexpr) (i : ℕ) (d : Sexpr) (new : List A) (w : Result (List A) CheckFault) → i < length xs → one (seen (get_or xs i d)) ≡ Ok new
      → list_behind done (each_joined one (forms (map seen (drop i xs)))) ≡ w → list_behind (done ++ new) (each_joined one (forms (map seen (drop (i + 1) xs)))) ≡ w
  joined-on done xs i d new w h e g = rw add-one (behind-twice done new (each_joined one (forms (map seen (drop (suc i) xs))))
      ∙ sym (ap (λ r. list_behind done (and_then (λ ys. list_behind ys (each_joined one (forms (map seen (drop (suc i) xs))))) r)) e) ∙ sym (ap (list_behind done) (at-next xs i d h)) ∙ g)

  stops : (done : List A) (xs : List Sexpr) (i : ℕ) (d : Sexpr) (f : CheckFault) (w : Result (List A) CheckFault) → i < length xs → one (seen (get_or xs i d)) ≡ Err f
      → list_behind done (each_joined one (forms (map seen (drop i xs)))) ≡ w → w ≡ Err f
  stops done xs i d f w h e g = sym g ∙ ap (list_behind done) (at-next xs i d h ∙ ap (and_then (λ ys. list_behind ys (each_joined one (forms (map seen (drop (suc i) xs)))))) e)

  pub joined-stop : (done : List A) (xs : List Sexpr) (i : ℕ) (d : Sexpr) (f : CheckFault) (w : Result (List A) CheckFault) → i < length xs → Answers (one (seen (get_or xs i d))) (Err f)
      → list_behind done (each_joined one (forms (map seen (drop i xs)))) ≡ w → Answers w (Err f)
  joined-stop done xs i d f w h a g = fault-passes (one (seen (get_or xs i d))) w f (λ e. stops done xs i d f w h e g) a

  at-end : (xs : List Sexpr) (i : ℕ) → length xs ≤ i → each_joined one (forms (map seen (drop i xs))) ≡ Ok []
  at-end [] zero h = refl
  at-end [] (suc i) h = refl
  at-end (x ∷ xs) zero h = absurd (omega arith)
  at-end (x ∷ xs) (suc i) h = at-end xs i (omega arith)

  pub joined-end : (done : List A) (xs : List Sexpr) (i : ℕ) (w : Result (List A) CheckFault) → length xs ≤ i → list_behind done (each_joined one (forms (map seen (drop i xs)))) ≡ w → w ≡ Ok done
  joined-end done xs i w h g = sym g ∙ ap (list_behind done) (at-end xs i h) ∙ ap Ok (append-nil done)

-- the same where each form gives one
module _ {A : Type 0} (one : Form → Result A CheckFault) where
  made-passes : (r : Result A CheckFault) (f : CheckFault) → Answers r (Err f) → Answers (made_of (λ x. x ∷ []) r) (Err f)
  made-passes r f a = fault-passes r (made_of (λ x. x ∷ []) r) f (λ e. ap (made_of (λ x. x ∷ [])) e) a

  pub each-on : (done : List A) (xs : List Sexpr) (i : ℕ) (d : Sexpr) (new : A) (w : Result (List A) CheckFault) → i < length xs → one (seen (get_or xs i d)) ≡ Ok new
      → list_behind done (each one (forms (map seen (drop i xs)))) ≡ w → list_behind (done ++ new ∷ []) (each one (forms (map seen (drop (i + 1) xs)))) ≡ w
  each-on done xs i d new w h e g = joined-on (λ f. made_of (λ x. x ∷ []) (one f)) done xs i d (new ∷ []) w h (ap (made_of (λ x. x ∷ [])) e) g

  pub each-stop : (done : List A) (xs : List Sexpr) (i : ℕ) (d : Sexpr) (f : CheckFault) (w : Result (List A) CheckFault) → i < length xs → Answers (one (seen (get_or xs i d))) (Err f)
      → list_behind done (each one (forms (map seen (drop i xs)))) ≡ w → Answers w (Err f)
  each-stop done xs i d f w h a g = joined-stop (λ f. made_of (λ x. x ∷ []) (one f)) done xs i d f w h (made-passes (one (seen (get_or xs i d))) f a) g

  pub each-end : (done : List A) (xs : List Sexpr) (i : ℕ) (w : Result (List A) CheckFault) → length xs ≤ i → list_behind done (each one (forms (map seen (drop i xs)))) ≡ w → w ≡ Ok done
  each-end done xs i w h g = joined-end (λ f. made_of (λ x. x ∷ []) (one f)) done xs i w h g

pub ruleset joining = (behind-none, joined-on, joined-stop, joined-end)

pub ruleset listing = (behind-none, each-on, each-stop, each-end)
