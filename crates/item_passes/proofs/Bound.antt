-- The terms that `let` and quantifiers are written with.
use Rattle.std.proofs.Common.{◌≡◌, refl, sym, ap, ◌∙◌, ℕ, ◌<◌, ◌≤◌, true, false, List, [], ◌∷◌, length, map, get_or, Result, Ok, Err, arith}
use Rattle.sexpr_reader.specs.declared.kind.TokenKind.{TokenKind}
use Rattle.sexpr_reader.specs.declared.sexpr.Sexpr.{Sexpr}
use Rattle.sexpr_reader.specs.declared.sexpr.Sexpr.TheVariants as v
use Rattle.smt_names.specs.declared.check_fault.CheckFault.{CheckFault}
use Rattle.item_passes.specs.declared.pass.Pass.{Pass}
use Rattle.smt_names.specs.Faults.{Answers, ◌>>◌}
use Rattle.item_passes.specs.Binders.{is_binding, is_variable, are_some}
use Rattle.smt_names.specs.Form.{Form, forms, seen, token, group, end, ◌⨾◌}
use Rattle.item_passes.specs.Passes.{at_bindings, at_variables, looked, looked_let, looked_values, looked_value, looked_quantifier}
use Rattle.smt_names.specs.Answering.{answers-same, fault-passes}
use mathlib.Core.Bool.{cond}
use Rattle.smt_names.specs.Shapes.{seen-Atom, seen-List, none-seen, two-seen, first-seen}

module _ (pass : Pass) where
  -- a list and a body
  module _ (xs : List Sexpr) (x y : Sexpr) (h : 2 ≤ length xs) (g : length xs < 3) (e : x ≡ get_or xs 0 x) (f : y ≡ get_or xs 1 y) where
    module _ (bs : List Sexpr) (is_ : x ≡ v.List bs) where
      within : forms (map seen xs) ≡ group (forms (map seen bs)) ⨾ seen y ⨾ end
      within = two-seen xs x y h g e f ∙ ap (λ z. z ⨾ seen y ⨾ end) (ap seen is_ ∙ seen-List bs)

      let-is : looked_let pass (forms (map seen xs)) ≡ cond (are_some is_binding (forms (map seen bs))) (at_bindings pass (forms (map seen bs)) >> looked_values pass (forms (map seen bs)) >> looked pass (seen y)) (Ok tt)
      let-is = ap (looked_let pass) within

      let-looks : are_some is_binding (forms (map seen bs)) ≡ true → looked_let pass (forms (map seen xs)) ≡ (at_bindings pass (forms (map seen bs)) >> looked_values pass (forms (map seen bs)) >> looked pass (seen y))
      let-looks s = let-is ∙ ap (λ b. cond b (at_bindings pass (forms (map seen bs)) >> looked_values pass (forms (map seen bs)) >> looked pass (seen y)) (Ok tt)) s

      pub let-skip : are_some is_binding (forms (map seen bs)) ≡ false → looked_let pass (forms (map seen xs)) ≡ Ok tt
      let-skip s = let-is ∙ ap (λ b. cond b (at_bindings pass (forms (map seen bs)) >> looked_values pass (forms (map seen bs)) >> looked pass (seen y)) (Ok tt)) s

      pub let-twice : (f : CheckFault) → are_some is_binding (forms (map seen bs)) ≡ true → Answers (at_bindings pass (forms (map seen bs))) (Err f) → Answers (looked_let pass (forms (map seen xs))) (Err f)
      let-twice f s a = fault-passes (at_bindings pass (forms (map seen bs))) (looked_let pass (forms (map seen xs))) f (λ k. let-looks s ∙ ap (λ m. m >> looked_values pass (forms (map seen bs)) >> looked pass (seen y)) k) a

      pub let-value : (f : CheckFault) (u : Unit {0}) → are_some is_binding (forms (map seen bs)) ≡ true → at_bindings pass (forms (map seen bs)) ≡ Ok u → Answers (looked_values pass (forms (map seen bs))) (Err f) → Answers (looked_let pass (forms (map seen xs))) (Err f)
      let-value f u s o a = fault-passes (looked_values pass (forms (map seen bs))) (looked_let pass (forms (map seen xs))) f (λ k. let-looks s ∙ ap (λ m. m >> looked_values pass (forms (map seen bs)) >> looked pass (seen y)) o ∙ ap (λ m. m >> looked pass (seen y)) k) a

      pub let-body : (r : Result Unit CheckFault) (u w : Unit {0}) → are_some is_binding (forms (map seen bs)) ≡ true → at_bindings pass (forms (map seen bs)) ≡ Ok u → looked_values pass (forms (map seen bs)) ≡ Ok w → Answers (looked pass (seen y)) r → Answers (looked_let pass (forms (map seen xs))) r
      let-body r u w s o k a = answers-same (looked pass (seen y)) (looked_let pass (forms (map seen xs))) r (let-looks s ∙ ap (λ m. m >> looked_values pass (forms (map seen bs)) >> looked pass (seen y)) o ∙ ap (λ m. m >> looked pass (seen y)) k) a

      quantifier-is : looked_quantifier pass (forms (map seen xs)) ≡ cond (are_some is_variable (forms (map seen bs))) (at_variables pass (forms (map seen bs)) >> looked pass (seen y)) (Ok tt)
      quantifier-is = ap (looked_quantifier pass) within

      quantifier-looks : are_some is_variable (forms (map seen bs)) ≡ true → looked_quantifier pass (forms (map seen xs)) ≡ (at_variables pass (forms (map seen bs)) >> looked pass (seen y))
      quantifier-looks s = quantifier-is ∙ ap (λ b. cond b (at_variables pass (forms (map seen bs)) >> looked pass (seen y)) (Ok tt)) s

      pub quantifier-skip : are_some is_variable (forms (map seen bs)) ≡ false → looked_quantifier pass (forms (map seen xs)) ≡ Ok tt
      quantifier-skip s = quantifier-is ∙ ap (λ b. cond b (at_variables pass (forms (map seen bs)) >> looked pass (seen y)) (Ok tt)) s

      pub quantifier-variable : (f : CheckFault) → are_some is_variable (forms (map seen bs)) ≡ true → at_variables pass (forms (map seen bs)) ≡ Err f → looked_quantifier pass (forms (map seen xs)) ≡ Err f
      quantifier-variable f s k = quantifier-looks s ∙ ap (λ m. m >> looked pass (seen y)) k

      pub quantifier-body : (r : Result Unit CheckFault) (u : Unit {0}) → are_some is_variable (forms (map seen bs)) ≡ true → at_variables pass (forms (map seen bs)) ≡ Ok u → Answers (looked pass (seen y)) r → Answers (looked_quantifier pass (forms (map seen xs))) r
      quantifier-body r u s o a = answers-same (looked pass (seen y)) (looked_quantifier pass (forms (map seen xs))) r (quantifier-looks s ∙ ap (λ m. m >> looked pass (seen y)) o) a

    module _ (k : TokenKind) (text : List ℕ) (is_ : x ≡ v.Atom k text) where
      beside : forms (map seen xs) ≡ token k text ⨾ seen y ⨾ end
      beside = two-seen xs x y h g e f ∙ ap (λ z. z ⨾ seen y ⨾ end) (ap seen is_ ∙ seen-Atom k text)

      pub let-token : looked_let pass (forms (map seen xs)) ≡ Ok tt
      let-token = ap (looked_let pass) beside

      pub quantifier-token : looked_quantifier pass (forms (map seen xs)) ≡ Ok tt
      quantifier-token = ap (looked_quantifier pass) beside

  pub let-few : (xs : List Sexpr) → length xs < 2 → looked_let pass (forms (map seen xs)) ≡ Ok tt
  let-few [] h = refl
  let-few (x ∷ y ∷ xs) h = absurd (omega arith)
  let-few (x ∷ []) h = go (seen x)
    where
      go : (f : Form) → looked_let pass (f ⨾ end) ≡ Ok tt
      go (token kind text) = refl
      go (group fs) = refl

  pub let-many : (xs : List Sexpr) → 3 ≤ length xs → looked_let pass (forms (map seen xs)) ≡ Ok tt
  let-many [] h = absurd (omega arith)
  let-many (x ∷ []) h = absurd (omega arith)
  let-many (x ∷ y ∷ []) h = absurd (omega arith)
  let-many (x ∷ y ∷ z ∷ xs) h = go (seen x)
    where
      go : (f : Form) → looked_let pass (f ⨾ seen y ⨾ seen z ⨾ forms (map seen xs)) ≡ Ok tt
      go (token kind text) = refl
      go (group fs) = refl

  pub quantifier-few : (xs : List Sexpr) → length xs < 2 → looked_quantifier pass (forms (map seen xs)) ≡ Ok tt
  quantifier-few [] h = refl
  quantifier-few (x ∷ y ∷ xs) h = absurd (omega arith)
  quantifier-few (x ∷ []) h = go (seen x)
    where
      go : (f : Form) → looked_quantifier pass (f ⨾ end) ≡ Ok tt
      go (token kind text) = refl
      go (group fs) = refl

  pub quantifier-many : (xs : List Sexpr) → 3 ≤ length xs → looked_quantifier pass (forms (map seen xs)) ≡ Ok tt
  quantifier-many [] h = absurd (omega arith)
  quantifier-many (x ∷ []) h = absurd (omega arith)
  quantifier-many (x ∷ y ∷ []) h = absurd (omega arith)
  quantifier-many (x ∷ y ∷ z ∷ xs) h = go (seen x)
    where
      go : (f : Form) → looked_quantifier pass (f ⨾ seen y ⨾ seen z ⨾ forms (map seen xs)) ≡ Ok tt
      go (token kind text) = refl
      go (group fs) = refl

  module _ (b : Sexpr) (xs : List Sexpr) (is_ : b ≡ v.List xs) where
    opened : seen b ≡ group (forms (map seen xs))
    opened = ap seen is_ ∙ seen-List xs

    pub value-two : (y : Sexpr) (r : Result Unit CheckFault) → 2 ≤ length xs → length xs < 3 → y ≡ get_or xs 1 y → Answers (looked pass (seen y)) r → Answers (looked_value pass (seen b)) r
    value-two y r h g f a = answers-same (looked pass (seen y)) (looked_value pass (seen b)) r (ap (looked_value pass) opened ∙ go xs h g f) a
      where
        go : (xs : List Sexpr) → 2 ≤ length xs → length xs < 3 → y ≡ get_or xs 1 y → looked_value pass (group (forms (map seen xs))) ≡ looked pass (seen y)
        go [] h g f = absurd (omega arith)
        go (a ∷ []) h g f = absurd (omega arith)
        go (a ∷ c ∷ []) h g f = ap (λ z. looked pass (seen z)) (sym f)
        go (a ∷ c ∷ d ∷ xs) h g f = absurd (omega arith)

    pub value-few : length xs < 2 → looked_value pass (seen b) ≡ Ok tt
    value-few h = ap (looked_value pass) opened ∙ go xs h
      where
        go : (xs : List Sexpr) → length xs < 2 → looked_value pass (group (forms (map seen xs))) ≡ Ok tt
        go [] h = refl
        go (x ∷ []) h = refl
        go (x ∷ y ∷ xs) h = absurd (omega arith)

    pub value-many : 3 ≤ length xs → looked_value pass (seen b) ≡ Ok tt
    value-many h = ap (looked_value pass) opened ∙ go xs h
      where
        go : (xs : List Sexpr) → 3 ≤ length xs → looked_value pass (group (forms (map seen xs))) ≡ Ok tt
        go [] h = absurd (omega arith)
        go (x ∷ []) h = absurd (omega arith)
        go (x ∷ y ∷ []) h = absurd (omega arith)
        go (x ∷ y ∷ z ∷ xs) h = refl

pub ruleset lets = (let-skip, let-twice, let-value, let-body, let-token, let-few, let-many)

pub ruleset quantifiers = (quantifier-skip, quantifier-variable, quantifier-body, quantifier-token, quantifier-few, quantifier-many)

pub ruleset values = (value-two, value-few, value-many)

pub ruleset identifiers = (none-seen, first-seen)
