-- The parts of a list of five.
use Rattle.std.proofs.Common.{◌≡◌, refl, sym, ap, ◌∙◌, ◌<◌, ◌≤◌, List, [], ◌∷◌, length, map, get_or, None, arith}
use Rattle.sexpr_reader.specs.declared.sexpr.Sexpr.{Sexpr}
use Rattle.sexpr_reader.specs.declared.sexpr.Sexpr.TheVariants as v
use Rattle.smt_names.specs.Form.{forms, seen, group}
use Rattle.smt_names.specs.Shapes.{seen-List}
use Rattle.smt_names.specs.Tokens.{listed}
use Rattle.transducer_form.specs.Written.{edge_form, edge_if}

module _ (b : Sexpr) (xs : List Sexpr) (is_ : b ≡ v.List xs) where
  opened : edge_form (seen b) ≡ edge_form (group (forms (map seen xs)))
  opened = ap edge_form (ap seen is_ ∙ seen-List xs)

  pub five-parts : (p q r s t : Sexpr) → 5 ≤ length xs → length xs < 6 → p ≡ get_or xs 0 p → q ≡ get_or xs 1 q → r ≡ get_or xs 2 r → s ≡ get_or xs 3 s → t ≡ get_or xs 4 t
      → edge_form (seen b) ≡ edge_if (seen p) (seen q) (seen r) (listed (seen s)) (seen t)
  five-parts p q r s t h g e1 e2 e3 e4 e5 = opened ∙ go xs h g e1 e2 e3 e4 e5
    where
      go : (xs : List Sexpr) → 5 ≤ length xs → length xs < 6 → p ≡ get_or xs 0 p → q ≡ get_or xs 1 q → r ≡ get_or xs 2 r → s ≡ get_or xs 3 s → t ≡ get_or xs 4 t
          → edge_form (group (forms (map seen xs))) ≡ edge_if (seen p) (seen q) (seen r) (listed (seen s)) (seen t)
      go [] h g e1 e2 e3 e4 e5 = absurd (omega arith)
      go (a ∷ []) h g e1 e2 e3 e4 e5 = absurd (omega arith)
      go (a ∷ b ∷ []) h g e1 e2 e3 e4 e5 = absurd (omega arith)
      go (a ∷ b ∷ c ∷ []) h g e1 e2 e3 e4 e5 = absurd (omega arith)
      go (a ∷ b ∷ c ∷ d ∷ []) h g e1 e2 e3 e4 e5 = absurd (omega arith)
      go (a ∷ b ∷ c ∷ d ∷ e ∷ []) h g e1 e2 e3 e4 e5 = λ i. edge_if (seen (sym e1 i)) (seen (sym e2 i)) (seen (sym e3 i)) (listed (seen (sym e4 i))) (seen (sym e5 i))
      go (a ∷ b ∷ c ∷ d ∷ e ∷ f ∷ xs) h g e1 e2 e3 e4 e5 = absurd (omega arith)

  pub five-few : length xs < 5 → edge_form (seen b) ≡ None
  five-few h = opened ∙ go xs h
    where
      go : (xs : List Sexpr) → length xs < 5 → edge_form (group (forms (map seen xs))) ≡ None
      go [] h = refl
      go (a ∷ []) h = refl
      go (a ∷ b ∷ []) h = refl
      go (a ∷ b ∷ c ∷ []) h = refl
      go (a ∷ b ∷ c ∷ d ∷ []) h = refl
      go (a ∷ b ∷ c ∷ d ∷ e ∷ xs) h = absurd (omega arith)

  pub five-many : 6 ≤ length xs → edge_form (seen b) ≡ None
  five-many h = opened ∙ go xs h
    where
      go : (xs : List Sexpr) → 6 ≤ length xs → edge_form (group (forms (map seen xs))) ≡ None
      go [] h = absurd (omega arith)
      go (a ∷ []) h = absurd (omega arith)
      go (a ∷ b ∷ []) h = absurd (omega arith)
      go (a ∷ b ∷ c ∷ []) h = absurd (omega arith)
      go (a ∷ b ∷ c ∷ d ∷ []) h = absurd (omega arith)
      go (a ∷ b ∷ c ∷ d ∷ e ∷ []) h = absurd (omega arith)
      go (a ∷ b ∷ c ∷ d ∷ e ∷ f ∷ xs) h = refl

pub ruleset fives = (five-parts, five-few, five-many)
