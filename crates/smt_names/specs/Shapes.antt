-- What is seen of an s-expression.
use Rattle.std.proofs.Common.{◌≡◌, refl, sym, ap, ◌∙◌, ℕ, suc, ◌<◌, ◌≤◌, Bool, ◌&&◌, List, [], ◌∷◌, length, map, get_or, drop, Some, None, arith}
use Rattle.std.specs.List.{list_all}
use Rattle.sexpr_reader.specs.declared.kind.TokenKind.{TokenKind}
use Rattle.sexpr_reader.specs.declared.sexpr.Sexpr.{Sexpr}
use Rattle.sexpr_reader.specs.declared.sexpr.Sexpr.TheVariants as v
use Rattle.sexpr_reader.specs.declared.sexpr.Sexpr.TheOpen.{Sexpr-F}
use Rattle.sexpr_reader.specs.declared.sexpr.Sexpr.TheFolds.{fold-roll-Sexpr}
use Rattle.smt_names.specs.Form.{Form, forms, form_layer, seen, token, group, end, ◌⨾◌, two, are_all, count}

pub seen-Atom : (k : TokenKind) (text : List ℕ) → seen (v.Atom k text) ≡ token k text
seen-Atom k text = ap seen (sym (v.rolls-Atom k text)) ∙ fold-roll-Sexpr Form form_layer (Sexpr-F.Atom k text)

pub seen-List : (xs : List Sexpr) → seen (v.List xs) ≡ group (forms (map seen xs))
seen-List xs = ap seen (sym (v.rolls-List xs)) ∙ fold-roll-Sexpr Form form_layer (Sexpr-F.List xs)

module _ (b : Sexpr) (xs : List Sexpr) (is_ : b ≡ v.List xs) where
  opened : seen b ≡ group (forms (map seen xs))
  opened = ap seen is_ ∙ seen-List xs

  pub two-two : (x y : Sexpr) → 2 ≤ length xs → length xs < 3 → x ≡ get_or xs 0 x → y ≡ get_or xs 1 y → two (seen b) ≡ Some (seen x, seen y)
  two-two x y h g e f = ap two opened ∙ go xs h g e f
    where
      go : (xs : List Sexpr) → 2 ≤ length xs → length xs < 3 → x ≡ get_or xs 0 x → y ≡ get_or xs 1 y → two (group (forms (map seen xs))) ≡ Some (seen x, seen y)
      go [] h g e f = absurd (omega arith)
      go (a ∷ []) h g e f = absurd (omega arith)
      go (a ∷ c ∷ []) h g e f = λ i. Some (seen (sym e i), seen (sym f i))
      go (a ∷ c ∷ d ∷ xs) h g e f = absurd (omega arith)

  pub two-few : length xs < 2 → two (seen b) ≡ None
  two-few h = ap two opened ∙ go xs h
    where
      go : (xs : List Sexpr) → length xs < 2 → two (group (forms (map seen xs))) ≡ None
      go [] h = refl
      go (a ∷ []) h = refl
      go (a ∷ c ∷ xs) h = absurd (omega arith)

  pub two-many : 3 ≤ length xs → two (seen b) ≡ None
  two-many h = ap two opened ∙ go xs h
    where
      go : (xs : List Sexpr) → 3 ≤ length xs → two (group (forms (map seen xs))) ≡ None
      go [] h = absurd (omega arith)
      go (a ∷ []) h = absurd (omega arith)
      go (a ∷ c ∷ []) h = absurd (omega arith)
      go (a ∷ c ∷ d ∷ xs) h = refl

-- forms of so many items
pub none-seen : (xs : List Sexpr) → length xs < 1 → forms (map seen xs) ≡ end
none-seen [] h = refl
none-seen (a ∷ xs) h = absurd (omega arith)

pub one-seen : (xs : List Sexpr) (x : Sexpr) → 1 ≤ length xs → length xs < 2 → x ≡ get_or xs 0 x → forms (map seen xs) ≡ seen x ⨾ end
one-seen [] x h g e = absurd (omega arith)
one-seen (a ∷ []) x h g e = λ i. seen (sym e i) ⨾ end
one-seen (a ∷ b ∷ xs) x h g e = absurd (omega arith)

pub two-seen : (xs : List Sexpr) (x y : Sexpr) → 2 ≤ length xs → length xs < 3 → x ≡ get_or xs 0 x → y ≡ get_or xs 1 y → forms (map seen xs) ≡ seen x ⨾ seen y ⨾ end
two-seen [] x y h g e f = absurd (omega arith)
two-seen (a ∷ []) x y h g e f = absurd (omega arith)
two-seen (a ∷ b ∷ []) x y h g e f = λ i. seen (sym e i) ⨾ seen (sym f i) ⨾ end
two-seen (a ∷ b ∷ c ∷ xs) x y h g e f = absurd (omega arith)

pub first-seen : (xs : List Sexpr) (x : Sexpr) (ys : List Sexpr) → 1 ≤ length xs → x ≡ get_or xs 0 x → ys ≡ drop 1 xs → forms (map seen xs) ≡ seen x ⨾ forms (map seen ys)
first-seen [] x ys h e f = absurd (omega arith)
first-seen (a ∷ xs) x ys h e f = λ i. seen (sym e i) ⨾ forms (map seen (sym f i))

-- whether each form passes a test
pub are-listed : (test : Form → Bool) (xs : List Sexpr) → are_all test (forms (map seen xs)) ≡ list_all (λ x. test (seen x)) xs
are-listed test [] = refl
are-listed test (x ∷ xs) = ap (λ b. test (seen x) && b) (are-listed test xs)

pub ruleset shapes = (seen-Atom, seen-List, two-two, two-few, two-many)

pub count-seen : (xs : List Sexpr) → count (forms (map seen xs)) ≡ length xs
count-seen [] = refl
count-seen (x ∷ xs) = ap suc (count-seen xs)
