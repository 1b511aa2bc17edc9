-- A fold over the term of a shape, along the shape.
use Rattle.std.proofs.Common.{◌≡◌, List, [], ◌∷◌, refl, ap, ◌∙◌, map}
use Rattle.literal_forms.specs.Shapes.{Shape, Shapes, truth, number, text, constant, apply, member, related, opaque, end, ◌⨾◌, raw, raws}
use Rattle.sv_terms.specs.SortingLaws.{fold-at}
use Rattle.sv_terms.specs.declared.term.Term.TheFolds.{fold-Term}
use Rattle.sv_terms.specs.declared.term.Term.TheOpen.{Term-F}
use Rattle.sv_terms.specs.declared.term.Term.TheVariants as term

module _ (X : Type 0) (step : Term-F X → X) where
  abbrev mutual
    pub shape_fold : Shape → X
    shape_fold (truth b) = step (Term-F.Truth b)
    shape_fold (number n) = step (Term-F.Number n)
    shape_fold (text w) = step (Term-F.Text w)
    shape_fold (constant name s) = step (Term-F.Constant name s)
    shape_fold (apply o ss) = step (Term-F.Apply o (shape_folds ss))
    shape_fold (member s r) = step (Term-F.InRe (shape_fold s) r)
    shape_fold (related t s u) = step (Term-F.Related t (shape_fold s) (shape_fold u))
    shape_fold (opaque s) = step (Term-F.Opaque s)

    pub shape_folds : Shapes → List X
    shape_folds end = []
    shape_folds (s ⨾ ss) = shape_fold s ∷ shape_folds ss

  mutual
    pub fold-raw : (s : Shape) → fold-Term X step (raw s) ≡ shape_fold s
    fold-raw (truth b) = fold-at X step _ (Term-F.Truth b) (term.rolls-Truth b)
    fold-raw (number n) = fold-at X step _ (Term-F.Number n) (term.rolls-Number n)
    fold-raw (text w) = fold-at X step _ (Term-F.Text w) (term.rolls-Text w)
    fold-raw (constant name s) = fold-at X step _ (Term-F.Constant name s) (term.rolls-Constant name s)
    fold-raw (apply o ss) = fold-at X step _ (Term-F.Apply o (raws ss)) (term.rolls-Apply o (raws ss)) ∙ ap (λ (xs : List X). step (Term-F.Apply o xs)) (folds-raws ss)
    fold-raw (member s r) = fold-at X step _ (Term-F.InRe (raw s) r) (term.rolls-InRe (raw s) r) ∙ ap (λ (z : X). step (Term-F.InRe z r)) (fold-raw s)
    fold-raw (related t s u) = fold-at X step _ (Term-F.Related t (raw s) (raw u)) (term.rolls-Related t (raw s) (raw u)) ∙ (λ i. step (Term-F.Related t (fold-raw s i) (fold-raw u i)))
    fold-raw (opaque s) = fold-at X step _ (Term-F.Opaque s) (term.rolls-Opaque s)

    pub folds-raws : (ss : Shapes) → map (fold-Term X step) (raws ss) ≡ shape_folds ss
    folds-raws end = refl
    folds-raws (s ⨾ ss) = λ i. fold-raw s i ∷ folds-raws ss i
