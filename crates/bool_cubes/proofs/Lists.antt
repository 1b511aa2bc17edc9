-- Terms as arguments and as formulas, one more at the end.
use Rattle.std.proofs.Common.{◌≡◌, refl, ap, ◌∙◌, ℕ, ◌+◌, ◌<◌, List, [], ◌∷◌, ◌++◌, length, take, get_or, arith}
use Rattle.sv_terms.specs.declared.term.Term.{Term}
use Rattle.literal_forms.specs.Shapes.{seen}
use Rattle.literal_forms.proofs.Combined.{more}
use Rattle.bool_cubes.specs.Trees.{Formula, negated, agreement, exclusive, exclusive_from, formula, formulas}
use Rattle.bool_cubes.specs.Arguments.{parts_of, formulas_of}

pub parts_formulas : (ts : List Term) → formulas (parts_of ts) ≡ formulas_of ts
parts_formulas [] = refl
parts_formulas (t ∷ ts) = ap (λ fs. formula (seen t) ∷ fs) (parts_formulas ts)

formulas_push : (ts : List Term) (t : Term) → formulas_of (ts ++ t ∷ []) ≡ formulas_of ts ++ formula (seen t) ∷ []
formulas_push [] t = refl
formulas_push (u ∷ ts) t = ap (λ fs. formula (seen u) ∷ fs) (formulas_push ts t)

pub formulas_more : (ts : List Term) (i : ℕ) (t : Term) → i < length ts → t ≡ get_or ts i t → formulas_of (take (i + 1) ts) ≡ formulas_of (take i ts) ++ formula (seen t) ∷ []
formulas_more ts i t h e = ap formulas_of (more ts i t h e) ∙ formulas_push (take i ts) t

-- xor from the left
exclusive_push_from : (f : Formula) (fs : List Formula) (g : Formula) → exclusive_from f (fs ++ g ∷ []) ≡ negated (agreement (exclusive_from f fs) g)
exclusive_push_from f [] g = refl
exclusive_push_from f (h ∷ fs) g = exclusive_push_from (negated (agreement f h)) fs g

pub exclusive_push : (fs : List Formula) (g : Formula) → 0 < length fs → exclusive (fs ++ g ∷ []) ≡ negated (agreement (exclusive fs) g)
exclusive_push [] g h = absurd (omega arith)
exclusive_push (f ∷ fs) g h = exclusive_push_from f fs g
