-- The factors of functions.
use Rattle.std.proofs.Common.{◌≡◌, refl, ap, ◌∙◌, Bool, true, false, ◌||◌, List, [], ◌∷◌}
use Rattle.std.specs.List.{list_any}
use Rattle.sv_terms.specs.declared.op.Op.{Op}
use Rattle.sv_terms.specs.declared.op.Op.TheVariants as op
use Rattle.term_weight.specs.declared.weight.Factor.{Factor}
use Rattle.term_weight.specs.declared.weight.Factor.TheVariants.{Literal, Known, Unknown}
use Rattle.term_weight.specs.Bodies.{is_unknown, holds, applied_factor}
use Rattle.term_weight.specs.Weights.{is_literal}
use Rattle.term_weight.specs.Summaries.{is_measure}

pub or-false : (b : Bool) → b ≡ (b || false)
or-false true = refl
or-false false = refl

pub op-factor : (o : Op) (fs : List Factor) → applied_factor o fs ≡ holds (list_any is_unknown fs || is_measure o fs)
op-factor op.Length [] = refl
op-factor op.Length (Literal ∷ []) = refl
op-factor op.Length (Known ∷ []) = refl
op-factor op.Length (Unknown ∷ []) = refl
op-factor op.Length (f ∷ g ∷ fs) = length-many f g fs
  where
    or-true : (b : Bool) → Unknown ≡ holds (b || true)
    or-true true = refl
    or-true false = refl

    length-many : (f g : Factor) (fs : List Factor) → applied_factor op.Length (f ∷ g ∷ fs) ≡ holds (list_any is_unknown (f ∷ g ∷ fs) || true)
    length-many Literal g fs = or-true _
    length-many Known g fs = or-true _
    length-many Unknown g fs = refl
op-factor op.Not fs = ap holds (or-false _)
op-factor op.And fs = ap holds (or-false _)
op-factor op.Or fs = ap holds (or-false _)
op-factor op.Xor fs = ap holds (or-false _)
op-factor op.Implies fs = ap holds (or-false _)
op-factor op.Equal fs = ap holds (or-false _)
op-factor op.Distinct fs = ap holds (or-false _)
op-factor op.IfThenElse fs = ap holds (or-false _)
op-factor op.LessEqual fs = ap holds (or-false _)
op-factor op.Less fs = ap holds (or-false _)
op-factor op.GreaterEqual fs = ap holds (or-false _)
op-factor op.Greater fs = ap holds (or-false _)
op-factor op.Add fs = ap holds (or-false _)
op-factor op.Subtract fs = ap holds (or-false _)
op-factor op.Multiply fs = ap holds (or-false _)
op-factor op.Concat fs = ap holds (or-false _)
op-factor op.Replace fs = ap holds (or-false _)
op-factor op.ReplaceAll fs = ap holds (or-false _)
op-factor op.PrefixOf fs = ap holds (or-false _)
op-factor op.SuffixOf fs = ap holds (or-false _)
op-factor op.Contains fs = ap holds (or-false _)
op-factor op.IsDigit fs = ap holds (or-false _)

pub unknown-holds : (b : Bool) → is_unknown (holds b) ≡ b
unknown-holds true = refl
unknown-holds false = refl

pub holds-known : (b : Bool) → is_literal (holds b) ≡ false
holds-known true = refl
holds-known false = refl

pub op-known : (o : Op) (fs : List Factor) → is_literal (applied_factor o fs) ≡ false
op-known o fs = ap is_literal (op-factor o fs) ∙ holds-known _
