-- The verdict that the answers for all cubes make.
use Rattle.std.specs.Prelude.{ℕ, suc, ◌+◌, List, [], ◌∷◌, Option, Some, None}
use Rattle.sv_terms.specs.Meaning.{Named}
use Rattle.sv_terms.specs.declared.term.Term.{Term}
use Rattle.cube_search.specs.declared.answer.CubeAnswer.{CubeAnswer}
use Rattle.cube_search.specs.declared.answer.CubeAnswer.TheVariants as answer
use Rattle.cube_search.specs.declared.answer.Refutation.{Refutation}
use Rattle.cube_search.specs.declared.reason.OpenReason.{OpenReason}
use Rattle.cube_search.specs.declared.reason.OpenReason.TheVariants.{Fragment}
use Rattle.cube_search.specs.declared.reason.Shown.TheVariants.{Opaque}
use Rattle.sv_terms.specs.CutOff.{cut_off}
use Rattle.decide.specs.declared.verdict.Open.TheVariants.{Cubes}
use Rattle.decide.specs.declared.verdict.Verdict.{Verdict}
use Rattle.decide.specs.declared.verdict.Verdict.TheVariants.{Sat, Unsat, Unknown}

-- the model of the first cube that has one
abbrev pub first_sat : List CubeAnswer → Option Named
first_sat [] = None
first_sat (answer.Sat model ∷ answers) = Some model
first_sat (answer.Unsat refutation ∷ answers) = first_sat answers
first_sat (answer.Open reason ∷ answers) = first_sat answers

-- a cube with values is open where an assertion is opaque
abbrev pub sat_open : ℕ → List Term → List (ℕ × OpenReason) → List (ℕ × OpenReason)
sat_open k [] rest = rest
sat_open k (t ∷ ts) rest = (k, Fragment (Opaque t)) ∷ rest

-- the open cubes, counted from k
abbrev pub opens_from : ℕ → List Term → List CubeAnswer → List (ℕ × OpenReason)
opens_from k opaque [] = []
opens_from k opaque (answer.Sat model ∷ answers) = sat_open k opaque (opens_from (suc k) opaque answers)
opens_from k opaque (answer.Unsat refutation ∷ answers) = opens_from (suc k) opaque answers
opens_from k opaque (answer.Open reason ∷ answers) = (k, reason) ∷ opens_from (suc k) opaque answers

abbrev pub refutation : ℕ → ℕ → ℕ → Refutation
refutation empty trees boxes = record { empty = empty; trees = trees; boxes = boxes }

abbrev pub add : Refutation → Refutation → Refutation
add a b = refutation (cut_off (a.empty + b.empty)) (cut_off (a.trees + b.trees)) (cut_off (a.boxes + b.boxes))

-- the closed leaves of all refuted cubes, counted up to the greatest number of 64 bits
abbrev pub refuted_from : Refutation → List CubeAnswer → Refutation
refuted_from r [] = r
refuted_from r (answer.Sat model ∷ answers) = refuted_from r answers
refuted_from r (answer.Unsat s ∷ answers) = refuted_from (add r s) answers
refuted_from r (answer.Open reason ∷ answers) = refuted_from r answers

abbrev pub without_sat : List (ℕ × OpenReason) → Refutation → Verdict
without_sat [] r = Unsat r
without_sat (o ∷ os) r = Unknown (Cubes (o ∷ os))

abbrev pub with_first : Option Named → Verdict → Verdict
with_first None v = v
with_first (Some model) v = Sat model

-- the first, if there is one, else the other
abbrev pub or_else : {X : Type 0} → Option X → Option X → Option X
or_else None other = other
or_else (Some x) other = Some x

-- the model that ends the search: the first one, where no assertion is opaque
abbrev pub found : List Term → List CubeAnswer → Option Named
found [] answers = first_sat answers
found (t ∷ ts) answers = None

-- the first sat, where no assertion is opaque; else all open cubes; else unsat
abbrev pub fold : List Term → List CubeAnswer → Verdict
fold opaque answers = with_first (found opaque answers) (without_sat (opens_from 0 opaque answers) (refuted_from (refutation 0 0 0) answers))
