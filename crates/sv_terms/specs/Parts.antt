-- Tests of a term by what stands in it: its constants, its transducers and its opaque parts.
use Rattle.std.specs.Prelude.{ℕ, Bool, true, false, ◌&&◌, ◌||◌, List}
use Rattle.std.specs.List.{list_all, list_any}
use Rattle.sv_terms.specs.declared.sort.Sort.{Sort}
use Rattle.sv_terms.specs.declared.term.Term.{Term}
use Rattle.sv_terms.specs.declared.term.Term.TheOpen.{Term-F}
use Rattle.sv_terms.specs.declared.term.Term.TheFolds.{fold-Term}
use Rattle.sv_terms.specs.declared.transducer.Transducer.{Transducer}

-- whether a test holds of each constant of a term, and another of each transducer
module _ (of_constant : List ℕ → Sort → Bool) (of_machine : Transducer → Bool) where
  abbrev pub every_step : Term-F Bool → Bool
  every_step (Term-F.Truth b) = true
  every_step (Term-F.Number n) = true
  every_step (Term-F.Text w) = true
  every_step (Term-F.Constant name s) = of_constant name s
  every_step (Term-F.Apply o bs) = list_all (λ b. b) bs
  every_step (Term-F.InRe b r) = b
  every_step (Term-F.Related t b c) = of_machine t && (b && c)
  every_step (Term-F.Opaque s) = true

  abbrev pub every_part : Term → Bool
  every_part = fold-Term Bool every_step

-- whether a test holds of some constant of a term; where an opaque part stands in it, the answer of such a part counts too
module _ (of_constant : List ℕ → Sort → Bool) (of_opaque : Bool) where
  abbrev pub some_step : Term-F Bool → Bool
  some_step (Term-F.Truth b) = false
  some_step (Term-F.Number n) = false
  some_step (Term-F.Text w) = false
  some_step (Term-F.Constant name s) = of_constant name s
  some_step (Term-F.Apply o bs) = list_any (λ b. b) bs
  some_step (Term-F.InRe b r) = b
  some_step (Term-F.Related t b c) = b || c
  some_step (Term-F.Opaque s) = of_opaque

  abbrev pub some_part : Term → Bool
  some_part = fold-Term Bool some_step

-- whether an opaque part stands in a term
abbrev pub opaque_step : Term-F Bool → Bool
opaque_step = some_step (λ name s. false) true

abbrev pub is_opaque : Term → Bool
is_opaque = fold-Term Bool opaque_step
