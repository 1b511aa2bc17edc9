-- Definitions of a flat cube, as families of machines carry them.
use Rattle.std.specs.Prelude.{◌≡◌, ◌↔◌, ◌≤◌, ◌+◌, ◌*◌, max, ℕ, Option, Some, None}
use Rattle.sv_word.specs.Words.{IsWord}
use Rattle.sv_terms.specs.Language.{Word}
use Rattle.sv_terms.specs.Replacement.{replace_first, replace_all}
use Rattle.sv_terms.specs.Transduction.{Pairs, IsFormed, WritesWithin}
use Rattle.sv_terms.specs.TransducerSizes.{edges_most, ends_most}
use Rattle.sv_terms.specs.declared.transducer.Transducer.{Transducer}
use Rattle.cube_bounds.specs.Bounds.{through_states}
use Rattle.cube_bounds.specs.NumberLaws.{slope_of, base_of}
use Rattle.flat_cubes.specs.declared.definition.By.{By}
use Rattle.flat_cubes.specs.declared.definition.By.TheVariants as by
use Rattle.flat_cubes.specs.declared.definition.Definition.{Definition}

abbrev pub definition : ℕ → By → Definition
definition x b = record { variable = x; «by» = b }

-- the variable that a definition reads through a transducer; a concatenation reads none so
abbrev pub reads : By → Option ℕ
reads (by.Concat vs) = None
reads (by.First p u v) = Some v
reads (by.All p u v) = Some v
reads (by.Through t v) = Some v

-- the transducer relates the words that the definition relates
abbrev pub RelatesBy : By → Transducer → Type 0
RelatesBy (by.Concat vs) t = ⊥
RelatesBy (by.First p u v) t = (read written : Word) → Pairs t read written ↔ (IsWord read × (written ≡ replace_first p u read))
RelatesBy (by.All p u v) t = (read written : Word) → Pairs t read written ↔ (IsWord read × (written ≡ replace_all p u read))
RelatesBy (by.Through s v) t = t ≡ s

-- a transducer for the definition, which is as large and writes as much as the text says
pub record IsFor (b : By) (t : Transducer) : Type 0 where
  pub formed : IsFormed t
  pub gives : RelatesBy b t
  pub states : t.states ≡ through_states b
  pub writes : WritesWithin t (λ n. slope_of b * n + base_of b)
  pub most : max (edges_most t.edges) (ends_most t.ends) ≤ slope_of b + base_of b
