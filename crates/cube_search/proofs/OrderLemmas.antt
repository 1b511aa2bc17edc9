-- Definitions that are obeyed up to one of them.
use Rattle.std.proofs.Common.{◌≡◌, ℕ, zero, suc, List, [], ◌∷◌, take, Some, slice_get, subst}
use Rattle.flat_cubes.specs.Satisfying.{ComesBy}
use Rattle.flat_cubes.specs.declared.definition.Definition.{Definition}
use Rattle.backward.specs.Families.{Words}
use Rattle.backward.specs.Leaves.{Obey}

-- the definitions up to one of them are those before it and that one
pub obey-split : (ds : List Definition) (at : ℕ) (d : Definition) (words : Words) → slice_get ds at ≡ Some d → Obey (take (suc at) ds) words
    → Obey (take at ds) words × ComesBy words (words d.variable) d.by
obey-split [] at d words e h = cc
obey-split (c ∷ ds) zero d words e h = let same : c ≡ d = cc in (tt, subst (λ x. ComesBy words (words x.variable) x.by) same h.0)
obey-split (c ∷ ds) (suc at) d words e h = let r = obey-split ds at d words e h.1 in ((h.0, r.0), r.1)

pub obey-join : (ds : List Definition) (at : ℕ) (d : Definition) (words : Words) → slice_get ds at ≡ Some d → Obey (take at ds) words
    → ComesBy words (words d.variable) d.by → Obey (take (suc at) ds) words
obey-join [] at d words e h k = cc
obey-join (c ∷ ds) zero d words e h k = let same : d ≡ c = cc in (subst (λ x. ComesBy words (words x.variable) x.by) same k, tt)
obey-join (c ∷ ds) (suc at) d words e h k = (h.0, obey-join ds at d words e h.1 k)
