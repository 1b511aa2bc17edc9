use Rattle.std.proofs.Common.{[], ◌∷◌}
use Rattle.literal_forms.specs.Linear.{added, addition}
use Rattle.cube_draft.specs.Comparing.{one}
use Rattle.cube_draft.proofs.Comparisons.{fault_memory}
use Rattle.cube_draft.proofs.comparison.plus_one.Goals as goal

pub returns-in-Ok : goal.returns-in-Ok
returns-in-Ok c = record { each = λ us a n f. (c.in-Ok.ensures us a one n f (c.number.ensures us)).1 }

pub memory-requires : goal.memory-requires
memory-requires c = let r = c.requires in fault_memory r.codes (added r.of one) (addition r.of one ∷ []) c.in-Err.fault r.plain (c.in-Err.ensures r.codes r.of one r.numbered r.form (c.number.ensures r.codes))
