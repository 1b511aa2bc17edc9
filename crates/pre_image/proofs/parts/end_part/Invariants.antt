use Rattle.std.proofs.Common.{◌↔◌, take, Any}
use Rattle.pre_image.specs.Parts.{EndsByPath}
use Rattle.pre_image.proofs.parts.end_part.Given as goal

abbrev pub invariant-loop-end : goal.invariant-loop-end
invariant-loop-end l = ⊥ ↔ Any (EndsByPath l.target l.at l.word l.cost) (take l.end-index l.end-items)
