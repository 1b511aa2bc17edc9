use Rattle.cube_search.proofs.PartLemmas.{part-cube, part-refutes}
use Rattle.cube_search.proofs.apart.is_part_refuted.Goals as goal

pub is_refuted-requires-clause-cube : goal.is_refuted-requires-clause-cube
is_refuted-requires-clause-cube c = part-cube c.args.flat.now c.in_ok-part.part c.as_slice.result.now c.in_ok-part.ensures c.requires.cube

pub returns-then-branch : goal.returns-then-branch
returns-then-branch c = λ t. part-refutes c.args.flat.now c.in_ok-part.part c.as_slice.result.now c.in_ok-part.ensures (c.in_ok-is_refuted.ensures c.if-branch.true)
