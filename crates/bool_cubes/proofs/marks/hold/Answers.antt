use Rattle.std.proofs.Common.{◌++◌, ◌∷◌, []}
use Rattle.bool_cubes.proofs.Holding.{among_left, held_kept, held_more}
use Rattle.bool_cubes.proofs.marks.hold.Goals as goal

pub returns-then-is_refused-clause-held : goal.returns-then-is_refused-clause-held
returns-then-is_refused-clause-held c = λ ls h. held_more c.args.nodes.now ls (ls ++ c.args.literal.now ∷ []) c.args.marks.now h (among_left ls (c.args.literal.now ∷ []))

pub returns-clause-held : goal.returns-clause-held
returns-clause-held c = λ ls h. held_kept c.args.nodes.now ls c.args.marks.now c.keep.new.marks c.args.at c.args.literal.now h c.keep.ensures c.requires.literal
