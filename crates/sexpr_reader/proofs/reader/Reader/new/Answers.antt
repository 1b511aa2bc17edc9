use Rattle.std.proofs.Common.{[], ap, false, drop}
use Rattle.sexpr_reader.specs.declared.mode.Mode.TheVariants as m
use Rattle.sexpr_reader.proofs.Places.{at_start, at_lists}
use Rattle.sexpr_reader.proofs.reader.Reader.new.Goals as goal

pub returns : goal.returns
returns c = record { stands = record { at = at_lists false m.Blank [] _ 0 _ _ [] [] (at_start false (drop 0 c.new.result.items) (drop 0 c.new.result.items) (ap (drop 0) c.new.ensures.items) (ap (drop 0) c.new.ensures.items)) c.new-2.ensures } }
