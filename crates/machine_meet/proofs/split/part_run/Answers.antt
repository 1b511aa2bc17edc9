use Rattle.std.proofs.Common.{Some, length, refl, sym, ap, ◌∙◌, arith}
use Rattle.std.proofs.lemmas.Option.{slice_get_read}
use Rattle.machine_meet.proofs.split.part_run.Goals as goal

pub column-requires : goal.column-requires
column-requires g c = rw c.as_slice.ensures c.requires.states

pub column-requires-2 : goal.column-requires-2
column-requires-2 g c = c.requires.rows

pub bounds-ends-place : goal.bounds-ends-place
bounds-ends-place g c = c.requires.ends

pub returns-clause-word : goal.returns-clause-word
returns-clause-word g c = c.in_ok-copy.ensures

pub returns-clause-states : goal.returns-clause-states
returns-clause-states g c = rw c.as_slice.ensures at c.in_ok-column.ensures

pub returns-clause-costs : goal.returns-clause-costs
returns-clause-costs g c = c.in_ok-column-2.ensures

pub returns-clause-last : goal.returns-clause-last
returns-clause-last g c =
    slice_get_read c.args.ends.now (length c.args.ends.now) c.args.place c.index-ends-place.result refl c.requires.ends c.index-ends-place.is ∙ ap Some (sym c.in_ok-copy-2.ensures)

pub offset_bounds-ends-place : goal.offset_bounds-ends-place
offset_bounds-ends-place g c = let ends = c.requires.ends in omega arith
