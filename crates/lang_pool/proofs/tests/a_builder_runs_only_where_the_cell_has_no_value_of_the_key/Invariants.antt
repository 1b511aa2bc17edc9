use Rattle.std.proofs.Common.{map}
use Rattle.once_cell.specs.Once.{cell_name}
use Rattle.lang_pool.specs.PoolNote.{IsNoteOf}
use Rattle.lang_pool.proofs.tests.a_builder_runs_only_where_the_cell_has_no_value_of_the_key.Given as goal

abbrev pub invariant-loop-letter : goal.invariant-loop-letter
invariant-loop-letter g l = IsNoteOf (map cell_name l.pool-inside.cells.items) 1 l.note
