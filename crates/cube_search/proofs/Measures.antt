-- How much is left of a search: the definitions still to be carried, and their pieces still to be cut.
use Rattle.std.proofs.Common.{ℕ, zero, suc, ◌+◌, List, length, Option, Some, None, slice_get}
use Rattle.flat_cubes.specs.Using.{used}
use Rattle.flat_cubes.specs.declared.definition.Definition.{Definition}

abbrev pub pieces_of : Option Definition → ℕ
pieces_of None = 0
pieces_of (Some d) = length (used d.by)

-- each definition counts for its cuts and for the step itself
abbrev pub weight : List Definition → ℕ → ℕ
weight ds zero = 0
weight ds (suc n) = suc (suc (pieces_of (slice_get ds n) + weight ds n))
