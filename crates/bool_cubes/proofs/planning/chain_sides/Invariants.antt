use Rattle.std.proofs.Common.{◌-◌, drop}
use Rattle.bool_cubes.specs.Arguments.{parts_of}
use Rattle.bool_cubes.specs.Nodes.{IsPlanned}
use Rattle.bool_cubes.specs.Trees.{chain}
use Rattle.bool_cubes.proofs.planning.chain_sides.Given as goal

abbrev pub invariant-loop-i : goal.invariant-loop-i
invariant-loop-i l = IsPlanned l.fn.plan.nodes l.plan.nodes l.all (chain l.op (parts_of (drop (l.i - 1) l.terms)))
