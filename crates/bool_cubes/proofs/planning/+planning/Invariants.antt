use Rattle.std.proofs.Common.{◌-◌, ◌<◌, drop, length, take}
use Rattle.bool_cubes.specs.Arguments.{formulas_of, parts_of}
use Rattle.bool_cubes.specs.Nodes.{IsLonger, IsPlanned}
use Rattle.bool_cubes.specs.Planned.{AreBooleanSides, AreNodePairs}
use Rattle.bool_cubes.specs.Trees.{conjunction, disjunction, equal, exclusive, implied, negated, neighbours, pairs}
use Rattle.bool_cubes.proofs.planning.+planning.Given as goal

abbrev pub invariant-all_sides-loop-i : goal.invariant-all_sides-loop-i
invariant-all_sides-loop-i l = IsPlanned l.fn.plan.nodes l.plan.nodes l.all (conjunction (formulas_of (drop l.i l.terms)))

abbrev pub invariant-any_sides-loop-i : goal.invariant-any_sides-loop-i
invariant-any_sides-loop-i l = IsPlanned l.fn.plan.nodes l.plan.nodes l.any (disjunction (formulas_of (drop l.i l.terms)))

abbrev pub invariant-exclusive_sides-loop-i : goal.invariant-exclusive_sides-loop-i
invariant-exclusive_sides-loop-i l = IsPlanned l.fn.plan.nodes l.plan.nodes l.odd (exclusive (formulas_of (take l.i l.terms)))

abbrev pub invariant-implied_sides-loop-i : goal.invariant-implied_sides-loop-i
invariant-implied_sides-loop-i l = record {
  bound : l.i < length l.terms;
  planned : IsPlanned l.fn.plan.nodes l.plan.nodes l.any (implied (formulas_of (drop l.i l.terms)));
}

abbrev pub invariant-boolean_sides-loop-term : goal.invariant-boolean_sides-loop-term
invariant-boolean_sides-loop-term l = record {
  longer : IsLonger l.fn.plan.nodes l.plan.nodes;
  sides : AreNodePairs l.plan.nodes (take l.term-index l.terms) l.all;
}

abbrev pub invariant-equal_sides-loop-i : goal.invariant-equal_sides-loop-i
invariant-equal_sides-loop-i l = record {
  planned : IsPlanned l.fn.plan.nodes l.plan.nodes l.all (conjunction (neighbours equal (parts_of (drop (l.i - 1) l.terms))));
  sides : AreBooleanSides l.plan.nodes l.terms l.sides;
}

abbrev pub invariant-distinct_sides-loop-i : goal.invariant-distinct_sides-loop-i
invariant-distinct_sides-loop-i l = record {
  planned : IsPlanned l.fn.plan.nodes l.plan.nodes l.all (conjunction (pairs (λ p q. negated (equal p q)) (parts_of (drop l.i l.terms))));
  sides : AreBooleanSides l.plan.nodes l.terms l.sides;
}
