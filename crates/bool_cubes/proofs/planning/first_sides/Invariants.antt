use Rattle.std.proofs.Common.{◌≡◌, ◌+◌, ◌++◌, ◌≤◌, List, drop, get_or}
use Rattle.sv_terms.specs.declared.term.Term.{Term}
use Rattle.bool_cubes.specs.Arguments.{first_pairs}
use Rattle.bool_cubes.specs.Nodes.{AreOf, IsLonger, IsPlanned, HasBothTrees}
use Rattle.bool_cubes.specs.Planned.{AreBooleanSides}
use Rattle.bool_cubes.specs.Trees.{Formula, conjunction}
use Rattle.bool_cubes.proofs.planning.first_sides.Given as goal

abbrev pub invariant-loop-j : goal.invariant-loop-j
invariant-loop-j l = record {
  bound : l.i + 1 ≤ l.j;
  longer : IsLonger l.fn.plan.nodes l.plan.nodes;
  within : AreOf l.plan.nodes l.all;
  sides : AreBooleanSides l.plan.nodes l.terms l.sides;
  planned : (t : Term) (fs : List Formula) → t ≡ get_or l.terms l.i t → HasBothTrees l.fn.plan.nodes l.initial.all (conjunction fs) → IsPlanned l.fn.plan.nodes l.plan.nodes l.all (conjunction (first_pairs t (drop l.j l.terms) ++ fs));
}
