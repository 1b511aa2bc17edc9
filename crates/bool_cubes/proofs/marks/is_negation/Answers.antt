use Rattle.std.proofs.Common.{ap, get_or, arith}
use Rattle.bool_cubes.specs.declared.node.NodeKind.TheVariants as kind
use Rattle.bool_cubes.proofs.Holding.{differ, kind_tree}
use Rattle.bool_cubes.proofs.marks.is_negation.Goals as goal

pub returns-then-other-literal : goal.returns-then-other-literal
returns-then-other-literal c = λ e. (
  c.in-One.other,
  kind_tree c.args.nodes.now c.args.place (get_or c.args.nodes.now c.args.place c.index-nodes-place.result) c.requires.plan (omega arith) (ap (get_or c.args.nodes.now c.args.place) c.index-nodes-place.is) (kind.One c.in-One.other) c.in-One.is,
  c.same.ensures.0 e,
  differ c.in-One.other.positive c.args.literal.now.positive c.if-other-literal.true,
)
