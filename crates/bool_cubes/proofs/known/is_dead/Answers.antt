use Rattle.std.proofs.Common.{ap, get_or, subst, sym, ◌≡◌}
use Rattle.bool_cubes.specs.Held.{IsDead}
use Rattle.bool_cubes.specs.Nodes.{tree_at}
use Rattle.bool_cubes.specs.Trees.{both}
use Rattle.bool_cubes.specs.declared.node.NodeKind.TheVariants as kind
use Rattle.bool_cubes.proofs.Holding.{first_dead, kind_tree, second_dead}
use Rattle.bool_cubes.proofs.known.is_dead.Goals as goal

pub returns-then-is_set : goal.returns-then-is_set
returns-then-is_set c = λ e ls h d.
    let ns = c.args.nodes.now in
    let tree : tree_at ns c.args.at ≡ both (tree_at ns c.in-Both.first) (tree_at ns c.in-Both.second) = kind_tree ns c.args.at (get_or ns c.args.at c.index-nodes-at.result) c.requires.plan c.requires.at (ap (get_or ns c.args.at) c.index-nodes-at.is) (kind.Both c.in-Both.first c.in-Both.second) c.in-Both.is in
    subst (IsDead ls) (sym tree) (first_dead ls (tree_at ns c.in-Both.first) (tree_at ns c.in-Both.second) (d.each c.in-Both.first (c.is_set.ensures e)))

pub returns-else-is_set : goal.returns-else-is_set
returns-else-is_set c = λ e ls h d.
    let ns = c.args.nodes.now in
    let tree : tree_at ns c.args.at ≡ both (tree_at ns c.in-Both.first) (tree_at ns c.in-Both.second) = kind_tree ns c.args.at (get_or ns c.args.at c.index-nodes-at.result) c.requires.plan c.requires.at (ap (get_or ns c.args.at) c.index-nodes-at.is) (kind.Both c.in-Both.first c.in-Both.second) c.in-Both.is in
    subst (IsDead ls) (sym tree) (second_dead ls (tree_at ns c.in-Both.first) (tree_at ns c.in-Both.second) (d.each c.in-Both.second (c.is_set-else-is_set.ensures e)))
