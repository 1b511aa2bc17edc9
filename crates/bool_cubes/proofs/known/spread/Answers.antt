use Rattle.std.proofs.Common.{ap, get_or, slice_get, subst, true, Some, ◌≡◌}
use Rattle.bool_cubes.specs.Held.{IsMust}
use Rattle.bool_cubes.specs.Nodes.{tree_at}
use Rattle.bool_cubes.specs.Trees.{both, either, one}
use Rattle.bool_cubes.specs.declared.node.NodeKind.TheVariants as kind
use Rattle.bool_cubes.proofs.Holding.{kind_tree, known_kept, known_same, must_first, must_kept, must_literal, must_one, must_other, must_second}
use Rattle.bool_cubes.proofs.known.spread.Goals as goal

pub returns-in-One-clause-known : goal.returns-in-One-clause-known
returns-in-One-clause-known c = λ root k m p.
    let ns = c.args.nodes.now in
    let tree : tree_at ns c.args.at ≡ one c.in-One.field-0 = kind_tree ns c.args.at (get_or ns c.args.at c.index-nodes-at.result) c.requires.plan c.requires.at (ap (get_or ns c.args.at) c.index-nodes-at.is) (kind.One c.in-One.field-0) c.in-One.is in
    (known_kept ns root c.args.known.now c.keep.new.marks c.args.at c.in-One.field-0 k c.keep.ensures tree (must_literal (tree_at ns root) c.in-One.field-0 (subst (λ t. IsMust (tree_at ns root) t) tree p)), m)

pub returns-in-Both-clause-known : goal.returns-in-Both-clause-known
returns-in-Both-clause-known c = λ root k m p.
    let ns = c.args.nodes.now in
    let t = tree_at ns root in
    let u = tree_at ns c.in-Both.first in
    let v = tree_at ns c.in-Both.second in
    let tree : tree_at ns c.args.at ≡ both (tree_at ns c.in-Both.first) (tree_at ns c.in-Both.second) = kind_tree ns c.args.at (get_or ns c.args.at c.index-nodes-at.result) c.requires.plan c.requires.at (ap (get_or ns c.args.at) c.index-nodes-at.is) (kind.Both c.in-Both.first c.in-Both.second) c.in-Both.is in
    let q = subst (λ x. IsMust (tree_at ns root) x) tree p in
    (k, must_kept ns root c.set.new.self c.set-in-Both.new.self c.in-Both.second (must_kept ns root c.args.must.now c.set.new.self c.in-Both.first m (must_first t u v q) c.set.ensures) (must_second t u v q) c.set-in-Both.ensures)

pub returns-then-is_set-clause-known : goal.returns-then-is_set-clause-known
returns-then-is_set-clause-known c = λ root k m p.
    let ns = c.args.nodes.now in
    let t = tree_at ns root in
    let u = tree_at ns c.in-Either.first in
    let v = tree_at ns c.in-Either.second in
    let tree : tree_at ns c.args.at ≡ either (tree_at ns c.in-Either.first) (tree_at ns c.in-Either.second) = kind_tree ns c.args.at (get_or ns c.args.at c.index-nodes-at.result) c.requires.plan c.requires.at (ap (get_or ns c.args.at) c.index-nodes-at.is) (kind.Either c.in-Either.first c.in-Either.second) c.in-Either.is in
    let q = subst (λ x. IsMust (tree_at ns root) x) tree p in
    let set = subst (λ x. slice_get x c.in-Either.first ≡ Some true) c.as_slice-in-Either.ensures (c.is_set.ensures c.if-is_set.true) in
    (known_same ns root c.args.known.now k, must_kept ns root c.args.must.now c.set-then-is_set.new.self c.in-Either.second m (must_other t u v k.literals k.forced q (k.dead.each c.in-Either.first set)) c.set-then-is_set.ensures)

pub returns-then-is_set-2-clause-known : goal.returns-then-is_set-2-clause-known
returns-then-is_set-2-clause-known c = λ root k m p.
    let ns = c.args.nodes.now in
    let t = tree_at ns root in
    let u = tree_at ns c.in-Either.first in
    let v = tree_at ns c.in-Either.second in
    let tree : tree_at ns c.args.at ≡ either (tree_at ns c.in-Either.first) (tree_at ns c.in-Either.second) = kind_tree ns c.args.at (get_or ns c.args.at c.index-nodes-at.result) c.requires.plan c.requires.at (ap (get_or ns c.args.at) c.index-nodes-at.is) (kind.Either c.in-Either.first c.in-Either.second) c.in-Either.is in
    let q = subst (λ x. IsMust (tree_at ns root) x) tree p in
    let set = subst (λ x. slice_get x c.in-Either.second ≡ Some true) c.as_slice-else-is_set.ensures (c.is_set-else-is_set.ensures c.if-is_set-2.true) in
    (known_same ns root c.args.known.now k, must_kept ns root c.args.must.now c.set-then-is_set-2.new.self c.in-Either.first m (must_one t u v k.literals k.forced q (k.dead.each c.in-Either.second set)) c.set-then-is_set-2.ensures)
