use Rattle.std.proofs.Common.{ap, arith, get_or, slice_get, subst, sym, true, Some, ◌≡◌, ◌<◌, ◌≤◌, ◌+◌, ◌*◌, ◌-◌, ◌%◌, ◌++◌}
use Rattle.std.proofs.Math.Nat.{mul_comm, mul-le-mul_left}
use Rattle.bool_cubes.specs.Contradictions.{IsContradictory}
use Rattle.bool_cubes.specs.Held.{AreHeld}
use Rattle.bool_cubes.specs.Nodes.{tree_at}
use Rattle.bool_cubes.specs.Picking.{cube_at}
use Rattle.bool_cubes.specs.Trees.{one}
use Rattle.bool_cubes.specs.declared.node.NodeKind.TheVariants as kind
use Rattle.bool_cubes.proofs.Gathered.{both_parts, either_parts}
use Rattle.bool_cubes.proofs.Holding.{kind_tree}
use Rattle.bool_cubes.proofs.Jumped.{jumped}
use Rattle.bool_cubes.proofs.Leading.{both_cubes, both_inside, both_stretch, both_tree, either_cubes, either_tree, held_still, own_cubes, scanned_behind, scanned_both, scanned_first, scanned_held, scanned_second, scanned_stretch, scanned_within}
use Rattle.bool_cubes.proofs.stretch.+scan.Goals as goal

pub returns-then-is_set-clause-within : goal.returns-then-is_set-clause-within
returns-then-is_set-clause-within t c =
    let own = own_cubes c.args.nodes.now c.loop-node.at c.index-nodes-at.result c.loop-node.left 0 0 c.index-nodes-at.result c.requires.plan c.loop-node.invariant.number c.index-nodes-at.is in
    let d = c.loop-node.invariant.number in
    let b = d.below in
    scanned_within c.args.nodes.now c.args.root c.args.number c.loop-node.at c.loop-node.left c.args.marks.now c.loop-node.marks c.loop-node.invariant.scanned (c.index-nodes-at.result.cubes - c.loop-node.left) (let n = c.requires.number in omega (arith, n)) (omega (arith, own, b))

pub returns-then-is_set-clause-stretch : goal.returns-then-is_set-clause-stretch
returns-then-is_set-clause-stretch t c =
    let own = own_cubes c.args.nodes.now c.loop-node.at c.index-nodes-at.result c.loop-node.left 0 0 c.index-nodes-at.result c.requires.plan c.loop-node.invariant.number c.index-nodes-at.is in
    let d = c.loop-node.invariant.number in
    let b = d.below in
    let set = subst (λ x. slice_get x c.loop-node.at ≡ Some true) c.as_slice.ensures (c.is_set.ensures c.if-is_set.true) in
    λ ls held none. scanned_stretch c.args.nodes.now c.args.root c.args.number c.loop-node.at c.loop-node.left c.args.marks.now c.loop-node.marks c.loop-node.invariant.scanned c.args.known.now.dead (c.index-nodes-at.result.cubes - c.loop-node.left) (omega (arith, own, b)) (λ ms h n k l. n.each c.loop-node.at set (c.loop-node.left + k) (omega (arith, own, b, l))) ls held none

pub returns-in-Always-clause-held : goal.returns-in-Always-clause-held
returns-in-Always-clause-held t c =
    λ z ls held. scanned_held c.args.nodes.now c.args.root c.args.number c.loop-node.at c.loop-node.left c.args.marks.now c.loop-node.marks c.loop-node.invariant.scanned c.loop-node.marks c.loop-node.invariant.number.below (λ ms h. held_still c.args.nodes.now c.loop-node.marks (cube_at (tree_at c.args.nodes.now c.loop-node.at) c.loop-node.left) ms h) ls held

pub returns-then-hold-clause-stretch : goal.returns-then-hold-clause-stretch
returns-then-hold-clause-stretch t c =
    let tree : tree_at c.args.nodes.now c.loop-node.at ≡ one c.in-One.literal = kind_tree c.args.nodes.now c.loop-node.at c.index-nodes-at.result c.requires.plan c.loop-node.invariant.number.within c.index-nodes-at.is (kind.One c.in-One.literal) c.in-One.is in
    let b = c.loop-node.invariant.number.below in
    λ ls held none. scanned_stretch c.args.nodes.now c.args.root c.args.number c.loop-node.at c.loop-node.left c.args.marks.now c.loop-node.marks c.loop-node.invariant.scanned c.args.known.now.dead 1 (omega (arith, b)) (λ ms h n k l. subst (λ x. IsContradictory (ms ++ cube_at x (c.loop-node.left + k))) (sym tree) (c.hold.ensures.refused c.if-hold.true ms h)) ls held none

pub returns-in-One-clause-held : goal.returns-in-One-clause-held
returns-in-One-clause-held t c =
    let tree : tree_at c.args.nodes.now c.loop-node.at ≡ one c.in-One.literal = kind_tree c.args.nodes.now c.loop-node.at c.index-nodes-at.result c.requires.plan c.loop-node.invariant.number.within c.index-nodes-at.is (kind.One c.in-One.literal) c.in-One.is in
    let b = c.loop-node.invariant.number.below in
    λ z ls held. scanned_held c.args.nodes.now c.args.root c.args.number c.loop-node.at c.loop-node.left c.args.marks.now c.loop-node.marks c.loop-node.invariant.scanned c.hold.new.marks b (λ ms h. subst (λ x. AreHeld c.args.nodes.now (ms ++ cube_at x c.loop-node.left) c.hold.new.marks) (sym tree) (c.hold.ensures.held ms h)) ls held

pub scan-ahead-requires : goal.scan-ahead-requires
scan-ahead-requires t c =
    let parts = both_parts c.args.nodes.now c.loop-node.at c.index-nodes-at.result c.loop-node.left c.in-Both.first c.in-Both.second c.requires.plan c.loop-node.invariant.number c.index-nodes-at.is (get_or c.args.nodes.now c.in-Both.second c.index-nodes-second.result) c.in-Both.is (ap (get_or c.args.nodes.now c.in-Both.second) c.index-nodes-second.is) in
    (omega arith, (c.requires.plan, (c.requires.jumps, (parts.first.within, (parts.first.below, parts.first.most)))))

pub overflow_sub-result-then-ahead-gt0 : goal.overflow_sub-result-then-ahead-gt0
overflow_sub-result-then-ahead-gt0 t c =
    let parts = both_parts c.args.nodes.now c.loop-node.at c.index-nodes-at.result c.loop-node.left c.in-Both.first c.in-Both.second c.requires.plan c.loop-node.invariant.number c.index-nodes-at.is (get_or c.args.nodes.now c.in-Both.second c.index-nodes-second.result) c.in-Both.is (ap (get_or c.args.nodes.now c.in-Both.second) c.index-nodes-second.is) in
    let tree = both_tree c.args.nodes.now c.loop-node.at c.index-nodes-at.result c.loop-node.left c.in-Both.first c.in-Both.second (get_or c.args.nodes.now c.in-Both.second c.index-nodes-second.result) c.requires.plan c.loop-node.invariant.number c.index-nodes-at.is c.in-Both.is in
    let size = both_cubes c.args.nodes.now c.loop-node.at c.index-nodes-at.result c.loop-node.left c.in-Both.first c.in-Both.second (get_or c.args.nodes.now c.in-Both.second c.index-nodes-second.result) c.requires.plan c.loop-node.invariant.number c.index-nodes-at.is c.in-Both.is (ap (get_or c.args.nodes.now c.in-Both.second) c.index-nodes-second.is) in
    let b = c.loop-node.invariant.number.below in
    let some = parts.some in
    let least : (get_or c.args.nodes.now c.in-Both.second c.index-nodes-second.result).cubes * 1 ≤ (get_or c.args.nodes.now c.in-Both.second c.index-nodes-second.result).cubes * c.scan-ahead.result = mul-le-mul_left (get_or c.args.nodes.now c.in-Both.second c.index-nodes-second.result).cubes c.if-ahead-gt0.true in
    let turn : c.scan-ahead.result * (get_or c.args.nodes.now c.in-Both.second c.index-nodes-second.result).cubes ≡ (get_or c.args.nodes.now c.in-Both.second c.index-nodes-second.result).cubes * c.scan-ahead.result = mul_comm c.scan-ahead.result (get_or c.args.nodes.now c.in-Both.second c.index-nodes-second.result).cubes in
    let low : c.loop-node.left % (get_or c.args.nodes.now c.in-Both.second c.index-nodes-second.result).cubes < (get_or c.args.nodes.now c.in-Both.second c.index-nodes-second.result).cubes = omega (arith, some) in
    omega (arith, least, turn, low)

pub returns-then-ahead-gt0-clause-within : goal.returns-then-ahead-gt0-clause-within
returns-then-ahead-gt0-clause-within t c =
    let parts = both_parts c.args.nodes.now c.loop-node.at c.index-nodes-at.result c.loop-node.left c.in-Both.first c.in-Both.second c.requires.plan c.loop-node.invariant.number c.index-nodes-at.is (get_or c.args.nodes.now c.in-Both.second c.index-nodes-second.result) c.in-Both.is (ap (get_or c.args.nodes.now c.in-Both.second) c.index-nodes-second.is) in
    let tree = both_tree c.args.nodes.now c.loop-node.at c.index-nodes-at.result c.loop-node.left c.in-Both.first c.in-Both.second (get_or c.args.nodes.now c.in-Both.second c.index-nodes-second.result) c.requires.plan c.loop-node.invariant.number c.index-nodes-at.is c.in-Both.is in
    let size = both_cubes c.args.nodes.now c.loop-node.at c.index-nodes-at.result c.loop-node.left c.in-Both.first c.in-Both.second (get_or c.args.nodes.now c.in-Both.second c.index-nodes-second.result) c.requires.plan c.loop-node.invariant.number c.index-nodes-at.is c.in-Both.is (ap (get_or c.args.nodes.now c.in-Both.second) c.index-nodes-second.is) in
    let b = c.loop-node.invariant.number.below in
    scanned_within c.args.nodes.now c.args.root c.args.number c.loop-node.at c.loop-node.left c.args.marks.now c.loop-node.marks c.loop-node.invariant.scanned (c.scan-ahead.result * (get_or c.args.nodes.now c.in-Both.second c.index-nodes-second.result).cubes - c.loop-node.left % (get_or c.args.nodes.now c.in-Both.second c.index-nodes-second.result).cubes) (let n = c.requires.number in omega (arith, n)) (both_inside c.args.nodes.now c.args.root c.args.number c.loop-node.at c.loop-node.left c.in-Both.first c.in-Both.second c.args.marks.now c.loop-node.marks c.loop-node.invariant.scanned tree (get_or c.args.nodes.now c.in-Both.second c.index-nodes-second.result).cubes size b c.scan-ahead.result c.scan-ahead.ensures.within c.if-ahead-gt0.true)

pub returns-then-ahead-gt0-clause-held : goal.returns-then-ahead-gt0-clause-held
returns-then-ahead-gt0-clause-held t c =
    let parts = both_parts c.args.nodes.now c.loop-node.at c.index-nodes-at.result c.loop-node.left c.in-Both.first c.in-Both.second c.requires.plan c.loop-node.invariant.number c.index-nodes-at.is (get_or c.args.nodes.now c.in-Both.second c.index-nodes-second.result) c.in-Both.is (ap (get_or c.args.nodes.now c.in-Both.second) c.index-nodes-second.is) in
    let tree = both_tree c.args.nodes.now c.loop-node.at c.index-nodes-at.result c.loop-node.left c.in-Both.first c.in-Both.second (get_or c.args.nodes.now c.in-Both.second c.index-nodes-second.result) c.requires.plan c.loop-node.invariant.number c.index-nodes-at.is c.in-Both.is in
    let size = both_cubes c.args.nodes.now c.loop-node.at c.index-nodes-at.result c.loop-node.left c.in-Both.first c.in-Both.second (get_or c.args.nodes.now c.in-Both.second c.index-nodes-second.result) c.requires.plan c.loop-node.invariant.number c.index-nodes-at.is c.in-Both.is (ap (get_or c.args.nodes.now c.in-Both.second) c.index-nodes-second.is) in
    let b = c.loop-node.invariant.number.below in
    let some = parts.some in
    let least : (get_or c.args.nodes.now c.in-Both.second c.index-nodes-second.result).cubes * 1 ≤ (get_or c.args.nodes.now c.in-Both.second c.index-nodes-second.result).cubes * c.scan-ahead.result = mul-le-mul_left (get_or c.args.nodes.now c.in-Both.second c.index-nodes-second.result).cubes c.if-ahead-gt0.true in
    let turn : c.scan-ahead.result * (get_or c.args.nodes.now c.in-Both.second c.index-nodes-second.result).cubes ≡ (get_or c.args.nodes.now c.in-Both.second c.index-nodes-second.result).cubes * c.scan-ahead.result = mul_comm c.scan-ahead.result (get_or c.args.nodes.now c.in-Both.second c.index-nodes-second.result).cubes in
    let low : c.loop-node.left % (get_or c.args.nodes.now c.in-Both.second c.index-nodes-second.result).cubes < (get_or c.args.nodes.now c.in-Both.second c.index-nodes-second.result).cubes = omega (arith, some) in
    λ z. absurd (omega (arith, least, turn, low, z))

pub returns-then-ahead-gt0-clause-stretch : goal.returns-then-ahead-gt0-clause-stretch
returns-then-ahead-gt0-clause-stretch t c =
    let parts = both_parts c.args.nodes.now c.loop-node.at c.index-nodes-at.result c.loop-node.left c.in-Both.first c.in-Both.second c.requires.plan c.loop-node.invariant.number c.index-nodes-at.is (get_or c.args.nodes.now c.in-Both.second c.index-nodes-second.result) c.in-Both.is (ap (get_or c.args.nodes.now c.in-Both.second) c.index-nodes-second.is) in
    let tree = both_tree c.args.nodes.now c.loop-node.at c.index-nodes-at.result c.loop-node.left c.in-Both.first c.in-Both.second (get_or c.args.nodes.now c.in-Both.second c.index-nodes-second.result) c.requires.plan c.loop-node.invariant.number c.index-nodes-at.is c.in-Both.is in
    let size = both_cubes c.args.nodes.now c.loop-node.at c.index-nodes-at.result c.loop-node.left c.in-Both.first c.in-Both.second (get_or c.args.nodes.now c.in-Both.second c.index-nodes-second.result) c.requires.plan c.loop-node.invariant.number c.index-nodes-at.is c.in-Both.is (ap (get_or c.args.nodes.now c.in-Both.second) c.index-nodes-second.is) in
    let b = c.loop-node.invariant.number.below in
    λ ls held none. scanned_stretch c.args.nodes.now c.args.root c.args.number c.loop-node.at c.loop-node.left c.args.marks.now c.loop-node.marks c.loop-node.invariant.scanned c.args.known.now.dead (c.scan-ahead.result * (get_or c.args.nodes.now c.in-Both.second c.index-nodes-second.result).cubes - c.loop-node.left % (get_or c.args.nodes.now c.in-Both.second c.index-nodes-second.result).cubes) (both_inside c.args.nodes.now c.args.root c.args.number c.loop-node.at c.loop-node.left c.in-Both.first c.in-Both.second c.args.marks.now c.loop-node.marks c.loop-node.invariant.scanned tree (get_or c.args.nodes.now c.in-Both.second c.index-nodes-second.result).cubes size b c.scan-ahead.result c.scan-ahead.ensures.within c.if-ahead-gt0.true) (λ ms h n. both_stretch c.args.nodes.now c.args.root c.args.number c.loop-node.at c.loop-node.left c.in-Both.first c.in-Both.second c.args.marks.now c.loop-node.marks c.loop-node.invariant.scanned tree (get_or c.args.nodes.now c.in-Both.second c.index-nodes-second.result).cubes size b c.scan-ahead.result c.scan-ahead.ensures.within c.if-ahead-gt0.true ms (c.scan-ahead.ensures.stretch ms h n)) ls held none

pub loop-node-preserved-in-Both : goal.loop-node-preserved-in-Both
loop-node-preserved-in-Both t c =
    let parts = both_parts c.args.nodes.now c.loop-node.at c.index-nodes-at.result c.loop-node.left c.in-Both.first c.in-Both.second c.requires.plan c.loop-node.invariant.number c.index-nodes-at.is (get_or c.args.nodes.now c.in-Both.second c.index-nodes-second.result) c.in-Both.is (ap (get_or c.args.nodes.now c.in-Both.second) c.index-nodes-second.is) in
    let tree = both_tree c.args.nodes.now c.loop-node.at c.index-nodes-at.result c.loop-node.left c.in-Both.first c.in-Both.second (get_or c.args.nodes.now c.in-Both.second c.index-nodes-second.result) c.requires.plan c.loop-node.invariant.number c.index-nodes-at.is c.in-Both.is in
    let size = both_cubes c.args.nodes.now c.loop-node.at c.index-nodes-at.result c.loop-node.left c.in-Both.first c.in-Both.second (get_or c.args.nodes.now c.in-Both.second c.index-nodes-second.result) c.requires.plan c.loop-node.invariant.number c.index-nodes-at.is c.in-Both.is (ap (get_or c.args.nodes.now c.in-Both.second) c.index-nodes-second.is) in
    let b = c.loop-node.invariant.number.below in
    record {
      below = omega arith;
      number = parts.second;
      scanned = scanned_both c.args.nodes.now c.args.root c.args.number c.loop-node.at c.loop-node.left c.in-Both.first c.in-Both.second c.args.marks.now c.loop-node.marks c.loop-node.invariant.scanned tree (get_or c.args.nodes.now c.in-Both.second c.index-nodes-second.result).cubes size b c.scan-ahead.new.marks (c.scan-ahead.ensures.held (omega arith));
    }

pub loop-node-preserved-then-jump-left : goal.loop-node-preserved-then-jump-left
loop-node-preserved-then-jump-left t c =
    let w = c.loop-node.invariant.number.within in
    let jump = (get_or c.args.jumps.now c.loop-node.at (record { to = 0; cubes = 0; steps = 0 })) in
    let is_jump = c.requires.jumps.jumps.each c.loop-node.at (record { to = 0; cubes = 0; steps = 0 }) (omega (arith, c.requires.jumps.size)) in
    let b = is_jump.back in
    record {
      below = omega arith;
      number = jumped c.args.nodes.now c.loop-node.at c.loop-node.left jump is_jump c.loop-node.invariant.number c.if-jump-left.true;
      scanned = scanned_behind c.args.nodes.now c.args.root c.args.number c.loop-node.at c.loop-node.left 0 jump.to c.args.marks.now c.loop-node.marks c.loop-node.invariant.scanned jump.cubes is_jump.behind c.if-jump-left.true;
    }

pub loop-node-preserved-then-left-cubes : goal.loop-node-preserved-then-left-cubes
loop-node-preserved-then-left-cubes t c =
    let parts = either_parts c.args.nodes.now c.loop-node.at c.index-nodes-at.result c.loop-node.left c.in-Either.first c.in-Either.second c.requires.plan c.loop-node.invariant.number c.index-nodes-at.is (get_or c.args.nodes.now c.in-Either.first c.index-nodes-first.result) c.in-Either.is (ap (get_or c.args.nodes.now c.in-Either.first) c.index-nodes-first.is) in
    let tree = either_tree c.args.nodes.now c.loop-node.at c.index-nodes-at.result c.loop-node.left c.in-Either.first c.in-Either.second (get_or c.args.nodes.now c.in-Either.first c.index-nodes-first.result) c.requires.plan c.loop-node.invariant.number c.index-nodes-at.is c.in-Either.is in
    record { below = omega arith; number = parts.first c.if-left-cubes.true; scanned = scanned_first c.args.nodes.now c.args.root c.args.number c.loop-node.at c.loop-node.left c.in-Either.first c.in-Either.second c.args.marks.now c.loop-node.marks c.loop-node.invariant.scanned tree }

pub loop-node-preserved : goal.loop-node-preserved
loop-node-preserved t c =
    let parts = either_parts c.args.nodes.now c.loop-node.at c.index-nodes-at.result c.loop-node.left c.in-Either.first c.in-Either.second c.requires.plan c.loop-node.invariant.number c.index-nodes-at.is (get_or c.args.nodes.now c.in-Either.first c.index-nodes-first.result) c.in-Either.is (ap (get_or c.args.nodes.now c.in-Either.first) c.index-nodes-first.is) in
    let tree = either_tree c.args.nodes.now c.loop-node.at c.index-nodes-at.result c.loop-node.left c.in-Either.first c.in-Either.second (get_or c.args.nodes.now c.in-Either.first c.index-nodes-first.result) c.requires.plan c.loop-node.invariant.number c.index-nodes-at.is c.in-Either.is in
    let size = either_cubes c.args.nodes.now c.loop-node.at c.index-nodes-at.result c.loop-node.left c.in-Either.first c.in-Either.second (get_or c.args.nodes.now c.in-Either.first c.index-nodes-first.result) c.requires.plan c.loop-node.invariant.number c.index-nodes-at.is c.in-Either.is (ap (get_or c.args.nodes.now c.in-Either.first) c.index-nodes-first.is) in
    record { below = omega arith; number = parts.second c.if-left-cubes.false; scanned = scanned_second c.args.nodes.now c.args.root c.args.number c.loop-node.at c.loop-node.left c.in-Either.first c.in-Either.second c.args.marks.now c.loop-node.marks c.loop-node.invariant.scanned tree (get_or c.args.nodes.now c.in-Either.first c.index-nodes-first.result).cubes size c.if-left-cubes.false }
