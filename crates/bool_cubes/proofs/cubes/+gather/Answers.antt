use Rattle.std.proofs.Common.{ap, append_assoc, arith, get_or, sym, ◌++◌, ◌∷◌, [], ◌∙◌, ◌%◌}
use Rattle.std.proofs.lemmas.Result.{on_ok_weaker}
use Rattle.bool_cubes.specs.Nodes.{tree_at}
use Rattle.bool_cubes.specs.Picking.{cube_at}
use Rattle.bool_cubes.proofs.Gathered.{always_part, both_parts, either_parts, never_part, one_part}
use Rattle.bool_cubes.proofs.Jumped.{jumped, jumped_is}
use Rattle.bool_cubes.proofs.cubes.+gather.Goals as goal

pub gather-requires : goal.gather-requires
gather-requires t c =
    let parts = both_parts c.args.nodes.now c.loop-at.at (get_or c.args.nodes.now c.loop-at.at c.index-nodes-at.result) c.loop-at.left c.in-Both.first c.in-Both.second c.requires.plan c.loop-at.invariant.number (ap (get_or c.args.nodes.now c.loop-at.at) c.index-nodes-at.is) (get_or c.args.nodes.now c.in-Both.second c.index-nodes-second.result) c.in-Both.is (ap (get_or c.args.nodes.now c.in-Both.second) c.index-nodes-second.is) in
    (omega arith, (c.requires.plan, (c.requires.jumps, (parts.first.within, (parts.first.below, parts.first.most)))))

pub loop-at-preserved-in-Both : goal.loop-at-preserved-in-Both
loop-at-preserved-in-Both t c =
    let parts = both_parts c.args.nodes.now c.loop-at.at (get_or c.args.nodes.now c.loop-at.at c.index-nodes-at.result) c.loop-at.left c.in-Both.first c.in-Both.second c.requires.plan c.loop-at.invariant.number (ap (get_or c.args.nodes.now c.loop-at.at) c.index-nodes-at.is) (get_or c.args.nodes.now c.in-Both.second c.index-nodes-second.result) c.in-Both.is (ap (get_or c.args.nodes.now c.in-Both.second) c.index-nodes-second.is) in
    record {
      below = omega arith;
      number = parts.second;
      whole = ap (λ x. x ++ cube_at (tree_at c.args.nodes.now c.in-Both.second) (c.loop-at.left % (get_or c.args.nodes.now c.in-Both.second c.index-nodes-second.result).cubes)) c.in_ok-gather-in-Both.ensures ∙ append_assoc c.loop-at.literals _ _ ∙ ap (λ x. c.loop-at.literals ++ x) (sym parts.whole) ∙ c.loop-at.invariant.whole;
    }

pub loop-at-preserved-then-jump-left : goal.loop-at-preserved-then-jump-left
loop-at-preserved-then-jump-left t c =
    let w = c.loop-at.invariant.number.within in
    let jump = get_or c.args.jumps.now c.loop-at.at (record { to = 0; cubes = 0; steps = 0 }) in
    let is_jump = c.requires.jumps.jumps.each c.loop-at.at (record { to = 0; cubes = 0; steps = 0 }) (omega (arith, c.requires.jumps.size)) in
    let b = is_jump.back in
    record {
      below = omega arith;
      number = jumped c.args.nodes.now c.loop-at.at c.loop-at.left jump is_jump c.loop-at.invariant.number c.if-jump-left.true;
      whole = ap (λ x. c.loop-at.literals ++ x) (sym (jumped_is c.args.nodes.now c.loop-at.at c.loop-at.left jump is_jump c.loop-at.invariant.number c.if-jump-left.true)) ∙ c.loop-at.invariant.whole;
    }

pub loop-at-preserved-then-left-cubes : goal.loop-at-preserved-then-left-cubes
loop-at-preserved-then-left-cubes t c =
    let parts = either_parts c.args.nodes.now c.loop-at.at (get_or c.args.nodes.now c.loop-at.at c.index-nodes-at.result) c.loop-at.left c.in-Either.first c.in-Either.second c.requires.plan c.loop-at.invariant.number (ap (get_or c.args.nodes.now c.loop-at.at) c.index-nodes-at.is) (get_or c.args.nodes.now c.in-Either.first c.index-nodes-first.result) c.in-Either.is (ap (get_or c.args.nodes.now c.in-Either.first) c.index-nodes-first.is) in
    record {
      below = omega arith;
      number = parts.first c.if-left-cubes.true;
      whole = ap (λ x. c.loop-at.literals ++ x) (sym (parts.first_is c.if-left-cubes.true)) ∙ c.loop-at.invariant.whole;
    }

pub loop-at-preserved : goal.loop-at-preserved
loop-at-preserved t c =
    let parts = either_parts c.args.nodes.now c.loop-at.at (get_or c.args.nodes.now c.loop-at.at c.index-nodes-at.result) c.loop-at.left c.in-Either.first c.in-Either.second c.requires.plan c.loop-at.invariant.number (ap (get_or c.args.nodes.now c.loop-at.at) c.index-nodes-at.is) (get_or c.args.nodes.now c.in-Either.first c.index-nodes-first.result) c.in-Either.is (ap (get_or c.args.nodes.now c.in-Either.first) c.index-nodes-first.is) in
    record {
      below = omega arith;
      number = parts.second c.if-left-cubes.false;
      whole = ap (λ x. c.loop-at.literals ++ x) (sym (parts.second_is c.if-left-cubes.false)) ∙ c.loop-at.invariant.whole;
    }

pub returns-in-Always : goal.returns-in-Always
returns-in-Always t c = always_part c.args.nodes.now c.loop-at.at (get_or c.args.nodes.now c.loop-at.at c.index-nodes-at.result) c.loop-at.left c.requires.plan c.loop-at.invariant.number (ap (get_or c.args.nodes.now c.loop-at.at) c.index-nodes-at.is) c.in-Always.is c.loop-at.literals ∙ c.loop-at.invariant.whole

pub returns-in-Never : goal.returns-in-Never
returns-in-Never t c = never_part c.args.nodes.now c.loop-at.at (get_or c.args.nodes.now c.loop-at.at c.index-nodes-at.result) c.loop-at.left c.requires.plan c.loop-at.invariant.number (ap (get_or c.args.nodes.now c.loop-at.at) c.index-nodes-at.is) c.in-Never.is

pub returns-in-One : goal.returns-in-One
returns-in-One t c =
    let one = one_part c.args.nodes.now c.loop-at.at (get_or c.args.nodes.now c.loop-at.at c.index-nodes-at.result) c.loop-at.left c.requires.plan c.loop-at.invariant.number (ap (get_or c.args.nodes.now c.loop-at.at) c.index-nodes-at.is) c.in-One.literal c.in-One.is in
    on_ok_weaker c.push.result (λ pushed. pushed ∙ (λ i. c.loop-at.literals ++ c.in_ok-copy-in-One.ensures i ∷ []) ∙ ap (λ ls. c.loop-at.literals ++ ls) (sym one) ∙ c.loop-at.invariant.whole) c.push.ensures.ok
