use Rattle.std.proofs.Common.{ap, arith, get_or}
use Rattle.bool_cubes.proofs.Jumped.{to_first, to_second}
use Rattle.bool_cubes.proofs.jumps.step.Goals as goal

pub returns-then-nodes-second-eq0 : goal.returns-then-nodes-second-eq0
returns-then-nodes-second-eq0 c =
    to_first c.args.nodes.now c.args.at (get_or c.args.nodes.now c.args.at c.index-nodes-at.result) c.in-Either.first c.in-Either.second (get_or c.args.nodes.now c.in-Either.second c.index-nodes-second.result) c.requires.plan c.requires.at
    (ap (get_or c.args.nodes.now c.args.at) c.index-nodes-at.is) c.in-Either.is (ap (get_or c.args.nodes.now c.in-Either.second) c.index-nodes-second.is) (omega arith)

pub returns : goal.returns
returns c =
    to_second c.args.nodes.now c.args.at (get_or c.args.nodes.now c.args.at c.index-nodes-at.result) c.in-Either.first c.in-Either.second (get_or c.args.nodes.now c.in-Either.first c.index-nodes-first.result) c.requires.plan c.requires.at
    (ap (get_or c.args.nodes.now c.args.at) c.index-nodes-at.is) c.in-Either.is (ap (get_or c.args.nodes.now c.in-Either.first) c.index-nodes-first.is) (omega arith)
