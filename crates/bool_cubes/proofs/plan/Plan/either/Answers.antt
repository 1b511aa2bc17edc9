use Rattle.std.proofs.Common.{◌≡◌, ap, get_or, subst}
use Rattle.bool_cubes.proofs.Plans.{either_cubes}
use Rattle.bool_cubes.proofs.plan.Plan.either.Goals as goal

pub push-requires-clause-cubes : goal.push-requires-clause-cubes
push-requires-clause-cubes c =
    let us = c.as_slice-nodes.result.now in
    let m = get_or us c.args.left c.index-nodes-left.result in
    let n = get_or us c.args.right c.index-nodes-right.result in
    either_cubes c.args.self.now.nodes c.args.left c.args.right m n c.saturating_add-cubes.result c.requires.plan c.requires.left c.requires.right
    (subst (λ vs. m ≡ get_or vs c.args.left m) c.as_slice-nodes.ensures (ap (get_or us c.args.left) c.index-nodes-left.is))
    (subst (λ vs. n ≡ get_or vs c.args.right n) c.as_slice-nodes.ensures (ap (get_or us c.args.right) c.index-nodes-right.is)) c.saturating_add-cubes.ensures
