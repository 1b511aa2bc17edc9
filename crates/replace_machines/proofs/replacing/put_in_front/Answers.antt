use Rattle.std.proofs.Common.{refl}
use Rattle.replace_machines.proofs.MachineLemmas.{front-is}
use Rattle.replace_machines.proofs.replacing.put_in_front.Goals as goal

pub returns-clause-relates : goal.returns-clause-relates
returns-clause-relates c =
    front-is c.args.by.now c.push-2.new.self c.push-4.new.self c.is_word.ensures
    (rw (c.in_ok-push-2.ensures.ok, c.in_ok-push.ensures.ok, c.new-edges.ensures, c.in_ok-front_edge.ensures, c.in_ok-copy_edge.ensures) refl)
    (rw (c.in_ok-push-4.ensures.ok, c.in_ok-push-3.ensures.ok, c.new-ends.ensures, c.in_ok-copy.ensures, c.new.ensures) refl)
