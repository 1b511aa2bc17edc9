use Rattle.std.proofs.Common.{refl}
use Rattle.replace_machines.proofs.MachineLemmas.{copy-is}
use Rattle.replace_machines.proofs.replacing.copy_word.Goals as goal

pub returns-clause-relates : goal.returns-clause-relates
returns-clause-relates c =
    copy-is c.args.by.now c.push.new.self c.push-2.new.self
    (rw (c.in_ok-push.ensures.ok, c.new-edges.ensures, c.in_ok-copy_edge.ensures) refl)
    (rw (c.in_ok-push-2.ensures.ok, c.new-ends.ensures, c.new.ensures) refl)
