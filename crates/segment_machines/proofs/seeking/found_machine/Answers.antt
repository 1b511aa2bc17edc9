use Rattle.std.proofs.Common.{refl}
use Rattle.segment_machines.proofs.SeekLemmas.{found-is}
use Rattle.segment_machines.proofs.seeking.found_machine.Goals as goal

pub returns-clause-relates : goal.returns-clause-relates
returns-clause-relates c =
    found-is c.args.pattern.now c.len-after.result c.in_ok-edges.edges c.push.new.self c.requires.filled c.len-after.ensures c.in_ok-edges.ensures
    (rw (c.in_ok-push.ensures.ok, c.new-ends.ensures, c.new.ensures) refl)
