use Rattle.part_machines.proofs.PairLemmas.{met-none}
use Rattle.part_machines.proofs.own.meet_ahead.Goals as goal

pub returns-then-any : goal.returns-then-any
returns-then-any c = met-none c.args.machines c.requires
