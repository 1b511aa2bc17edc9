use Rattle.part_machines.proofs.PairLemmas.{met-none}
use Rattle.part_machines.proofs.pairs.meet_pairs.Goals as goal

pub rounds-init : goal.rounds-init
rounds-init c = met-none c.args.machines c.requires
