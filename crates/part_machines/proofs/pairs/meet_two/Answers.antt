use Rattle.std.proofs.Common.{◌+◌, ◌-◌}
use Rattle.part_machines.proofs.PairLemmas.{plain-part}
use Rattle.part_machines.proofs.pairs.meet_two.Goals as goal

pub all_of-requires : goal.all_of-requires
all_of-requires c = plain-part (c.args.at + 2 - c.args.at) c.args.at c.args.machines.now c.requires.plain
