use Rattle.pre_image.specs.FreeLaws.{free-fits}
use Rattle.speed.proofs.transducers.states_before.Goals as goal

pub of-requires-clause-fits : goal.of-requires-clause-fits
of-requires-clause-fits c = free-fits c.in_ok-through.through c.in_ok-target.target c.in_ok-target.ensures
