use Rattle.part_machines.proofs.PartLemmas.{product-some}
use Rattle.part_machines.proofs.laws.bounds_are_positive.Goals as goal

pub returns : goal.returns
returns c = product-some
