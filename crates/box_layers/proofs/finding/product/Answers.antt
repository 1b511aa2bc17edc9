use Rattle.std.specs.Int.{w128}
use Rattle.std.proofs.lemmas.Int.{to_z-of_z}
use Rattle.box_layers.proofs.BoundLemmas.{product-fits-itself}
use Rattle.box_layers.proofs.finding.product.Goals as goal

pub overflow_mul-result : goal.overflow_mul-result
overflow_mul-result c = rw (to_z-of_z w128 c.args.coefficient c.ranges.coefficient, to_z-of_z w128 c.args.value c.ranges.value) (product-fits-itself c.args.coefficient c.args.value c.requires)
