use Rattle.sv_terms.proofs.Placing.{index-none}
use Rattle.sv_terms.proofs.model.Model.new.Goals as goal

pub invariant_of-result : goal.invariant_of-result
invariant_of-result c = rw c.new.ensures.items (index-none c.new-2.result c.new-2.ensures.empty)
