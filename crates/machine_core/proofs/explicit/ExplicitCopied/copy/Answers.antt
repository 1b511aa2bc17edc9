use Rattle.std.proofs.Common.{◌∙◌}
use Rattle.machine_core.proofs.GraphLemmas.{graphs_equal}
use Rattle.machine_core.proofs.explicit.ExplicitCopied.copy.Goals as goal

pub returns : goal.returns
returns c = graphs_equal c.self.inside.graph c.in_ok-copy.field-0 c.in_ok-copy-2.field-0 _ _ c.in_ok-copy.ensures c.in_ok-copy-2.ensures ∙ c.self.view_is
