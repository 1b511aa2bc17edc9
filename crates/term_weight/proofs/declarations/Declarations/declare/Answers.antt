use Rattle.std.proofs.Common.{ap, ◌∙◌}
use Rattle.std.specs.Map.{lookup}
use Rattle.smt_names.specs.Signature.{same_name}
use Rattle.term_weight.proofs.Keeping.{kept-declared}
use Rattle.term_weight.proofs.declarations.Declarations.declare.Goals as goal

pub invariant_of-self : goal.invariant_of-self
invariant_of-self c = kept-declared c.self.inside.symbols c.declare.new.self c.args.name c.args.entry c.self.inside.summaries c.keep.new.self c.declare.result (ap (lookup (same_name c.args.name)) c.self.view_is ∙ c.requires) c.keep.ensures.others c.in-Ok.ensures.kept c.self.invariant c.declare.ensures.ok c.declare.ensures.err
