use Rattle.subset_machine.proofs.SubsetRuns.{subset-language, subset-deterministic, subset-complete}
use Rattle.subset_machine.proofs.subset.Subset.of.Goals as goal

pub returns-clause-language : goal.returns-clause-language
returns-clause-language c = subset-language c.args.machine.now c.requires c.args.negated

pub returns-clause-deterministic : goal.returns-clause-deterministic
returns-clause-deterministic c = subset-deterministic c.args.negated c.args.machine.now.edges

pub returns-clause-complete : goal.returns-clause-complete
returns-clause-complete c = subset-complete c.args.machine.now c.requires c.args.negated
