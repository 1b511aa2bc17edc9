use Rattle.std.proofs.Common.{subst}
use Rattle.cube_search.specs.Conflicts.{IsNamedToo}
use Rattle.cube_search.proofs.NameLemmas.{one-name}
use Rattle.cube_search.proofs.names.only.Goals as goal

pub returns : goal.returns
returns c = one-name c.args.v c.add_name.new.names (subst (λ l. IsNamedToo c.args.v l c.add_name.new.names) c.new-names.ensures c.in_ok-add_name.ensures)
