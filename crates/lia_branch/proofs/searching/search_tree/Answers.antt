use Rattle.std.proofs.Common.{◌∙◌}
use Rattle.lia_branch.proofs.Roots.{root_ready, root_begins}
use Rattle.lia_branch.proofs.searching.search_tree.Goals as goal

pub search-requires-clause-ready : goal.search-requires-clause-ready
search-requires-clause-ready g c =
    root_ready c.args.system.now c.in-Ok.tableau c.in-Ok.ensures.unknowns (c.in-Ok.ensures.rows ∙ c.as_slice.ensures) c.requires.searchable.rows c.requires.searchable.nets c.requires.searchable.counts

pub search-requires-clause-begins : goal.search-requires-clause-begins
search-requires-clause-begins g c = root_begins c.args.system.now c.in-Ok.tableau c.in-Ok.ensures.unknowns (c.in-Ok.ensures.rows ∙ c.as_slice.ensures) c.in-Ok.ensures.basis
