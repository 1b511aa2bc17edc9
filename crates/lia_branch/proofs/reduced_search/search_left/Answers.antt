use Rattle.lia_branch.proofs.reduced_search.search_left.Goals as goal

pub returns-in-Some : goal.returns-in-Some
returns-in-Some g c = c.joining_point.ensures.found c.args.system.now c.requires.searchable c.requires.cutter c.in-Some.ensures
