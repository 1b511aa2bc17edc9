use Rattle.box_search.proofs.searching.shortest_run.Goals as goal

pub lift-requires : goal.lift-requires
lift-requires c = (rw c.in-Some.is at c.in_ok-numbered.ensures).is_run

pub returns : goal.returns
returns c = (c.in-Some.numbered, rw c.in-Some.is at c.in_ok-numbered.ensures, c.in_ok-lift.ensures)
