use Rattle.length_rows.proofs.closing.has_no_solution.Goals as goal

pub returns-in-Some-Closed : goal.returns-in-Some-Closed
returns-in-Some-Closed c = λ t. c.closes-closed.ensures.sound ((c.closes-closed.ensures.exact.0 t).0)
