use Rattle.leaf_solve.proofs.RunLemmas.{empty-none, inhabited}
use Rattle.leaf_solve.proofs.answering.leaf.Goals as goal

pub returns-in-Empty-clause-answer : goal.returns-in-Empty-clause-answer
returns-in-Empty-clause-answer c =
    let h = rw c.in-Empty.is at c.in_ok-place.ensures in
    record {
      none = empty-none c.args.machines.now _ c.args.integers c.args.rows.now c.in-Empty.place h.0 h.1 h.2;
      shown = h;
    }

pub by_rows-requires-clause-inhabited : goal.by_rows-requires-clause-inhabited
by_rows-requires-clause-inhabited c = inhabited c.args.machines.now _ (rw c.in-Runs.is at c.in_ok-place.ensures)
