use Rattle.std.proofs.Common.{◌∙◌, ◌++◌, ap}
use Rattle.parikh_flow.proofs.WithinLemmas.{rows-within}
use Rattle.parikh_flow.proofs.building.system_of.Goals as goal

pub returns-clause-system : goal.returns-clause-system
returns-clause-system c =
    let rows = c.in_ok-append_run_rows.ensures.rows in
    record {
      unknowns = c.in-Some.ensures;
      nets = c.in_ok-nets.ensures;
      more = rows.0;
      listed = rows.1 ∙ ap (λ l. l ++ rows.0) c.in_ok-all.ensures;
      added = rows.2;
    }

pub returns-clause-within : goal.returns-clause-within
returns-clause-within c = λ given.
    rows-within c.args.machines.now c.args.integers c.args.registers c.args.rows.now c.args.reach _ (returns-clause-system c) c.in_ok-append_run_rows.ensures.fit c.in_ok-append_run_rows.ensures.fits given
