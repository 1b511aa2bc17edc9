use Rattle.std.proofs.Common.{sym, subst}
use Rattle.sv_list.specs.Lists.{IfOk-both}
use Rattle.part_machines.specs.Patterns.{ArePatternRows, AreStatesNeeded}
use Rattle.part_machines.specs.Tables.{IsOfTable, next}
use Rattle.part_machines.proofs.PatternLemmas.{pattern-decides}
use Rattle.part_machines.proofs.pattern.pattern_machine.Goals as goal

pub returns : goal.returns
returns c = IfOk-both c.table_machine.result _ _ _ c.table_machine.ensures.states c.table_machine.ensures.table (λ m states table.
    pattern-decides c.args.stays c.args.pattern.now c.args.holds c.states_needed-states.result c.as_slice.result.now m (subst (ArePatternRows c.args.stays c.args.pattern.now) (sym c.as_slice.ensures) c.in_ok-rows.ensures.rows)
    (subst (λ n. AreStatesNeeded c.args.stays c.args.holds n c.states_needed-states.result) c.len-count.ensures c.states_needed-states.ensures)
    states (subst (λ n. IsOfTable (next c.as_slice.result.now) n c.args.holds m) c.len-count.ensures table))
