use Rattle.std.proofs.Common.{List, map, sym, subst}
use Rattle.std.proofs.lemmas.Result.{IfOk-weaker}
use Rattle.std.specs.List.{range_with_len}
use Rattle.sv_linear.specs.declared.row.Row.{Row}
use Rattle.parikh_flow.specs.Rows.{state_row, AreSameRows}
use Rattle.parikh_flow.proofs.BalanceLemmas.{state-rows}
use Rattle.parikh_flow.proofs.balances.state_rows.Goals as goal

pub returns : goal.returns
returns c =
    IfOk-weaker c.equation_rows.result _ _
    (λ rows same. subst (λ (l : List Row). AreSameRows l (map (state_row c.args.base c.args.machine.now) (range_with_len 0 c.args.machine.now.states))) (sym same)
    (state-rows c.args.base c.args.machine.now c.in_ok-forms.forms.items c.in_ok-forms.ensures))
    c.equation_rows.ensures
