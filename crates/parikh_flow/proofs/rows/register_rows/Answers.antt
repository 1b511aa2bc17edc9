use Rattle.std.proofs.Common.{◌≡◌, ◌+◌, All, below_more, arith}
use Rattle.parikh_flow.specs.Building.{CostsFit}
use Rattle.parikh_flow.specs.Rows.{register_row}
use Rattle.parikh_flow.proofs.RowLemmas.{rows-next}
use Rattle.parikh_flow.proofs.rows.register_rows.Goals as goal

pub loop-register-preserved : goal.loop-register-preserved
loop-register-preserved c =
    let same : c.loop-register.register ≡ 0 + c.loop-register.register = omega arith in
    record {
      rows = rows-next (register_row c.args.integers (c.args.integers + c.args.registers) c.args.machines.now) 0 c.loop-register.register c.loop-register.register c.loop-register.rows c.push.new.self c.in_ok-register_row.field-0
          same c.loop-register.invariant.rows c.in_ok-register_row.ensures.row c.in_ok-push.ensures.ok;
      fit = below_more (λ k. All (CostsFit k) c.args.machines.now) c.loop-register.register c.loop-register.invariant.fit c.in_ok-register_row.ensures.fit;
    }

pub returns-clause-fit : goal.returns-clause-fit
returns-clause-fit c = λ k lt. c.loop-register.invariant.fit k (omega arith)
