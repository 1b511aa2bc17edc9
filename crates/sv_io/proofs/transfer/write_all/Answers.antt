use Rattle.std.proofs.Common.{arith, ◌∙◌}
use Rattle.sv_io.proofs.Texts.{wrote_more}
use Rattle.sv_io.proofs.transfer.write_all.Goals as goal

pub pieces-preserved : goal.pieces-preserved
pieces-preserved g c =
    let took = c.pieces.invariant.took in record {
      took = wrote_more _ _ _ _ _ _ _ took.1 took.2 c.in_ok-count.ensures.taken c.in_ok-count.ensures.most;
      sent = c.write.ensures.sent ∙ c.pieces.invariant.sent;
      goes_on = c.in_ok-count.ensures.goes_on;
      later = omega arith;
    }
