use Rattle.std.proofs.Common.{◌≡◌, ◌-◌, ◌++◌, ℕ, List}
use Rattle.generated_script.specs.Blocks.{blocks, script}
use Rattle.sv_io.specs.Histories.{Output}
use Rattle.smt_session.specs.Awaiting.{AwaitsItem}
use Rattle.smt_session.proofs.generating.answer_blocks.Given as goal

-- so many blocks were fed and answered, and the others make up the rest of the script
abbrev pub invariant-loop-block : goal.invariant-loop-block
invariant-loop-block g l = record {
  bytes : List ℕ;
  first : Output;
  waits : AwaitsItem l.answering bytes first (record { taken = l.mute.taken.items; sent = l.mute.sent.items });
  left : script l.seed l.size ≡ bytes ++ blocks l.blocks (l.size - l._block);
}
