use Rattle.std.proofs.Common.{◌-◌, length}
use Rattle.sv_word.proofs.ReadLemmas.{IsReading}
use Rattle.sv_word.proofs.reading.read_literal.Given as goal

abbrev pub invariant-loop-place : goal.invariant-loop-place
invariant-loop-place l = IsReading l.raw l.place l.word

abbrev pub decreases-loop-place : goal.decreases-loop-place
decreases-loop-place l = length l.raw - l.place
