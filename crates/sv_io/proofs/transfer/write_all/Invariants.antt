use Rattle.std.proofs.Common.{◌≡◌, ◌≤◌, ◌++◌, ℕ, take, drop, length, true}
use Rattle.sv_io.proofs.transfer.write_all.Given as goal

abbrev pub invariant-pieces : goal.invariant-pieces
invariant-pieces g l = record {
  took : (count : ℕ) × ((g.K.Sink.output l.sink).taken ≡ (g.K.Sink.output l.initial.sink).taken ++ take count l.text) × (l.rest ≡ drop count l.text);
  sent : (g.K.Sink.output l.sink).sent ≡ (g.K.Sink.output l.initial.sink).sent;
  goes_on : g.K.Sink.goes_on l.sink ≡ true;
  later : g.K.Sink.faults l.initial.sink ≤ g.K.Sink.faults l.sink;
}

abbrev pub decreases-pieces : goal.decreases-pieces
decreases-pieces g l = length l.rest
