use Rattle.std.proofs.Common.{◌≡◌, ◌≤◌, ◌++◌, ℕ, List, true}
use Rattle.std.specs.Io.KnownBytes.{Consumes}
use Rattle.smt_session.specs.Awaiting.{AwaitsItem}
use Rattle.smt_session.proofs.top.answer_source.Given as goal

abbrev pub invariant-pieces : goal.invariant-pieces
invariant-pieces g l = record {
  bytes : List ℕ;
  gave : (g.S.Source.input l.source).given ≡ (g.S.Source.input l.fn.source).given ++ bytes;
  used : Consumes (g.S.Source.left l.fn.source) (g.S.Source.left l.source) bytes;
  waits : AwaitsItem l.answering bytes (g.K.Sink.output l.fn.sink) (g.K.Sink.output l.sink);
  openings : (g.S.Source.input l.source).openings ≡ (g.S.Source.input l.fn.source).openings;
  is_open : g.S.Source.is_open l.source ≡ true;
  reads : g.S.Source.goes_on l.source ≡ true;
  writes : g.K.Sink.goes_on l.sink ≡ true;
  read_later : g.S.Source.faults l.fn.source ≤ g.S.Source.faults l.source;
  written_later : g.K.Sink.faults l.fn.sink ≤ g.K.Sink.faults l.sink;
  astray : g.S.Source.is_astray l.source ≡ g.S.Source.is_astray l.fn.source;
}

abbrev pub decreases-pieces : goal.decreases-pieces
decreases-pieces g l = g.S.Source.room l.source
