use Rattle.std.proofs.Common.{◌≡◌, true, ◌≤◌, ◌-◌, ℕ, List, Bool, false, length}
use Rattle.sv_io.specs.Histories.{Output}
use Rattle.smt_session.specs.Awaiting.{AddsReplies, IsAnswering}
use Rattle.smt_session.proofs.answering.Answering.answer_rest.Given as goal

abbrev pub invariant-items : goal.invariant-items
invariant-items g l = record {
  all : (bytes : List ℕ) (output : Output) → IsAnswering false l.initial.self bytes output (g.K.Sink.output l.initial.sink) → (ended : Bool) × IsAnswering ended l.self bytes output (g.K.Sink.output l.sink);
  some : (ended : Bool) × (bytes : List ℕ) × (output : Output) × IsAnswering ended l.self bytes output (g.K.Sink.output l.sink);
  goes_on : g.K.Sink.goes_on l.sink ≡ true;
  later : g.K.Sink.faults l.initial.sink ≤ g.K.Sink.faults l.sink;
  added : AddsReplies l.initial.self.replies l.self.replies (g.K.Sink.output l.initial.sink) (g.K.Sink.output l.sink);
}

abbrev pub decreases-items : goal.decreases-items
decreases-items g l = l.self.fed - length l.self.replies
