use Rattle.std.proofs.Common.{◌≡◌}
use Rattle.std.specs.Io.KnownBytes.{Keeps}
use Rattle.sv_io.proofs.standard_sink.offer.Given as goal

abbrev pub invariant-tries : goal.invariant-tries
invariant-tries g l = record {
  taken : l.taken.items ≡ l.initial.taken.items;
  bytes : Keeps (g.W.Write.contents l.initial.to) (g.W.Write.contents l.to);
}
