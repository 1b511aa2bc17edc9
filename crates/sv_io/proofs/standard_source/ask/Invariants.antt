use Rattle.std.proofs.Common.{◌≡◌, length}
use Rattle.std.specs.Io.KnownBytes.{Keeps}
use Rattle.sv_io.proofs.standard_source.ask.Given as goal

abbrev pub invariant-tries : goal.invariant-tries
invariant-tries g l = record {
  size : length l.buffer ≡ length l.initial.buffer;
  given : l.given.items ≡ l.initial.given.items;
  bytes : Keeps (g.R.Read.remaining l.initial.from) (g.R.Read.remaining l.from);
}
