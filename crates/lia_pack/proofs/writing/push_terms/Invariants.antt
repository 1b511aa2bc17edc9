use Rattle.std.proofs.Common.{take}
use Rattle.std.specs.List.{flat_map}
use Rattle.lia_pack.specs.Numbers.{AreWritten}
use Rattle.lia_pack.specs.Tables.{term_numbers}
use Rattle.lia_pack.proofs.writing.push_terms.Given as goal

abbrev pub invariant-loop-term : goal.invariant-loop-term
invariant-loop-term l = AreWritten l.initial.bytes l.bytes (flat_map term_numbers (take l.term-index l.terms))
