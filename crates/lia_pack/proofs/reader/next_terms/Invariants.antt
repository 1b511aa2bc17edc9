use Rattle.std.proofs.Common.{◌<◌, ◌^◌}
use Rattle.lia_pack.specs.Tables.{term_numbers}
use Rattle.lia_pack.proofs.Reading.{IsRead}
use Rattle.lia_pack.proofs.reader.next_terms.Given as goal

abbrev pub invariant-loop : goal.invariant-loop
invariant-loop l = IsRead (λ t. t.0 < 2 ^ 32) term_numbers l.count l.initial.reader.left.now l.reader.left.now l.counter l.terms
