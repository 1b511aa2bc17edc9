use Rattle.lia_pack.specs.Tables.{row_numbers}
use Rattle.lia_pack.proofs.Reading.{IsRead}
use Rattle.lia_pack.proofs.reader.next_rows.Given as goal

abbrev pub invariant-loop : goal.invariant-loop
invariant-loop l = IsRead (λ _. Unit {0}) row_numbers l.count l.initial.reader.left.now l.reader.left.now l.counter l.rows
