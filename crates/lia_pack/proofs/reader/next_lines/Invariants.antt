use Rattle.lia_pack.specs.Tables.{standing_numbers}
use Rattle.lia_pack.proofs.Reading.{IsRead}
use Rattle.lia_pack.proofs.reader.next_lines.Given as goal

abbrev pub invariant-loop : goal.invariant-loop
invariant-loop l = IsRead (λ _. Unit {0}) standing_numbers l.count l.initial.reader.left.now l.reader.left.now l.counter l.lines
