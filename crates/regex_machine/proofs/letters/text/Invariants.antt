use Rattle.std.proofs.Common.{◌≡◌, ◌+◌, []}
use Rattle.regex_machine.proofs.LetterLemmas.{Spells}
use Rattle.regex_machine.proofs.letters.text.Given as goal

abbrev pub invariant-loop-place : goal.invariant-loop-place
invariant-loop-place l = record {
  states : l.machine.states ≡ l.length + 1;
  registers : l.machine.registers ≡ 0;
  ends : l.machine.ends ≡ [];
  spells : Spells l.word l.place l.machine.edges;
}
