use Rattle.std.proofs.Common.{◌≡◌, length}
use Rattle.number_tests.proofs.lia_tableau_calls.comes_back.Given as goal

abbrev pub invariant-loop : goal.invariant-loop
invariant-loop l = length l.tableau.rows ≡ 3
