use Rattle.number_tests.proofs.lia_pack_calls.wide_tableau.Goals as goal

pub new-requires : goal.new-requires
new-requires c = rw c.as_slice-3.ensures c.in_ok-system.ensures.rows
