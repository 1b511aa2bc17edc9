use Rattle.number_tests.proofs.lia_pack_calls.read_shared.Goals as goal

pub read_back-requires : goal.read_back-requires
read_back-requires c = (_, c.in_ok-third.ensures)
