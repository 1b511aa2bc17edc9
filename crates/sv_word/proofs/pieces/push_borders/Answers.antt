use Rattle.std.proofs.Common.{sym, subst, arith}
use Rattle.sv_word.proofs.Apart.{apart-ends}
use Rattle.sv_word.proofs.JoinLemmas.{end-at}
use Rattle.sv_word.specs.Ranges.{IsApartFrom}
use Rattle.sv_word.proofs.pieces.push_borders.Goals as goal
use Rattle.sv_word.specs.Words.{greatest_character}

pub overflow_add-pair : goal.overflow_add-pair
overflow_add-pair c =
    let pairs = c.as_slice-pair-items.result.now in
    let apart = subst (IsApartFrom 0) (sym c.as_slice-pair-items.ensures.pairs) c.as_slice-pair-items.ensures.apart in
    let top = end-at greatest_character pairs (apart-ends 0 pairs apart) c.loop-pair.pair-index (0, 0) (omega arith) in
    omega arith
