use Rattle.std.proofs.Common.{◌<◌, arith}
use Rattle.decide.proofs.Sharing.{known-block}
use Rattle.decide.proofs.Asking.{asked-block}
use Rattle.decide.proofs.passing.count_refuted_by.Goals as goal

pub has_no_values-requires : goal.has_no_values-requires
has_no_values-requires c =
    let pos : 0 < c.in_ok-block.block = omega (arith, c.if-cubes-eq0.false, c.count_ahead-cubes.ensures.below) in
    asked-block c.cubes_are_counted.ensures c.cubes_are_picked.ensures c.args.terms.now c.args.first c.args.given c.in_ok-block.block c.in-Some.cube c.in_ok-shared_literals.field-0 pos (c.in_ok-block.ensures.counted pos) c.in-Some.is c.in_ok-shared_literals.ensures.some
    c.args.shared.now.terms.now c.requires.asked

pub returns-then-branch : goal.returns-then-branch
returns-then-branch c =
    let some : 0 < c.count_ahead-cubes.result = omega (arith, c.if-cubes-eq0.false) in
    let pos : 0 < c.in_ok-block.block = omega (arith, some, c.count_ahead-cubes.ensures.below) in
    known-block c.cubes_are_counted.ensures c.cubes_are_picked.ensures c.args.terms.now c.args.first c.args.given c.in_ok-block.block c.in-Some.cube c.in_ok-shared_literals.field-0 pos (c.in_ok-block.ensures.counted pos) c.in-Some.is c.in_ok-shared_literals.ensures.some
    c.count_ahead-cubes.result c.count_ahead-cubes.ensures.whole (c.count_ahead-cubes.ensures.within some) (c.in_ok-has_no_values-in-Some.ensures c.if-branch.true)
