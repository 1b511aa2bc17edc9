use Rattle.std.proofs.Common.{◌+◌, length}
use Rattle.search_hits.specs.Hits.{runs_total}
use Rattle.search_hits.specs.UnknownLaws.{have-sides}
use Rattle.box_search.proofs.SearchLemmas.{hit-good}
use Rattle.box_search.proofs.searching.search.Goals as goal

pub invariant_of-layers : goal.invariant_of-layers
invariant_of-layers c =
    let q = c.requires c.if-region.false in
    record { registers = q.registers; integer_sides = q.integer_sides; unknowns = have-sides (c.args.integers + length c.args.region.now.registers) c.args.rows.now q.unknowns; fits = q.fits }

pub returns-then-not-branch : goal.returns-then-not-branch
returns-then-not-branch c = λ runs numbers h.
    c.in_ok-has_point.ensures c.if-not-branch.true (runs_total (length c.args.region.now.registers) runs) (hit-good c.args.machines.now c.args.integers c.args.rows.now c.args.region.now runs numbers h)
