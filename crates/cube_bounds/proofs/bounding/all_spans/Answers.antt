use Rattle.std.proofs.Common.{◌<◌, ◌≤◌, ◌+◌, length, drop, ap, sym, ◌∙◌, arith}
use Rattle.cube_bounds.specs.Sides.{spans_in}
use Rattle.cube_bounds.proofs.Grown.{first_of}
use Rattle.cube_bounds.proofs.Rounded.{spans_long}
use Rattle.cube_bounds.proofs.bounding.all_spans.Goals as goal

pub loop-i-preserved : goal.loop-i-preserved
loop-i-preserved c =
    let n = length c.args.flat.now.integers + length c.args.flat.now.registers in
    let rows = c.as_slice-rows.result.now in
    let some : 0 < c.loop-i.i = omega arith in
    let end : c.loop-i.i ≤ length c.as_slice-rows.result.now = omega arith in
    c.narrow.ensures n (drop c.loop-i.i rows) c.loop-i.invariant ∙ ap (λ rs. spans_in rs n) (sym (first_of rows c.index-rows-i.result c.loop-i.i some end c.index-rows-i.is))

pub returns-clause-count : goal.returns-clause-count
returns-clause-count c = spans_long (drop c.loop-i.i c.as_slice-rows.result.now) c.loop-i.spans (length c.args.flat.now.integers + length c.args.flat.now.registers) c.loop-i.invariant
