use Rattle.std.proofs.Common.{◌-◌, ◌≤◌, ◌++◌, length, take, drop, ◌∙◌}
use Rattle.cube_bounds.proofs.Boxed.{integers_made, registers_made}
use Rattle.cube_bounds.proofs.boxing.all_sides.Goals as goal

pub returns : goal.returns
returns c =
    let rows = c.args.flat.now.rows in
    let n = length c.args.flat.now.integers in
    let m = length c.args.flat.now.registers in
    let k = c.len-count.result in
    let i : length (take (length c.as_slice-2.result.now - c.len-count.result) (drop c.len-count.result c.as_slice-2.result.now)) ≤ c.loop-span.span-index = c.loop-span-test.false in
    let j : length (take c.len-count.result c.as_slice.result.now) ≤ c.loop-whole.whole-index = c.loop-whole-test.false in
    let r = c.loop-span.invariant ∙ registers_made rows c.as_slice-2.result.now n m k c.loop-span.span-index (c.as_slice-2.ensures ∙ c.in_ok-spans.ensures.spans) c.len-count.ensures i in
    let s = integers_made rows c.as_slice.result.now n m k c.loop-whole.whole-index (c.as_slice.ensures ∙ c.in_ok-spans.ensures.spans) c.len-count.ensures j in
    c.loop-whole.invariant ∙ (λ x. r x ++ s x)
