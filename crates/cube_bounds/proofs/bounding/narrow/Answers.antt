use Rattle.std.proofs.Common.{◌≡◌, ◌<◌, ◌≤◌, List, ℕ, ℤ, pos, None, ap, sym, ◌∙◌, length, get_or, to_z, of_z, SFits, rules, arith}
use Rattle.std.specs.Int.{w128}
use Rattle.std.proofs.lemmas.Int.{to_z-of_z}
use Rattle.cube_bounds.specs.Sides.{span_by}
use Rattle.cube_bounds.proofs.Rounded.{narrow_here, narrow_past}
use Rattle.cube_bounds.proofs.bounding.narrow.Goals as goal

pub returns-then-at-len : goal.returns-then-at-len
returns-then-at-len c n rs e =
    let ts = c.as_slice-coefficients.result.now in
    let row = c.args.row.now in
    let same = c.as_slice-coefficients.ensures in
    let one : length c.args.row.now.form.coefficients ≡ 1 = ap length (sym same) ∙ c.if-coefficients-eq1.true in
    let at = ap (λ (xs : List (ℕ × ℤ)). (get_or xs 0 (0, pos 0)).0) same in
    let a : to_z w128 (of_z w128 (get_or c.as_slice-coefficients.result.now 0 (0, pos 0)).1) ≡ (get_or c.args.row.now.form.coefficients 0 (0, pos 0)).1
    = (let f : SFits w128 (get_or c.as_slice-coefficients.result.now 0 (0, pos 0)).1 = search rules in to_z-of_z w128 (get_or ts 0 (0, pos 0)).1 f) ∙ ap (λ (xs : List (ℕ × ℤ)). (get_or xs 0 (0, pos 0)).1) same in
    let k : to_z w128 (of_z w128 c.args.row.now.form.constant) ≡ c.args.row.now.form.constant
    = (let f : SFits w128 c.args.row.now.form.constant = search rules in to_z-of_z w128 row.form.constant f) in
    let q = c.narrow_span-span.ensures ∙ (λ i. span_by row.kind (a i) (k i) (get_or (c.as_slice.ensures i) (get_or ts 0 (0, pos 0)).0 (record { least = None; most = None }))) in
    let low : (get_or c.as_slice-coefficients.result.now 0 (0, pos 0)).0 < length c.args.spans.now = omega arith in
    c.set.ensures ∙ narrow_here row rs c.args.spans.now n (get_or ts 0 (0, pos 0)).0 c.narrow_span-span.result (record { least = None; most = None }) one at e low q

pub returns-else-at-len : goal.returns-else-at-len
returns-else-at-len c n rs e =
    let ts = c.as_slice-coefficients.result.now in
    let same = c.as_slice-coefficients.ensures in
    let one : length c.args.row.now.form.coefficients ≡ 1 = ap length (sym same) ∙ c.if-coefficients-eq1.true in
    let at = ap (λ (xs : List (ℕ × ℤ)). (get_or xs 0 (0, pos 0)).0) same in
    let low : length c.args.spans.now ≤ (get_or c.as_slice-coefficients.result.now 0 (0, pos 0)).0 = omega arith in
    narrow_past c.args.row.now rs c.args.spans.now n (get_or ts 0 (0, pos 0)).0 (record { least = None; most = None }) one at e low
