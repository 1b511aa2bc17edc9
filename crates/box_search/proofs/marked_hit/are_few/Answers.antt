use Rattle.std.proofs.Common.{◌≡◌, ◌+◌, ◌*◌, ◌≤◌, length, ap, ◌∙◌, arith}
use Rattle.std.proofs.Math.Nat.{mul-le-mul_right}
use Rattle.std.proofs.lemmas.Bool.Decides.{nat_tests}
use Rattle.search_hits.specs.Regions.{greatest_states}
use Rattle.box_search.proofs.marked_hit.are_few.Goals as goal

pub returns-in-Some-checked_mul-2 : goal.returns-in-Some-checked_mul-2
returns-in-Some-checked_mul-2 c = λ few.
    let points = c.in-Some.points in
    let n = length c.args.machines.now in
    let most = greatest_states c.args.machines.now in
    let few' : c.args.characters ≤ c.in-Some-checked_mul-2.few = grind (arith, nat_tests) in
    let whole = c.in-Some-checked_mul-2.ensures.1 ∙ ap (λ x. x * n) c.in-Some-checked_mul.ensures.1 in
    let one : c.greatest_states.result * points ≤ most * points = mul-le-mul_right points (omega (arith, c.greatest_states.ensures)) in
    let all : c.greatest_states.result * points * n ≤ most * points * n = mul-le-mul_right n one in
    let same : most * points * n ≡ most * (c.args.most + 1) * n = ap (λ x. most * x * n) c.in-Some.ensures.1 in
    omega arith
