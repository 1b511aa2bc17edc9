use Rattle.std.proofs.Common.{◌≡◌, ◌*◌, ◌<◌, ◌≤◌, ◌^◌, ap, ◌∙◌, subst, arith}
use Rattle.std.proofs.lemmas.Nat.{mul-le}
use Rattle.box_search.specs.Places.{numbers_below}
use Rattle.box_search.specs.declared.places.TheConstants.{MOST_PLACES}
use Rattle.box_search.proofs.PlaceLemmas.{numbers-some}
use Rattle.box_search.proofs.places.places_of.Goals as goal

pub returns-in_default-clause-all : goal.returns-in_default-clause-all
returns-in_default-clause-all c = λ some few.
    let n = numbers_below c.args.uppers in
    let k = c.args.states * c.args.machines in
    let past : 2 ^ 64 ≤ n = subst (λ l. 2 ^ 64 ≤ numbers_below l) c.as_slice.ensures c.in_default.ensures in
    let more : 2 ^ 64 * 1 ≤ n * k = mul-le (2 ^ 64) 1 n k past (omega (arith, some)) in
    absurd (omega (arith, few, more))

pub returns-then-not-are_few-clause-all : goal.returns-then-not-are_few-clause-all
returns-then-not-are_few-clause-all c = λ some few.
    let same : c.in-Some.points ≡ numbers_below c.args.uppers = c.in-Some.ensures ∙ ap numbers_below c.as_slice.ensures in
    let many = c.are_few.ensures.many c.if-not-are_few.true (omega (arith, same, numbers-some c.args.uppers)) in
    let past : MOST_PLACES < numbers_below c.args.uppers * (c.args.states * c.args.machines) = subst (λ n. MOST_PLACES < n * (c.args.states * c.args.machines)) same many in
    absurd (omega (arith, few, past))
