use Rattle.std.proofs.Common.{◌≡◌, ◌^◌, ap, ◌∙◌, arith}
use Rattle.regex_machine.proofs.ReversedLemmas.{second-sets}
use Rattle.regex_machine.proofs.differences.most_tried.Goals as goal

pub returns-clause-few : goal.returns-clause-few
returns-clause-few c =
    let least = c.min.ensures in
    let cut = c.power_of_two-sets.ensures in
    let same : 2 ^ c.from.result ≡ 2 ^ c.index-parts-1.result.states = ap (λ n. 2 ^ n) (c.from.ensures ∙ c.states.ensures) in
    second-sets c.args.parts.now c.index-parts-1.result c.min.result c.if-parts-lt2.false c.index-parts-1.is (omega (arith, least, cut, same))
