use Rattle.std.proofs.Common.{arith}
use Rattle.std.proofs.lemmas.Bool.Decides.{nat_tests}
use Rattle.decide.proofs.Sharing.{goes-on, stops}
use Rattle.decide.proofs.blocks.goes_on.Goals as goal

pub returns-clause-yes : goal.returns-clause-yes
returns-clause-yes c = λ yes.
    goes-on c.args.terms.now c.args.given c.args.first c.in_ok-block.block c.count_ahead.result c.in_ok-block.ensures.counted
    c.in_ok-block.ensures.most c.count_ahead.ensures.whole c.count_ahead.ensures.below c.count_ahead.ensures.within (grind (arith, nat_tests))

pub returns-clause-no : goal.returns-clause-no
returns-clause-no c = λ no.
    stops c.args.terms.now c.args.given c.args.first c.in_ok-block.block c.count_ahead.result c.in_ok-block.ensures.counted
    c.in_ok-block.ensures.few c.count_ahead.ensures.most (grind (arith, nat_tests))
