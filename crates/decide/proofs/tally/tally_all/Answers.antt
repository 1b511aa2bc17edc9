use Rattle.std.proofs.Common.{◌++◌, ◌∷◌, [], length, ap, arith}
use Rattle.decide.proofs.Tallying.{split-on, more-answers, tallied-on}
use Rattle.decide.proofs.tally.tally_all.Goals as goal

pub loop-outcome-preserved : goal.loop-outcome-preserved
loop-outcome-preserved c =
    let inv = c.loop-outcome.invariant in
    let front = c.in-Some.ensures.steps.0 in
    record {
      can = tt;
      finite = tt;
      split = split-on c.args.outcomes.items c.loop-outcome.yielded _ _ c.in-Some.outcome inv.split front;
      bound = omega (arith, inv.bound, ap length front, c.in_ok-add.ensures.count);
      answers = inv.answers ++ c.in_ok-outcome.field-0 ∷ [];
      are = more-answers c.loop-outcome.yielded inv.answers c.in-Some.outcome c.in_ok-outcome.field-0 inv.are c.in_ok-outcome.was;
      tallied = λ opaque before h. tallied-on opaque before inv.answers c.in_ok-outcome.field-0 c.add.new.self (c.in_ok-add.ensures.tallied opaque (before ++ inv.answers) (inv.tallied opaque before h));
    }
