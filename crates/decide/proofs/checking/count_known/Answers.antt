use Rattle.decide.proofs.Sharing.{known-none}
use Rattle.decide.proofs.checking.count_known.Goals as goal

pub returns-then-contradictory-gt0 : goal.returns-then-contradictory-gt0
returns-then-contradictory-gt0 c = c.in_ok-contradictory.ensures c.args.clear.now c.args.given c.requires.left

pub returns-then-not-is_due : goal.returns-then-not-is_due
returns-then-not-is_due c = known-none c.args.clear.now c.args.given
