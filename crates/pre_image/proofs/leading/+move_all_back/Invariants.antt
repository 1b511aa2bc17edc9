use Rattle.std.proofs.Common.{length}
use Rattle.pre_image.proofs.leading.+move_all_back.Given as goal

abbrev pub decreases-move_all_back : goal.decreases-move_all_back
decreases-move_all_back l = length l.pairs.now
