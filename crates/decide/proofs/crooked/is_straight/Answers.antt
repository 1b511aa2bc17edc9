use Rattle.literal_forms.specs.Past.{IsFitting}
use Rattle.decide.proofs.Weaker.{among}
use Rattle.decide.proofs.crooked.is_straight.Goals as goal

pub flatten-requires : goal.flatten-requires
flatten-requires c = among IsFitting c.args.literals.now c.in_ok-literals.literals c.requires c.in_ok-literals.ensures
