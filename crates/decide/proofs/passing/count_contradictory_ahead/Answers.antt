use Rattle.decide.proofs.Sharing.{contradictory-known}
use Rattle.decide.proofs.passing.count_contradictory_ahead.Goals as goal

pub returns : goal.returns
returns c = λ ts given e. contradictory-known c.contradictions_are_false.ensures ts given c.args.cubes.now c.in_ok-found.found c.in_ok-found.ensures.within c.in_ok-found.ensures.contradictory e
