use Rattle.regex_machine.proofs.AntichainLemmas.{one-added}
use Rattle.regex_machine.proofs.emptiness.add_place.Goals as goal

pub returns-clause-one : goal.returns-clause-one
returns-clause-one c = one-added c.args.sides.now c.args.places.now c.push.new.self c.in_ok-own.own c.args.place.now c.requires.place c.in_ok-own.ensures c.in_ok-push.ensures.ok
