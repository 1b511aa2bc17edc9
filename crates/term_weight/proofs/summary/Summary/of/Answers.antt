use Rattle.term_weight.proofs.Telling.{summarised}
use Rattle.term_weight.proofs.summary.Summary.of.Goals as goal

pub returns-in_ok-places-in-Term : goal.returns-in_ok-places-in-Term
returns-in_ok-places-in-Term c = summarised c.args.parameters.now c.in_ok-places-in-Term.places c.in-Term.term c.args.body.now c.of_term.result c.in-Term.is c.in_ok-places-in-Term.ensures c.of_term.ensures.tells c.of_term.ensures.alone
