use Rattle.std.proofs.Common.{ap, ◌∙◌}
use Rattle.term_weight.specs.Summaries.{share}
use Rattle.term_weight.specs.Weights.{regex_weight}
use Rattle.term_weight.proofs.Tallying.{gains-raised}
use Rattle.term_weight.proofs.tally.tally_regex.Goals as goal

pub returns : goal.returns
returns c = gains-raised c.args.places.now c.args.tally.now c.raise.new.self c.of.result (share c.args.depth (regex_weight c.args.regex.now)) (c.of.ensures ∙ ap (share c.args.depth) c.in_ok-weight.ensures) c.raise.ensures
