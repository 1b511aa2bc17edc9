use Rattle.std.proofs.Common.{◌≡◌, map, take}
use Rattle.term_weight.specs.Weights.{regex_weight}
use Rattle.term_weight.proofs.weigh.+weigh_regex.Given as goal

abbrev pub invariant-weigh_regexes-loop-regex : goal.invariant-weigh_regexes-loop-regex
invariant-weigh_regexes-loop-regex l = l.weights ≡ map regex_weight (take l.regex-index l.regexes)
