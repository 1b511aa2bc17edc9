use Rattle.std.proofs.Common.{map, take}
use Rattle.term_weight.specs.Summaries.{shares, part, Gains}
use Rattle.term_weight.proofs.tally.+tally_term.Given as goal

abbrev pub invariant-tally_all-loop-term : goal.invariant-tally_all-loop-term
invariant-tally_all-loop-term l = Gains l.places l.fn.tally l.tally (λ ws. shares l.depth (map (part l.places ws) (take l.term-index l.terms)))
