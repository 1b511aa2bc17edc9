use Rattle.length_parts.specs.Rewriting.{IsRewriting}
use Rattle.length_parts.proofs.rewriting.rewrite_all.Given as goal

abbrev pub invariant-loop-at : goal.invariant-loop-at
invariant-loop-at l = IsRewriting l.fn.flat l.new
