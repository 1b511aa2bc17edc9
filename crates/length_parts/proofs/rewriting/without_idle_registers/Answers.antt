use Rattle.std.proofs.Common.{subst, sym, List, ℕ}
use Rattle.length_parts.specs.Rewriting.{IsRewriting}
use Rattle.length_parts.proofs.RewriteLemmas.{nothing-rewritten, registers-dropped}
use Rattle.length_parts.proofs.rewriting.without_idle_registers.Goals as goal

pub returns-then-not-is_empty-clause-rewriting : goal.returns-then-not-is_empty-clause-rewriting
returns-then-not-is_empty-clause-rewriting c = nothing-rewritten c.args.flat

pub returns-clause-rewriting : goal.returns-clause-rewriting
returns-clause-rewriting c = subst (λ (rs : List ℕ). IsRewriting c.args.flat (record c.args.flat { registers = rs })) (sym c.truncate.ensures) (registers-dropped c.args.flat (c.is_empty.ensures.0 c.if-not-is_empty.false))
