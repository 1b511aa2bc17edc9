use Rattle.std.proofs.Common.{sym, subst}
use Rattle.term_weight.specs.Macros.{HaveSummaries}
use Rattle.term_weight.proofs.Keeping.{kept-taken}
use Rattle.term_weight.proofs.declarations.Declarations.truncate.Goals as goal

pub invariant_of-self : goal.invariant_of-self
invariant_of-self c = c.forget.ensures (subst (λ z. HaveSummaries z c.self.inside.summaries) (sym c.truncate.ensures) (kept-taken c.self.inside.symbols c.args.n c.self.inside.summaries c.self.invariant))
