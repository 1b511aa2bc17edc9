use Rattle.std.proofs.Common.{sym, ◌∙◌, arith}
use Rattle.sexpr_reader.proofs.Ends.{open_literal, open_list, ends}
use Rattle.sexpr_reader.proofs.reader.Reader.is_done.Goals as goal

pub returns-then-not-is_idle-clause-open : goal.returns-then-not-is_idle-clause-open
returns-then-not-is_idle-clause-open c = λ e bytes given s. open_literal c.args.self.now bytes given c.requires.all c.requires.left s (sym c.is_idle.ensures ∙ c.if-not-is_idle.true)

pub returns-clause-done : goal.returns-clause-done
returns-clause-done c = λ e bytes given s. ends c.args.self.now bytes given c.requires.all c.requires.left s (sym c.is_idle.ensures ∙ c.if-not-is_idle.false) (c.is_empty.ensures.empty e)

pub returns-clause-open : goal.returns-clause-open
returns-clause-open c = λ e bytes given s. open_list c.args.self.now bytes given c.requires.all c.requires.left s (sym c.is_idle.ensures ∙ c.if-not-is_idle.false) (λ z. absurd (omega (arith, c.is_empty.ensures.some e, z)))
