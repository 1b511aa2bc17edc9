use Rattle.std.proofs.Common.{is_eq, sym, ap, ◌∙◌}
use Rattle.machine_meet.proofs.OptionLemmas.{equal-same}
use Rattle.machine_meet.proofs.options.leads.Goals as goal

pub returns-then-holds : goal.returns-then-holds
returns-then-holds g c =
    let equal = equal-same g.S.Ord.cmp g.met.S.Ord.total g.met.S.State.same c.args.step.now.to c.args.to.now in
    let answer = c.is_eq.ensures ∙ ap is_eq c.cmp.ensures in
    (λ h. (sym c.holds.ensures ∙ c.if-holds.true, equal.0 (sym answer ∙ h)), λ p. answer ∙ equal.1 p.1)

pub returns-else-holds : goal.returns-else-holds
returns-else-holds g c = (λ h. let f = c.if-holds.false in absurd (cc), λ p. c.holds.ensures ∙ p.0)
