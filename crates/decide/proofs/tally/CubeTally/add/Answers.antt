use Rattle.std.proofs.Common.{refl, ap}
use Rattle.sv_list.specs.Lists.{OnOk-weaker}
use Rattle.decide.proofs.Tallying.{with-unsat, with-open}
use Rattle.decide.specs.declared.tally.CubeTally.{CubeTally}
use Rattle.decide.proofs.tally.CubeTally.add.Goals as goal

pub returns-in-Unsat-clause-tallied : goal.returns-in-Unsat-clause-tallied
returns-in-Unsat-clause-tallied c = λ terms before h. with-unsat terms before c.args.self.now _ h c.args.next c.in-Unsat.refutation c.in-Unsat.is refl refl refl refl c.add-self.ensures

pub returns-in-Open-clause-tallied : goal.returns-in-Open-clause-tallied
returns-in-Open-clause-tallied c = OnOk-weaker c.push.result c.push.ensures (λ e terms before h. with-open terms before c.args.self.now c.push.new.self h c.args.next c.in-Open.reason c.in-Open.is e)

pub returns-in-Open-clause-count : goal.returns-in-Open-clause-count
returns-in-Open-clause-count c = OnOk-weaker c.push.result c.push.ensures (λ e. ap (λ (t : CubeTally). t.count) e)
