use Rattle.std.proofs.Common.{sym, ap, ◌∙◌, Some}
use Rattle.sv_list.specs.Lists.{OnOk-weaker}
use Rattle.decide.proofs.Tallying.{with-opaque, with-model}
use Rattle.decide.specs.declared.tally.CubeTally.{CubeTally}
use Rattle.decide.proofs.tally.CubeTally.add_model.Goals as goal

pub returns-in_ok-copy-in-Some-clause-tallied : goal.returns-in_ok-copy-in-Some-clause-tallied
returns-in_ok-copy-in-Some-clause-tallied c =
    OnOk-weaker c.push.result c.push.ensures
    (λ e terms before h. with-opaque terms before c.args.self.now c.push.new.self h c.args.model c.in_ok-copy-in-Some.field-0 (c.in-Some.is ∙ ap Some (sym c.in_ok-copy-in-Some.ensures)) e)

pub returns-in_ok-copy-in-Some-clause-count : goal.returns-in_ok-copy-in-Some-clause-count
returns-in_ok-copy-in-Some-clause-count c = OnOk-weaker c.push.result c.push.ensures (λ e. ap (λ (t : CubeTally). t.count) e)

pub returns-in-None-clause-tallied : goal.returns-in-None-clause-tallied
returns-in-None-clause-tallied c = λ terms before h. with-model terms before c.args.self.now c.keep.new.self h c.args.model c.in-None.is c.keep.ensures

pub returns-in-None-clause-count : goal.returns-in-None-clause-count
returns-in-None-clause-count c = ap (λ (t : CubeTally). t.count) c.keep.ensures
