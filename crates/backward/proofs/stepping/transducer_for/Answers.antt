use Rattle.std.proofs.Common.{sym, subst}
use Rattle.std.specs.Prelude.{IfOk}
use Rattle.std.proofs.lemmas.Result.{IfOk-weaker}
use Rattle.flat_cubes.specs.Straight.{IsFormedBy}
use Rattle.backward.specs.Definitions.{IsFor}
use Rattle.backward.proofs.StepLemmas.{first-for, all-for, through-for}
use Rattle.backward.proofs.stepping.transducer_for.Goals as goal

pub returns-in-First : goal.returns-in-First
returns-in-First c =
    let e = c.replace_first.ensures in
    subst (λ b. IfOk c.replace_first.result (IsFor b)) (sym c.in-First.is) (first-for c.in-First.pattern c.in-First.other c.in-First.field-2 c.replace_first.result e.formed e.states e.exact e.growth e.most)

pub returns-in-All : goal.returns-in-All
returns-in-All c =
    let e = c.replace_all.ensures in
    subst (λ b. IfOk c.replace_all.result (IsFor b)) (sym c.in-All.is) (all-for c.in-All.pattern c.in-All.other c.in-All.field-2 c.replace_all.result e.formed e.states e.exact e.growth e.most)

pub returns-in-Through : goal.returns-in-Through
returns-in-Through c =
    let t = c.in-Through.through in
    let formed = subst IsFormedBy c.in-Through.is c.requires.formed in
    IfOk-weaker c.copy.result _ _ (λ u same. subst (IsFor c.args.by.now) (sym same) (subst (λ b. IsFor b t) (sym c.in-Through.is) (through-for t c.in-Through.field-1 formed))) c.copy.ensures
