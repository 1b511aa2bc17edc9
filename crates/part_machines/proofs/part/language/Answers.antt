use Rattle.std.proofs.Common.{sym, subst}
use Rattle.std.proofs.lemmas.Result.{IfOk-weaker}
use Rattle.sv_terms.specs.declared.regex.Regex.{Regex}
use Rattle.flat_cubes.specs.declared.variable.Own.TheVariants.{InRe}
use Rattle.part_machines.specs.Kept.{IsMachineOf}
use Rattle.part_machines.specs.Parts.{IsOfPart}
use Rattle.part_machines.proofs.PartLemmas.{others-kept}
use Rattle.part_machines.proofs.part.language.Goals as goal

pub returns-clause-machine : goal.returns-clause-machine
returns-clause-machine c =
    let r = c.args.regex.now in
    IfOk-weaker c.kept_machine-2.result (IsMachineOf c.in_ok-others.others) (IsOfPart (InRe r, c.args.holds))
    (λ m kept.
    let is = subst (λ (x : Regex). IsMachineOf x m) c.in_ok-others.ensures kept in
    subst (λ h. IsOfPart (InRe r, h) m) (sym c.if-holds.false) (others-kept r m (c.languages_are_words.ensures r) is))
    c.kept_machine-2.ensures.machine
