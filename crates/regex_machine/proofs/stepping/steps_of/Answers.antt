use Rattle.std.proofs.Common.{ℕ, sym, subst}
use Rattle.std.proofs.lemmas.List.Elements.{All-nil}
use Rattle.sv_word.specs.Ranges.{IsInhabited}
use Rattle.machine_core.specs.declared.machine.Move.{Move}
use Rattle.machine_meet.specs.Joins.{AreInhabited}
use Rattle.regex_machine.proofs.StepLemmas.{steps-alone}
use Rattle.regex_machine.proofs.stepping.steps_of.Goals as goal

pub add_steps-requires-clause-inhabited : goal.add_steps-requires-clause-inhabited
add_steps-requires-clause-inhabited c = subst AreInhabited (sym c.new-all.ensures) (All-nil (λ (m : Move (ℕ × ℕ)). IsInhabited m.on))

pub returns-clause-exact : goal.returns-clause-exact
returns-clause-exact c = steps-alone c.args.part.now c.args.at c.args.number c.new-all.result c.add_steps.new.all c.new-all.ensures c.in_ok-add_steps.ensures.exact
