use Rattle.std.proofs.Common.{◌++◌, ap, ◌∙◌, subst, true, Option, append-nil}
use Rattle.std.proofs.lemmas.Result.{err_from_is_err_and}
use Rattle.std.specs.Option.{option_to_list}
use Rattle.sexpr_reader.specs.declared.sexpr.Sexpr.{Sexpr}
use Rattle.sexpr_reader.specs.Standing.{HasGiven}
use Rattle.sexpr_reader.proofs.Ends.{stands_ended, closes_step}
use Rattle.sexpr_reader.proofs.Nexts.{gives}
use Rattle.sexpr_reader.proofs.reader.Reader.end.Goals as goal

pub returns-in-None : goal.returns-in-None
returns-in-None c = record {
  answers = λ ended bytes given s.
      c.read_last.ensures ended bytes given (subst (HasGiven ended c.read_on.new.self bytes) (ap (λ (o : Option Sexpr). given ++ option_to_list o) c.in-None.is ∙ append-nil given) (c.in_ok-item.ensures.steps ended bytes given s));
}

pub returns-in-Some : goal.returns-in-Some
returns-in-Some c = record {
  answers = λ ended bytes given s.
      gives true c.read_on.new.self bytes given c.in-Some.item (subst (HasGiven true c.read_on.new.self bytes) (ap (λ (o : Option Sexpr). given ++ option_to_list o) c.in-Some.is) (c.in_ok-item.ensures.steps true bytes given (stands_ended ended c.args.self.now bytes given s)));
}

pub returns-in_err-item : goal.returns-in_err-item
returns-in_err-item c = record {
  answers = λ ended bytes given s.
      let exit = err_from_is_err_and c.from_residual.result c.from_residual.ensures.1 in
      rw (exit.1, exit.2)
      (closes_step ended c.read_on.new.self bytes given c.in_err-item.field-0.0 (c.in_err-item.ensures.steps ended bytes given s) (c.in_err-item.ensures.steps true bytes given (stands_ended ended c.args.self.now bytes given s)));
}
