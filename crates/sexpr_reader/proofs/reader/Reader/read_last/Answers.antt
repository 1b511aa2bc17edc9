use Rattle.std.proofs.Common.{◌++◌, ap, ◌∙◌, subst, true, Option, append-nil}
use Rattle.std.proofs.lemmas.Result.{err_from_is_err_and}
use Rattle.std.specs.Option.{option_to_list}
use Rattle.sexpr_reader.specs.declared.sexpr.Sexpr.{Sexpr}
use Rattle.sexpr_reader.specs.Standing.{HasGiven}
use Rattle.sexpr_reader.proofs.Readers.{stands_same}
use Rattle.sexpr_reader.proofs.Ends.{stands_ended, closes_err}
use Rattle.sexpr_reader.proofs.Nexts.{gives}
use Rattle.sexpr_reader.proofs.reader.Reader.read_last.Goals as goal

pub returns-then-is_done : goal.returns-then-is_done
returns-then-is_done c = λ ended bytes given s.
    let w : HasGiven true c.last_atom.new.self bytes given = subst (HasGiven true c.last_atom.new.self bytes) (ap (λ (o : Option Sexpr). given ++ option_to_list o) c.in_default.is ∙ append-nil given) (c.in_ok-item.ensures.steps bytes given (stands_ended ended c.args.self.now bytes given s)) in
    (w, c.is_done.ensures.done c.if-is_done.true bytes given w)

pub returns : goal.returns
returns c = λ ended bytes given s.
    let w : HasGiven true c.last_atom.new.self bytes given = subst (HasGiven true c.last_atom.new.self bytes) (ap (λ (o : Option Sexpr). given ++ option_to_list o) c.in_default.is ∙ append-nil given) (c.in_ok-item.ensures.steps bytes given (stands_ended ended c.args.self.now bytes given s)) in
    (w, c.is_done.ensures.open c.if-is_done.false bytes given w)

pub returns-in-Some : goal.returns-in-Some
returns-in-Some c = λ ended bytes given s.
    gives true c.last_atom.new.self bytes given c.in-Some.item (subst (HasGiven true c.last_atom.new.self bytes) (ap (λ (o : Option Sexpr). given ++ option_to_list o) c.in-Some.is) (c.in_ok-item.ensures.steps bytes given (stands_ended ended c.args.self.now bytes given s)))

pub returns-in_err-item : goal.returns-in_err-item
returns-in_err-item c = λ ended bytes given s.
    let exit = err_from_is_err_and c.from_residual.result c.from_residual.ensures.1 in
    rw (exit.1, exit.2)
    (closes_err ended c.last_atom.new.self bytes given c.in_err-item.field-0.0 (stands_same ended c.args.self.now c.last_atom.new.self bytes given s c.in_err-item.ensures.refused) (c.in_err-item.ensures.steps bytes given (stands_ended ended c.args.self.now bytes given s)))
