use Rattle.std.proofs.Common.{sym, subst, not, append-nil, ◌==◌}
use Rattle.std.proofs.lemmas.Bool.{not_from_false}
use Rattle.sexpr_reader.specs.Bytes.{is_border}
use Rattle.sexpr_reader.specs.Standing.{HasGiven}
use Rattle.sexpr_reader.proofs.Shapes.{run_ends, literal_ends, ends_by}
use Rattle.sexpr_reader.proofs.reader.Reader.advance.Goals as goal

pub returns-in-Skip-clause-steps : goal.returns-in-Skip-clause-steps
returns-in-Skip-clause-steps c = λ ended bytes given s. subst (HasGiven ended c.skip.new.self bytes) (sym (append-nil given)) (c.skip.ensures.stands ended bytes given (record { at = s.at }))

pub returns-in-Take-clause-steps : goal.returns-in-Take-clause-steps
returns-in-Take-clause-steps c = λ ended bytes given s. subst (HasGiven ended c.take.new.self bytes) (sym (append-nil given)) (c.take.ensures.stands ended bytes given (record { at = s.at }))

pub returns-in-EndRun-clause-steps : goal.returns-in-EndRun-clause-steps
returns-in-EndRun-clause-steps c = λ ended bytes given s.
    let r = c.args.self.now in
    c.run.ensures.steps ended bytes given (ends_by ended is_border r.pending.items r.at c.index.result.now c.requires c.index.ensures (run_ends r.mode c.index.result.now c.in-EndRun.ensures).1) (record { at = s.at })

pub returns-in-EndLiteral-clause-steps : goal.returns-in-EndLiteral-clause-steps
returns-in-EndLiteral-clause-steps c = λ ended bytes given s.
    let r = c.args.self.now in
    c.literal.ensures.steps ended bytes given (ends_by ended (λ b. not (b == 34)) r.pending.items r.at c.index.result.now c.requires c.index.ensures (not_from_false _ (literal_ends r.mode c.index.result.now c.in-EndLiteral.ensures).1)) (record { at = s.at })
