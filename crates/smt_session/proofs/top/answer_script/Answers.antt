use Rattle.std.proofs.Common.{inl, refl}
use Rattle.smt_session.specs.declared.status.Status.TheVariants.{ReadFailed}
use Rattle.smt_session.proofs.Refused.{left_opened, nothing_left, nothing_prompt, nothing_unfinished}
use Rattle.smt_session.proofs.Statuses.{no_answer}
use Rattle.smt_session.proofs.top.answer_script.Goals as goal

pub returns-in-Err-clause-went : goal.returns-in-Err-clause-went
returns-in-Err-clause-went g c = nothing_unfinished (g.S.Source.input c.args.source.now) (g.S.Source.input c.open.new.self) (g.K.Sink.output c.args.sink.now) c.new.result c.open.ensures.given c.new.ensures

pub returns-in-Err-clause-prompt : goal.returns-in-Err-clause-prompt
returns-in-Err-clause-prompt g c = nothing_prompt (g.S.Source.input c.args.source.now) (g.S.Source.input c.open.new.self) (g.K.Sink.output c.args.sink.now) c.new.result c.open.ensures.given c.new.ensures

pub returns-in-Err-clause-left : goal.returns-in-Err-clause-left
returns-in-Err-clause-left g c = nothing_left (g.S.Source.input c.args.source.now) (g.S.Source.input c.open.new.self) (g.S.Source.left c.args.source.now) (g.S.Source.left c.open.new.self) c.open.ensures.given c.open.ensures.bytes (λ old. c.open.ensures.at_end)

pub returns-in-Ok-clause-left : goal.returns-in-Ok-clause-left
returns-in-Ok-clause-left g c = left_opened (g.S.Source.input c.args.source.now) (g.S.Source.input c.open.new.self) (g.S.Source.input c.answer_source-status.new.source) (g.S.Source.left c.args.source.now) (g.S.Source.left c.open.new.self) (g.S.Source.left c.answer_source-status.new.source) c.open.ensures.given c.open.ensures.bytes c.open.ensures.at_end c.answer_source-status.ensures.left

pub returns-in-Err-clause-open : goal.returns-in-Err-clause-open
returns-in-Err-clause-open g c = λ e. absurd (no_answer ReadFailed (inl refl) e)

pub answer_source-status-requires-clause-waits : goal.answer_source-status-requires-clause-waits
answer_source-status-requires-clause-waits g c κs within = c.new-answering.ensures.waits (g.K.Sink.output c.args.sink.now)
