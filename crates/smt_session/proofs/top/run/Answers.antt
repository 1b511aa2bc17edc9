use Rattle.std.proofs.Common.{refl, subst, inl, inr}
use Rattle.generated_script.specs.Blocks.{script}
use Rattle.generated_verdicts.specs.Table.{table_of}
use Rattle.smt_session.specs.declared.status.Status.TheVariants.{NoMemory}
use Rattle.smt_session.specs.CommandLine.{usage}
use Rattle.smt_session.specs.Generated.{IsTrueIn}
use Rattle.sv_io.proofs.Histories.{takes_nothing}
use Rattle.smt_session.proofs.Exits.{stops_at_exit}
use Rattle.smt_session.proofs.Progress.{front_of}
use Rattle.smt_session.proofs.Refused.{asked, not_both, nothing_front, nothing_generated, nothing_left, nothing_prompt, verdict_in}
use Rattle.smt_session.proofs.Statuses.{ended_answered, ended_error, ended_right, ended_unread, ended_unwritten, no_answer, no_script, no_source, not_refused}
use Rattle.smt_session.proofs.Verdicts.{verdict_true}
use Rattle.smt_session.proofs.top.run.Goals as goal

pub returns-in-Err-Memory-clause-front : goal.returns-in-Err-Memory-clause-front
returns-in-Err-Memory-clause-front g c = λ named. nothing_front (g.S.Source.input c.args.source.now) (g.S.Source.input c.args.source.now) (g.K.Sink.output c.args.sink.now) c.new-in-Err-Memory.result refl c.new-in-Err-Memory.ensures

pub returns-in-Err-Memory-clause-prompt : goal.returns-in-Err-Memory-clause-prompt
returns-in-Err-Memory-clause-prompt g c = λ named. nothing_prompt (g.S.Source.input c.args.source.now) (g.S.Source.input c.args.source.now) (g.K.Sink.output c.args.sink.now) c.new-in-Err-Memory.result refl c.new-in-Err-Memory.ensures

pub returns-in-Err-Memory-clause-exit : goal.returns-in-Err-Memory-clause-exit
returns-in-Err-Memory-clause-exit g c = λ named. stops_at_exit _ _ (g.K.Sink.output c.args.sink.now) (g.K.Sink.output c.args.sink.now) c.new-in-Err-Memory.result (nothing_prompt (g.S.Source.input c.args.source.now) (g.S.Source.input c.args.source.now) (g.K.Sink.output c.args.sink.now) c.new-in-Err-Memory.result refl c.new-in-Err-Memory.ensures)

pub returns-in-Err-Memory-clause-generated : goal.returns-in-Err-Memory-clause-generated
returns-in-Err-Memory-clause-generated g c = λ seed size ask. (refl, nothing_generated (script seed size) size (table_of seed size) (g.K.Sink.output c.args.sink.now) c.new-in-Err-Memory.result c.new-in-Err-Memory.ensures)

pub returns-in-Answer-clause-verdicts : goal.returns-in-Answer-clause-verdicts
returns-in-Answer-clause-verdicts g c = λ named early late verdict e.
    let front = front_of _ _ _ _ c.answer_script.result.log c.answer_script.result.status c.answer_script.ensures.went in
    record { ended = front.ended; bytes = front.bytes; read = front.read; verdict_is = verdict_true front.ended front.bytes c.answer_script.result.log early late verdict front.cut.right e }

pub returns-in-Answer-clause-exit : goal.returns-in-Answer-clause-exit
returns-in-Answer-clause-exit g c = λ named. stops_at_exit _ _ _ _ c.answer_script.result.log c.answer_script.ensures.prompt

pub returns-in-Answer-clause-refused : goal.returns-in-Answer-clause-refused
returns-in-Answer-clause-refused g c = λ e. absurd (not_both _ c.args.words.now c.as_slice.ensures c.in-Ok.ensures.ok.form e)

pub returns-in-Answer-clause-front : goal.returns-in-Answer-clause-front
returns-in-Answer-clause-front g c = λ named. front_of _ _ _ _ c.answer_script.result.log c.answer_script.result.status c.answer_script.ensures.went

pub returns-in-Generate-clause-refused : goal.returns-in-Generate-clause-refused
returns-in-Generate-clause-refused g c = λ e. absurd (not_both _ c.args.words.now c.as_slice.ensures c.in-Ok.ensures.ok.form e)

pub returns-in-Generate-clause-generated_verdicts : goal.returns-in-Generate-clause-generated_verdicts
returns-in-Generate-clause-generated_verdicts g c = λ seed size ask early late verdict e.
    let same = asked _ c.args.words.now c.in-Ok.line c.in-Generate.seed c.in-Generate.size seed size c.as_slice.ensures c.in-Ok.ensures.ok c.in-Generate.is ask in
    let true_in = verdict_in (script c.in-Generate.seed c.in-Generate.size) c.answer_generated.result.log early late verdict c.answer_generated.ensures.generated.front e in
    subst (λ n. IsTrueIn (script seed n) early verdict) same.1 (subst (λ s. IsTrueIn (script s c.in-Generate.size) early verdict) same.0 true_in)

pub returns-in-Err-Outside-clause-error : goal.returns-in-Err-Outside-clause-error
returns-in-Err-Outside-clause-error g c = λ e. absurd (no_script c.refuse_words.result c.refuse_words.ensures.statuses (inl e))

pub returns-in-Err-Outside-clause-read_fault : goal.returns-in-Err-Outside-clause-read_fault
returns-in-Err-Outside-clause-read_fault g c = λ e. absurd (no_script c.refuse_words.result c.refuse_words.ensures.statuses (inr e))

pub returns-in-Answer-clause-answered : goal.returns-in-Answer-clause-answered
returns-in-Answer-clause-answered g c = λ named e. ended_answered _ _ _ _ c.answer_script.result.log c.answer_script.result.status c.answer_script.ensures.went e

pub returns-in-Answer-clause-right : goal.returns-in-Answer-clause-right
returns-in-Answer-clause-right g c = λ named e. ended_right _ _ _ _ c.answer_script.result.log c.answer_script.result.status c.answer_script.ensures.went e

pub returns-in-Answer-clause-error : goal.returns-in-Answer-clause-error
returns-in-Answer-clause-error g c = λ e. ended_error _ _ _ _ c.answer_script.result.log c.answer_script.result.status c.answer_script.ensures.went e

pub returns-in-Answer-clause-wrong_words : goal.returns-in-Answer-clause-wrong_words
returns-in-Answer-clause-wrong_words g c = λ e. absurd (not_refused _ _ _ _ c.answer_script.result.log c.answer_script.result.status c.answer_script.ensures.went e)

pub returns-in-Answer-clause-read_fault : goal.returns-in-Answer-clause-read_fault
returns-in-Answer-clause-read_fault g c = λ e. (c.answer_script.ensures.unread e, ended_unread _ _ _ _ c.answer_script.result.log c.answer_script.result.status c.answer_script.ensures.went e)

pub returns-in-Generate-clause-error : goal.returns-in-Generate-clause-error
returns-in-Generate-clause-error g c = λ e. absurd (no_source c.answer_generated.result.status c.answer_generated.ensures.generated.statuses (inl e))

pub returns-in-Generate-clause-wrong_words : goal.returns-in-Generate-clause-wrong_words
returns-in-Generate-clause-wrong_words g c = λ e. absurd (no_source c.answer_generated.result.status c.answer_generated.ensures.generated.statuses (inr (inl e)))

pub returns-in-Generate-clause-read_fault : goal.returns-in-Generate-clause-read_fault
returns-in-Generate-clause-read_fault g c = λ e. absurd (no_source c.answer_generated.result.status c.answer_generated.ensures.generated.statuses (inr (inr e)))

pub returns-in-Err-Memory-clause-answered : goal.returns-in-Err-Memory-clause-answered
returns-in-Err-Memory-clause-answered g c = λ named e. absurd (no_answer NoMemory (inr refl) e)

pub returns-in-Err-Memory-clause-open : goal.returns-in-Err-Memory-clause-open
returns-in-Err-Memory-clause-open g c = λ named e. absurd (no_answer NoMemory (inr refl) e)

pub returns-in-Err-Memory-clause-name : goal.returns-in-Err-Memory-clause-name
returns-in-Err-Memory-clause-name g c = λ name is e. absurd (no_answer NoMemory (inr refl) e)

pub returns-in-Err-Memory-clause-refused : goal.returns-in-Err-Memory-clause-refused
returns-in-Err-Memory-clause-refused g c = λ e. (refl, record { empty = c.new-in-Err-Memory.ensures; took = takes_nothing (g.K.Sink.output c.args.sink.now) usage })

pub returns-in-Err-Memory-clause-left : goal.returns-in-Err-Memory-clause-left
returns-in-Err-Memory-clause-left g c = λ named. nothing_left (g.S.Source.input c.args.source.now) (g.S.Source.input c.args.source.now) (g.S.Source.left c.args.source.now) (g.S.Source.left c.args.source.now) refl refl (λ old. old)

pub returns-in-Err-Memory-clause-openings : goal.returns-in-Err-Memory-clause-openings
returns-in-Err-Memory-clause-openings g c = λ name is. inr (refl, refl)

pub returns-in-Answer-clause-cut : goal.returns-in-Answer-clause-cut
returns-in-Answer-clause-cut g c = λ named e. ended_unwritten _ _ _ _ c.answer_script.result.log c.answer_script.result.status c.answer_script.ensures.went e
