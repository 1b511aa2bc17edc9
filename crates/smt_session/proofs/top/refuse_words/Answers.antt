use Rattle.std.proofs.Common.{subst}
use Rattle.sv_io.specs.Histories.{Sends, Takes}
use Rattle.smt_session.proofs.top.refuse_words.Goals as goal

pub returns-in-Ok-clause-whole : goal.returns-in-Ok-clause-whole
returns-in-Ok-clause-whole g c = λ e. subst (Sends (g.K.Sink.output c.args.sink.now) (g.K.Sink.output c.write_all.new.sink)) c.as_bytes.ensures.value c.in-Ok.ensures.ok

pub returns-in-Ok-clause-front : goal.returns-in-Ok-clause-front
returns-in-Ok-clause-front g c = subst (Takes (g.K.Sink.output c.args.sink.now) (g.K.Sink.output c.write_all.new.sink)) c.as_bytes.ensures.value c.in-Ok.ensures.front

pub returns-in-Err-clause-front : goal.returns-in-Err-clause-front
returns-in-Err-clause-front g c = subst (Takes (g.K.Sink.output c.args.sink.now) (g.K.Sink.output c.write_all.new.sink)) c.as_bytes.ensures.value c.in-Err.ensures.front
