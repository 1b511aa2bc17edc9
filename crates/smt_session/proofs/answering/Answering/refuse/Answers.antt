use Rattle.smt_session.specs.Replies.{text_of}
use Rattle.smt_session.specs.declared.reply.Reply.TheVariants.{Error}
use Rattle.smt_session.proofs.Progress.{faulty_here, faulty_done, faulty_cut, faulty_last, adds_none, adds_one}
use Rattle.smt_session.proofs.Statuses.{cut_stops, done_stops}
use Rattle.smt_session.proofs.answering.Answering.refuse.Goals as goal

pub returns-in-Err-clause-went : goal.returns-in-Err-clause-went
returns-in-Err-clause-went g c = λ ended bytes taken h. faulty_here ended c.args.self.now c.args.fault bytes taken (g.K.Sink.output c.args.sink.now) h

pub returns-in-Ok-written-clause-went : goal.returns-in-Ok-written-clause-went
returns-in-Ok-written-clause-went g c = λ ended bytes taken h.
    done_stops ended bytes taken (g.K.Sink.output c.write_reply-written.new.sink) c.and-self.result c.status.result c.status.ensures.either c.status.ensures.right c.status.ensures.error
    (faulty_done ended c.args.self.now c.args.fault bytes taken (g.K.Sink.output c.args.sink.now) (g.K.Sink.output c.write_reply-written.new.sink) h c.in-Ok.kind c.and-self.result c.in-Ok.ensures.kind c.and-self.ensures c.in-Ok-written.ensures.ok)

pub returns-in-Err-clause-added : goal.returns-in-Err-clause-added
returns-in-Err-clause-added g c = adds_none c.args.self.now.replies (g.K.Sink.output c.args.sink.now)

pub returns-in-Ok-written-clause-added : goal.returns-in-Ok-written-clause-added
returns-in-Ok-written-clause-added g c = adds_one c.args.self.now.replies c.and-self.result (Error c.in-Ok.kind) (text_of (Error c.in-Ok.kind)) (g.K.Sink.output c.args.sink.now) (g.K.Sink.output c.write_reply-written.new.sink) c.and-self.ensures c.write_reply-written.ensures.front

pub returns-clause-went : goal.returns-clause-went
returns-clause-went g c = λ ended bytes taken h.
    cut_stops ended bytes taken (g.K.Sink.output c.write_reply-written.new.sink) c.and-self.result c.of_fault.result c.of_fault.ensures.either
    (faulty_cut ended c.args.self.now c.args.fault bytes taken (g.K.Sink.output c.args.sink.now) (g.K.Sink.output c.write_reply-written.new.sink) h c.in-Ok.kind c.and-self.result c.in-Ok.ensures.kind c.and-self.ensures c.write_reply-written.ensures.front c.in-Err-written.ensures.err)
    (faulty_last ended c.args.self.now c.args.fault bytes taken (g.K.Sink.output c.args.sink.now) (g.K.Sink.output c.write_reply-written.new.sink) h c.in-Ok.kind c.and-self.result c.in-Ok.ensures.kind c.and-self.ensures c.in-Err-written.ensures.err)

pub returns-clause-added : goal.returns-clause-added
returns-clause-added g c = adds_one c.args.self.now.replies c.and-self.result (Error c.in-Ok.kind) (text_of (Error c.in-Ok.kind)) (g.K.Sink.output c.args.sink.now) (g.K.Sink.output c.write_reply-written.new.sink) c.and-self.ensures c.write_reply-written.ensures.front
