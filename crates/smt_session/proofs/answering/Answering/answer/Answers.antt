use Rattle.std.proofs.Common.{◌∷◌, ◌++◌, [], ◌∙◌, sym}
use Rattle.smt_session.specs.Replies.{text_of}
use Rattle.smt_session.proofs.Progress.{given_here, given_more, given_exit, given_cut, given_last, adds_none, adds_one}
use Rattle.smt_session.proofs.Statuses.{cut_stops, done_stops, not_failed}
use Rattle.smt_session.proofs.answering.Answering.answer.Goals as goal

pub returns-in-Err-clause-went : goal.returns-in-Err-clause-went
returns-in-Err-clause-went g c = λ ended bytes taken h. given_here ended c.args.self.now c.args.item.now bytes taken (g.K.Sink.output c.args.sink.now) h

pub returns-in-Err-written-clause-went : goal.returns-in-Err-written-clause-went
returns-in-Err-written-clause-went g c = λ ended bytes taken h.
    cut_stops ended bytes taken (g.K.Sink.output c.write_reply-written.new.sink) c.and-self.result c.of_fault.result c.of_fault.ensures.either
    (given_cut ended c.args.self.now c.args.item.now bytes taken (g.K.Sink.output c.args.sink.now) (g.K.Sink.output c.write_reply-written.new.sink) h c.step.new.self c.in-Ok.reply c.and-self.result c.in-Ok.ensures.ok c.and-self.ensures c.write_reply-written.ensures.front c.in-Err-written.ensures.err)
    (given_last ended c.args.self.now c.args.item.now bytes taken (g.K.Sink.output c.args.sink.now) (g.K.Sink.output c.write_reply-written.new.sink) h c.step.new.self c.in-Ok.reply c.and-self.result c.in-Ok.ensures.ok c.and-self.ensures c.in-Err-written.ensures.err)

pub returns-then-has_ended-clause-went : goal.returns-then-has_ended-clause-went
returns-then-has_ended-clause-went g c = λ ended bytes taken h.
    done_stops ended bytes taken (g.K.Sink.output c.write_reply-written.new.sink) c.and-self.result c.status.result c.status.ensures.either c.status.ensures.right c.status.ensures.error
    (given_exit ended c.args.self.now c.args.item.now bytes taken (g.K.Sink.output c.args.sink.now) (g.K.Sink.output c.write_reply-written.new.sink) h c.step.new.self c.in-Ok.reply c.and-self.result c.in-Ok.ensures.ok c.and-self.ensures c.in_default.ensures.ok (sym c.has_ended.ensures ∙ c.if-has_ended.true))

pub returns-clause-went : goal.returns-clause-went
returns-clause-went g c = λ ended bytes taken h. record {
  items = h.items ++ c.args.item.now ∷ [];
  stands = h.gives.stands;
  written = given_more ended c.args.self.now c.args.item.now bytes taken (g.K.Sink.output c.args.sink.now) (g.K.Sink.output c.write_reply-written.new.sink) h c.step.new.self c.in-Ok.reply c.and-self.result c.in-Ok.ensures.ok c.and-self.ensures c.in_default.ensures.ok (sym c.has_ended.ensures ∙ c.if-has_ended.false);
  fed = h.fed;
}

pub returns-in-Err-clause-added : goal.returns-in-Err-clause-added
returns-in-Err-clause-added g c = adds_none c.args.self.now.replies (g.K.Sink.output c.args.sink.now)

pub returns-in-Err-written-clause-added : goal.returns-in-Err-written-clause-added
returns-in-Err-written-clause-added g c = adds_one c.args.self.now.replies c.and-self.result c.in-Ok.reply (text_of c.in-Ok.reply) (g.K.Sink.output c.args.sink.now) (g.K.Sink.output c.write_reply-written.new.sink) c.and-self.ensures c.write_reply-written.ensures.front

pub returns-then-has_ended-clause-added : goal.returns-then-has_ended-clause-added
returns-then-has_ended-clause-added g c = adds_one c.args.self.now.replies c.and-self.result c.in-Ok.reply (text_of c.in-Ok.reply) (g.K.Sink.output c.args.sink.now) (g.K.Sink.output c.write_reply-written.new.sink) c.and-self.ensures c.write_reply-written.ensures.front

pub returns-clause-added : goal.returns-clause-added
returns-clause-added g c = adds_one c.args.self.now.replies c.and-self.result c.in-Ok.reply (text_of c.in-Ok.reply) (g.K.Sink.output c.args.sink.now) (g.K.Sink.output c.write_reply-written.new.sink) c.and-self.ensures c.write_reply-written.ensures.front

pub returns-in-Err-written-clause-later : goal.returns-in-Err-written-clause-later
returns-in-Err-written-clause-later g c = c.write_reply-written.ensures.later

pub returns-then-has_ended-clause-later : goal.returns-then-has_ended-clause-later
returns-then-has_ended-clause-later g c = c.write_reply-written.ensures.later

pub returns-then-has_ended-clause-failed : goal.returns-then-has_ended-clause-failed
returns-then-has_ended-clause-failed g c = λ e. absurd (not_failed c.status.result c.status.ensures.either e)

pub returns-clause-later : goal.returns-clause-later
returns-clause-later g c = c.write_reply-written.ensures.later
