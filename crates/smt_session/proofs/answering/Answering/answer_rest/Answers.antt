use Rattle.std.proofs.Common.{◌-◌, ◌<◌, [], true, false, length, arith}
use Rattle.smt_session.proofs.Progress.{room_left, end_item, end_none, end_given, end_faulty, adds_none, adds_more}
use Rattle.smt_session.proofs.Statuses.{done_stops}
use Rattle.smt_session.proofs.Turns.{end_done}
use Rattle.smt_session.proofs.answering.Answering.answer_rest.Goals as goal

pub returns-in-Ok-None-clause-went : goal.returns-in-Ok-None-clause-went
returns-in-Ok-None-clause-went g c = λ bytes taken h.
    let p = c.items.invariant.all bytes taken h in
    let left = end_none p.0 c.end.new.self bytes p.1.items c.in-Ok-None.field-0 (c.in-Ok-None.ensures.answers p.0 bytes p.1.items p.1.stands) c.in-Ok-None.field-0-is in
    done_stops true bytes taken (g.K.Sink.output c.items.sink) c.items.self.replies c.status.result c.status.ensures.either c.status.ensures.right c.status.ensures.error
    (end_done p.0 bytes p.1.items c.items.self.session c.items.self.replies taken (g.K.Sink.output c.items.sink) p.1.written left)

pub returns-in-Err-clause-went : goal.returns-in-Err-clause-went
returns-in-Err-clause-went g c = λ bytes taken h.
    let p = c.items.invariant.all bytes taken h in
    c.refuse.ensures.went true bytes taken (end_faulty p.0 c.items.self c.end.new.self c.in-Err.fault bytes taken (g.K.Sink.output c.items.sink) p.1 (λ rest. c.more_bytes_may_follow.ensures.items true bytes [] p.1.items rest) (c.in-Err.ensures.answers p.0 bytes p.1.items p.1.stands))

pub returns-in-Some-clause-went : goal.returns-in-Some-clause-went
returns-in-Some-clause-went g c = λ bytes taken h. let p = c.items.invariant.all bytes taken h in c.in-Some.ensures.went true bytes taken (end_given p.0 c.items.self c.end.new.self c.in-Ok-Some.item bytes taken (g.K.Sink.output c.items.sink) p.1 (λ rest. c.more_bytes_may_follow.ensures.items true bytes [] p.1.items rest) (end_item p.0 c.end.new.self bytes p.1.items c.in-Ok-Some.field-0 c.in-Ok-Some.item (c.in-Ok-Some.ensures.answers p.0 bytes p.1.items p.1.stands) c.in-Ok-Some.field-0-is))

pub items-smaller-in_default : goal.items-smaller-in_default
items-smaller-in_default g c =
    let s = c.items.invariant.some in
    let room = room_left true (record { reader = c.end.new.self; session = c.items.self.session; replies = c.items.self.replies; fed = c.items.self.fed }) c.in-Ok-Some.item s.1 s.2 (g.K.Sink.output c.items.sink) (end_given s.0 c.items.self c.end.new.self c.in-Ok-Some.item s.1 s.2 (g.K.Sink.output c.items.sink) s.3 (λ rest. c.more_bytes_may_follow.ensures.items true s.1 [] s.3.items rest) (end_item s.0 c.end.new.self s.1 s.3.items c.in-Ok-Some.field-0 c.in-Ok-Some.item (c.in-Ok-Some.ensures.answers s.0 s.1 s.3.items s.3.stands) c.in-Ok-Some.field-0-is)) in
    let less : c.answer.new.self.fed - length c.answer.new.self.replies < c.items.self.fed - length c.items.self.replies = omega (arith, c.in_default.ensures.count, c.answer.ensures.fed, room) in less

pub items-preserved-in_default : goal.items-preserved-in_default
items-preserved-in_default g c = record {
  all = λ bytes taken h. let p = c.items.invariant.all bytes taken h in (true, c.in_default.ensures.went true bytes taken (end_given p.0 c.items.self c.end.new.self c.in-Ok-Some.item bytes taken (g.K.Sink.output c.items.sink) p.1 (λ rest. c.more_bytes_may_follow.ensures.items true bytes [] p.1.items rest) (end_item p.0 c.end.new.self bytes p.1.items c.in-Ok-Some.field-0 c.in-Ok-Some.item (c.in-Ok-Some.ensures.answers p.0 bytes p.1.items p.1.stands) c.in-Ok-Some.field-0-is)));
  some = let s = c.items.invariant.some in (true, s.1, s.2, c.in_default.ensures.went true s.1 s.2 (end_given s.0 c.items.self c.end.new.self c.in-Ok-Some.item s.1 s.2 (g.K.Sink.output c.items.sink) s.3 (λ rest. c.more_bytes_may_follow.ensures.items true s.1 [] s.3.items rest) (end_item s.0 c.end.new.self s.1 s.3.items c.in-Ok-Some.field-0 c.in-Ok-Some.item (c.in-Ok-Some.ensures.answers s.0 s.1 s.3.items s.3.stands) c.in-Ok-Some.field-0-is)));
  goes_on = c.in_default.ensures.goes_on;
  later = omega (arith, c.items.invariant.later, c.answer.ensures.later);
  added = adds_more c.args.self.now.replies c.items.self.replies c.answer.new.self.replies (g.K.Sink.output c.args.sink.now) (g.K.Sink.output c.items.sink) (g.K.Sink.output c.answer.new.sink) c.items.invariant.added c.answer.ensures.added;
}

pub items-smaller : goal.items-smaller
items-smaller g c =
    let s = c.items.invariant.some in
    let room = room_left true (record { reader = c.end.new.self; session = c.items.self.session; replies = c.items.self.replies; fed = c.items.self.fed }) c.in-Ok-Some.item s.1 s.2 (g.K.Sink.output c.items.sink) (end_given s.0 c.items.self c.end.new.self c.in-Ok-Some.item s.1 s.2 (g.K.Sink.output c.items.sink) s.3 (λ rest. c.more_bytes_may_follow.ensures.items true s.1 [] s.3.items rest) (end_item s.0 c.end.new.self s.1 s.3.items c.in-Ok-Some.field-0 c.in-Ok-Some.item (c.in-Ok-Some.ensures.answers s.0 s.1 s.3.items s.3.stands) c.in-Ok-Some.field-0-is)) in
    let less : c.answer.new.self.fed - length c.answer.new.self.replies < c.items.self.fed - length c.items.self.replies = omega (arith, c.in_default.ensures.count, c.answer.ensures.fed, room) in less

pub items-preserved : goal.items-preserved
items-preserved g c = record {
  all = λ bytes taken h. let p = c.items.invariant.all bytes taken h in (true, c.in_default.ensures.went true bytes taken (end_given p.0 c.items.self c.end.new.self c.in-Ok-Some.item bytes taken (g.K.Sink.output c.items.sink) p.1 (λ rest. c.more_bytes_may_follow.ensures.items true bytes [] p.1.items rest) (end_item p.0 c.end.new.self bytes p.1.items c.in-Ok-Some.field-0 c.in-Ok-Some.item (c.in-Ok-Some.ensures.answers p.0 bytes p.1.items p.1.stands) c.in-Ok-Some.field-0-is)));
  some = let s = c.items.invariant.some in (true, s.1, s.2, c.in_default.ensures.went true s.1 s.2 (end_given s.0 c.items.self c.end.new.self c.in-Ok-Some.item s.1 s.2 (g.K.Sink.output c.items.sink) s.3 (λ rest. c.more_bytes_may_follow.ensures.items true s.1 [] s.3.items rest) (end_item s.0 c.end.new.self s.1 s.3.items c.in-Ok-Some.field-0 c.in-Ok-Some.item (c.in-Ok-Some.ensures.answers s.0 s.1 s.3.items s.3.stands) c.in-Ok-Some.field-0-is)));
  goes_on = c.in_default.ensures.goes_on;
  later = omega (arith, c.items.invariant.later, c.answer.ensures.later);
  added = adds_more c.args.self.now.replies c.items.self.replies c.answer.new.self.replies (g.K.Sink.output c.args.sink.now) (g.K.Sink.output c.items.sink) (g.K.Sink.output c.answer.new.sink) c.items.invariant.added c.answer.ensures.added;
}

pub items-init : goal.items-init
items-init g c = record {
  all = λ bytes taken h. (false, h);
  some = (false, c.requires.answering.0, c.requires.answering.1, c.requires.answering.2);
  goes_on = c.requires.goes_on;
  later = omega arith;
  added = adds_none c.args.self.now.replies (g.K.Sink.output c.args.sink.now);
}

pub returns-in-Ok-None-clause-added : goal.returns-in-Ok-None-clause-added
returns-in-Ok-None-clause-added g c = c.items.invariant.added

pub returns-in-Err-clause-added : goal.returns-in-Err-clause-added
returns-in-Err-clause-added g c = adds_more c.args.self.now.replies c.items.self.replies c.refuse.new.self.replies (g.K.Sink.output c.args.sink.now) (g.K.Sink.output c.items.sink) (g.K.Sink.output c.refuse.new.sink) c.items.invariant.added c.refuse.ensures.added

pub returns-in-Some-clause-added : goal.returns-in-Some-clause-added
returns-in-Some-clause-added g c = adds_more c.args.self.now.replies c.items.self.replies c.answer.new.self.replies (g.K.Sink.output c.args.sink.now) (g.K.Sink.output c.items.sink) (g.K.Sink.output c.answer.new.sink) c.items.invariant.added c.answer.ensures.added
