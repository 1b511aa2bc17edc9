use Rattle.std.proofs.Common.{◌-◌, ◌<◌, false, length, arith}
use Rattle.smt_session.proofs.Progress.{room_left, next_item, next_none, next_given, next_faulty, adds_none, adds_more}
use Rattle.smt_session.proofs.answering.Answering.answer_whole.Goals as goal

pub returns-in-Ok-None-clause-went : goal.returns-in-Ok-None-clause-went
returns-in-Ok-None-clause-went g c = λ bytes taken h.
    let k = c.items.invariant.all bytes taken h in
    let left = next_none c.next.new.self bytes k.items c.in-Ok-None.field-0 (c.in-Ok-None.ensures.answers bytes k.items k.stands) c.in-Ok-None.field-0-is in
    record { answering = record { items = k.items; stands = left.0; written = k.written; fed = k.fed }; waits = left.1 }

pub returns-in-Err-clause-went : goal.returns-in-Err-clause-went
returns-in-Err-clause-went g c = λ bytes taken h.
    let k = c.items.invariant.all bytes taken h in
    c.refuse.ensures.went false bytes taken (next_faulty c.items.self c.next.new.self c.in-Err.fault bytes taken (g.K.Sink.output c.items.sink) k (c.in-Err.ensures.answers bytes k.items k.stands))

pub returns-in-Some-clause-went : goal.returns-in-Some-clause-went
returns-in-Some-clause-went g c = λ bytes taken h. let k = c.items.invariant.all bytes taken h in c.in-Some.ensures.went false bytes taken (next_given c.items.self c.next.new.self c.in-Ok-Some.item bytes taken (g.K.Sink.output c.items.sink) k (next_item c.next.new.self bytes k.items c.in-Ok-Some.field-0 c.in-Ok-Some.item (c.in-Ok-Some.ensures.answers bytes k.items k.stands) c.in-Ok-Some.field-0-is))

pub items-smaller-in_default : goal.items-smaller-in_default
items-smaller-in_default g c =
    let s = c.items.invariant.some in
    let room = room_left false (record { reader = c.next.new.self; session = c.items.self.session; replies = c.items.self.replies; fed = c.items.self.fed }) c.in-Ok-Some.item s.0 s.1 (g.K.Sink.output c.items.sink) (next_given c.items.self c.next.new.self c.in-Ok-Some.item s.0 s.1 (g.K.Sink.output c.items.sink) s.2 (next_item c.next.new.self s.0 s.2.items c.in-Ok-Some.field-0 c.in-Ok-Some.item (c.in-Ok-Some.ensures.answers s.0 s.2.items s.2.stands) c.in-Ok-Some.field-0-is)) in
    let less : c.answer.new.self.fed - length c.answer.new.self.replies < c.items.self.fed - length c.items.self.replies = omega (arith, c.in_default.ensures.count, c.answer.ensures.fed, room) in less

pub items-preserved-in_default : goal.items-preserved-in_default
items-preserved-in_default g c = record {
  all = λ bytes taken h. let k = c.items.invariant.all bytes taken h in c.in_default.ensures.went false bytes taken (next_given c.items.self c.next.new.self c.in-Ok-Some.item bytes taken (g.K.Sink.output c.items.sink) k (next_item c.next.new.self bytes k.items c.in-Ok-Some.field-0 c.in-Ok-Some.item (c.in-Ok-Some.ensures.answers bytes k.items k.stands) c.in-Ok-Some.field-0-is));
  some = let s = c.items.invariant.some in (s.0, s.1, c.in_default.ensures.went false s.0 s.1 (next_given c.items.self c.next.new.self c.in-Ok-Some.item s.0 s.1 (g.K.Sink.output c.items.sink) s.2 (next_item c.next.new.self s.0 s.2.items c.in-Ok-Some.field-0 c.in-Ok-Some.item (c.in-Ok-Some.ensures.answers s.0 s.2.items s.2.stands) c.in-Ok-Some.field-0-is)));
  goes_on = c.in_default.ensures.goes_on;
  later = omega (arith, c.items.invariant.later, c.answer.ensures.later);
  added = adds_more c.args.self.now.replies c.items.self.replies c.answer.new.self.replies (g.K.Sink.output c.args.sink.now) (g.K.Sink.output c.items.sink) (g.K.Sink.output c.answer.new.sink) c.items.invariant.added c.answer.ensures.added;
}

pub items-smaller : goal.items-smaller
items-smaller g c =
    let s = c.items.invariant.some in
    let room = room_left false (record { reader = c.next.new.self; session = c.items.self.session; replies = c.items.self.replies; fed = c.items.self.fed }) c.in-Ok-Some.item s.0 s.1 (g.K.Sink.output c.items.sink) (next_given c.items.self c.next.new.self c.in-Ok-Some.item s.0 s.1 (g.K.Sink.output c.items.sink) s.2 (next_item c.next.new.self s.0 s.2.items c.in-Ok-Some.field-0 c.in-Ok-Some.item (c.in-Ok-Some.ensures.answers s.0 s.2.items s.2.stands) c.in-Ok-Some.field-0-is)) in
    let less : c.answer.new.self.fed - length c.answer.new.self.replies < c.items.self.fed - length c.items.self.replies = omega (arith, c.in_default.ensures.count, c.answer.ensures.fed, room) in less

pub items-preserved : goal.items-preserved
items-preserved g c = record {
  all = λ bytes taken h. let k = c.items.invariant.all bytes taken h in c.in_default.ensures.went false bytes taken (next_given c.items.self c.next.new.self c.in-Ok-Some.item bytes taken (g.K.Sink.output c.items.sink) k (next_item c.next.new.self bytes k.items c.in-Ok-Some.field-0 c.in-Ok-Some.item (c.in-Ok-Some.ensures.answers bytes k.items k.stands) c.in-Ok-Some.field-0-is));
  some = let s = c.items.invariant.some in (s.0, s.1, c.in_default.ensures.went false s.0 s.1 (next_given c.items.self c.next.new.self c.in-Ok-Some.item s.0 s.1 (g.K.Sink.output c.items.sink) s.2 (next_item c.next.new.self s.0 s.2.items c.in-Ok-Some.field-0 c.in-Ok-Some.item (c.in-Ok-Some.ensures.answers s.0 s.2.items s.2.stands) c.in-Ok-Some.field-0-is)));
  goes_on = c.in_default.ensures.goes_on;
  later = omega (arith, c.items.invariant.later, c.answer.ensures.later);
  added = adds_more c.args.self.now.replies c.items.self.replies c.answer.new.self.replies (g.K.Sink.output c.args.sink.now) (g.K.Sink.output c.items.sink) (g.K.Sink.output c.answer.new.sink) c.items.invariant.added c.answer.ensures.added;
}

pub items-init : goal.items-init
items-init g c = record {
  all = λ bytes taken h. h;
  some = c.requires.answering;
  goes_on = c.requires.goes_on;
  later = omega arith;
  added = adds_none c.args.self.now.replies (g.K.Sink.output c.args.sink.now);
}

pub returns-in-Ok-None-clause-added : goal.returns-in-Ok-None-clause-added
returns-in-Ok-None-clause-added g c = c.items.invariant.added

pub returns-in-Err-clause-added : goal.returns-in-Err-clause-added
returns-in-Err-clause-added g c = adds_more c.args.self.now.replies c.items.self.replies c.refuse.new.self.replies (g.K.Sink.output c.args.sink.now) (g.K.Sink.output c.items.sink) (g.K.Sink.output c.refuse.new.sink) c.items.invariant.added c.refuse.ensures.added

pub returns-in-Some-clause-added : goal.returns-in-Some-clause-added
returns-in-Some-clause-added g c = adds_more c.args.self.now.replies c.items.self.replies c.answer.new.self.replies (g.K.Sink.output c.args.sink.now) (g.K.Sink.output c.items.sink) (g.K.Sink.output c.answer.new.sink) c.items.invariant.added c.answer.ensures.added
