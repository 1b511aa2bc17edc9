use Rattle.std.proofs.Common.{◌≡◌, ◌==◌, ℕ, length, ◌++◌, ◌∙◌, [], false, true, refl, sym, ap, take, append-nil, arith, rules}
use Rattle.std.proofs.KnownBytes.{Consumes-nil, Consumes-trans}
use Rattle.std.specs.Io.KnownBytes.{IsAtEnd}
use Rattle.sv_io.proofs.Histories.{gave_more, gave_none}
use Rattle.smt_session.proofs.Progress.{stops_ended, not_unread, adds_none, prompt_of, prompt_here, left_kept, left_less, no_end, taken_short, taken_within}
use Rattle.smt_session.proofs.top.answer_source.Goals as goal

pub pieces-init : goal.pieces-init
pieces-init g c = record {
  bytes = [];
  gave = sym (append-nil (g.S.Source.input c.args.source.now).given);
  used = Consumes-nil (g.S.Source.left c.args.source.now);
  waits = c.requires.waits;
  openings = refl;
  is_open = c.requires.open;
  reads = c.requires.reads;
  writes = c.requires.writes;
  read_later = omega arith;
  written_later = omega arith;
  astray = refl;
}

pub returns-then-count-eq0-clause-went : goal.returns-then-count-eq0-clause-went
returns-then-count-eq0-clause-went g c =
    let r = c.pieces.invariant in
    stops_ended true r.bytes (g.S.Source.input c.args.source.now) (g.S.Source.input c.read.new.self) (g.K.Sink.output c.args.sink.now) (g.K.Sink.output c.answer_rest.new.sink) c.answer_rest.new.self.replies c.answer_rest.result
    (record { gave = gave_none (g.S.Source.input c.args.source.now).given (g.S.Source.input c.pieces.source).given (g.S.Source.input c.read.new.self).given r.bytes c.read.new.buffer c.in-Ok.count r.gave c.in-Ok.ensures.given c.if-count-eq0.true; end = λ e. c.in-Ok.ensures.at_end ∙ ap (λ (n : ℕ). n == 0) c.if-count-eq0.true })
    (c.answer_rest.ensures.went r.bytes (g.K.Sink.output c.args.sink.now) r.waits.answering)

pub returns-then-count-eq0-clause-unread : goal.returns-then-count-eq0-clause-unread
returns-then-count-eq0-clause-unread g c = λ e.
    let r = c.pieces.invariant in
    absurd (not_unread true r.bytes (g.K.Sink.output c.args.sink.now) (g.K.Sink.output c.answer_rest.new.sink) c.answer_rest.new.self.replies c.answer_rest.result (c.answer_rest.ensures.went r.bytes (g.K.Sink.output c.args.sink.now) r.waits.answering) e)

pub returns-then-count-eq0-clause-left : goal.returns-then-count-eq0-clause-left
returns-then-count-eq0-clause-left g c =
    let r = c.pieces.invariant in
    let end : IsAtEnd (g.S.Source.left c.read.new.self) = search rules in
    left_less r.bytes (take c.in-Ok.count c.read.new.buffer) (g.S.Source.input c.args.source.now) (g.S.Source.input c.pieces.source) (g.S.Source.input c.read.new.self) (g.S.Source.left c.args.source.now) (g.S.Source.left c.pieces.source) (g.S.Source.left c.read.new.self) r.gave r.used c.in-Ok.ensures.given c.in-Ok.ensures.bytes.0 (λ e. end)

pub returns-in-Err-feed-clause-went : goal.returns-in-Err-feed-clause-went
returns-in-Err-feed-clause-went g c =
    let r = c.pieces.invariant in record {
      ended = false;
      bytes = (r.bytes ++ take c.in-Ok.count c.read.new.buffer);
      read = record { gave = gave_more (g.S.Source.input c.args.source.now).given (g.S.Source.input c.pieces.source).given (g.S.Source.input c.read.new.self).given r.bytes (take c.in-Ok.count c.read.new.buffer) r.gave c.in-Ok.ensures.given; end = λ e. cc };
      cut = c.in-Err-feed.ensures.err r.bytes (g.K.Sink.output c.args.sink.now) (g.K.Sink.output c.pieces.sink) r.waits.answering;
    }

pub returns-in-Err-feed-clause-left : goal.returns-in-Err-feed-clause-left
returns-in-Err-feed-clause-left g c =
    let r = c.pieces.invariant in
    let more : (g.S.Source.input c.read.new.self).at_end ≡ false = search rules in
    left_less r.bytes (take c.in-Ok.count c.read.new.buffer) (g.S.Source.input c.args.source.now) (g.S.Source.input c.pieces.source) (g.S.Source.input c.read.new.self) (g.S.Source.left c.args.source.now) (g.S.Source.left c.pieces.source) (g.S.Source.left c.read.new.self) r.gave r.used c.in-Ok.ensures.given c.in-Ok.ensures.bytes.0 (no_end (g.S.Source.input c.read.new.self).at_end more)

pub answer_whole-requires-clause-answering : goal.answer_whole-requires-clause-answering
answer_whole-requires-clause-answering g c κs within = let r = c.pieces.invariant in ((r.bytes ++ take c.in-Ok.count c.read.new.buffer), (g.K.Sink.output c.args.sink.now), (c.in-Ok-feed.ensures.ok r.bytes (g.K.Sink.output c.args.sink.now) (g.K.Sink.output c.pieces.sink) r.waits.answering))

pub pieces-preserved : goal.pieces-preserved
pieces-preserved g c =
    let r = c.pieces.invariant in
    let reads : g.S.Source.goes_on c.read.new.self ≡ true = search rules in record {
      bytes = (r.bytes ++ take c.in-Ok.count c.read.new.buffer);
      gave = gave_more (g.S.Source.input c.args.source.now).given (g.S.Source.input c.pieces.source).given (g.S.Source.input c.read.new.self).given r.bytes (take c.in-Ok.count c.read.new.buffer) r.gave c.in-Ok.ensures.given;
      used = Consumes-trans (g.S.Source.left c.args.source.now) (g.S.Source.left c.pieces.source) (g.S.Source.left c.read.new.self) r.bytes (take c.in-Ok.count c.read.new.buffer) r.used c.in-Ok.ensures.bytes.0;
      waits = c.in_default.ensures.went (r.bytes ++ take c.in-Ok.count c.read.new.buffer) (g.K.Sink.output c.args.sink.now) (c.in-Ok-feed.ensures.ok r.bytes (g.K.Sink.output c.args.sink.now) (g.K.Sink.output c.pieces.sink) r.waits.answering);
      openings = c.read.ensures.openings ∙ r.openings;
      is_open = c.read.ensures.open;
      reads = reads;
      writes = c.in_default.ensures.goes_on;
      read_later = omega (arith, r.read_later, c.read.ensures.cause.later);
      written_later = omega (arith, r.written_later, c.answer_whole.ensures.later);
      astray = c.read.ensures.astray ∙ r.astray;
    }

pub returns-in-Some-clause-went : goal.returns-in-Some-clause-went
returns-in-Some-clause-went g c =
    let r = c.pieces.invariant in
    let stops = c.in-Some.ensures.went (r.bytes ++ take c.in-Ok.count c.read.new.buffer) (g.K.Sink.output c.args.sink.now) (c.in-Ok-feed.ensures.ok r.bytes (g.K.Sink.output c.args.sink.now) (g.K.Sink.output c.pieces.sink) r.waits.answering) in
    stops_ended false (r.bytes ++ take c.in-Ok.count c.read.new.buffer) (g.S.Source.input c.args.source.now) (g.S.Source.input c.read.new.self) (g.K.Sink.output c.args.sink.now) (g.K.Sink.output c.answer_whole.new.sink) c.answer_whole.new.self.replies c.in-Some.status
    (record { gave = gave_more (g.S.Source.input c.args.source.now).given (g.S.Source.input c.pieces.source).given (g.S.Source.input c.read.new.self).given r.bytes (take c.in-Ok.count c.read.new.buffer) r.gave c.in-Ok.ensures.given; end = λ e. cc })
    stops

pub returns-in-Some-clause-left : goal.returns-in-Some-clause-left
returns-in-Some-clause-left g c =
    let r = c.pieces.invariant in
    let more : (g.S.Source.input c.read.new.self).at_end ≡ false = search rules in
    left_less r.bytes (take c.in-Ok.count c.read.new.buffer) (g.S.Source.input c.args.source.now) (g.S.Source.input c.pieces.source) (g.S.Source.input c.read.new.self) (g.S.Source.left c.args.source.now) (g.S.Source.left c.pieces.source) (g.S.Source.left c.read.new.self) r.gave r.used c.in-Ok.ensures.given c.in-Ok.ensures.bytes.0 (no_end (g.S.Source.input c.read.new.self).at_end more)

pub returns-in-Some-clause-unread : goal.returns-in-Some-clause-unread
returns-in-Some-clause-unread g c = λ e.
    let r = c.pieces.invariant in
    absurd (not_unread false (r.bytes ++ take c.in-Ok.count c.read.new.buffer) (g.K.Sink.output c.args.sink.now) (g.K.Sink.output c.answer_whole.new.sink) c.answer_whole.new.self.replies c.in-Some.status (c.in-Some.ensures.went (r.bytes ++ take c.in-Ok.count c.read.new.buffer) (g.K.Sink.output c.args.sink.now) (c.in-Ok-feed.ensures.ok r.bytes (g.K.Sink.output c.args.sink.now) (g.K.Sink.output c.pieces.sink) r.waits.answering)) e)

pub returns-in-Err-clause-went : goal.returns-in-Err-clause-went
returns-in-Err-clause-went g c =
    let r = c.pieces.invariant in
    let w = r.waits.answering in record {
      bytes = r.bytes;
      gave = c.in-Err.ensures.given ∙ r.gave;
      right = record { items = w.items; session = c.pieces.answering.session; waits = r.waits.waits; follows = w.written.follows; goes_on = w.written.goes_on };
      took = w.written.took;
    }

pub returns-in-Err-clause-left : goal.returns-in-Err-clause-left
returns-in-Err-clause-left g c =
    let r = c.pieces.invariant in
    left_kept r.bytes (g.S.Source.input c.args.source.now) (g.S.Source.input c.pieces.source) (g.S.Source.input c.read.new.self) (g.S.Source.left c.args.source.now) (g.S.Source.left c.pieces.source) (g.S.Source.left c.read.new.self) r.gave r.used c.in-Err.ensures.given c.in-Err.ensures.bytes c.in-Err.ensures.at_end

pub returns-in-Err-clause-prompt : goal.returns-in-Err-clause-prompt
returns-in-Err-clause-prompt g c =
    let r = c.pieces.invariant in
    prompt_here r.bytes (g.S.Source.input c.args.source.now) (g.S.Source.input c.pieces.source) (g.S.Source.input c.read.new.self) (g.K.Sink.output c.args.sink.now) (g.K.Sink.output c.pieces.sink) c.pieces.answering c.pieces.answering.replies r.gave c.in-Err.ensures.given r.waits refl

pub returns-then-count-eq0-clause-prompt : goal.returns-then-count-eq0-clause-prompt
returns-then-count-eq0-clause-prompt g c =
    let r = c.pieces.invariant in
    let size : length c.read.new.buffer ≡ 4096 = search rules in
    prompt_of r.bytes (take c.in-Ok.count c.read.new.buffer) (g.S.Source.input c.args.source.now) (g.S.Source.input c.read.new.self) (g.K.Sink.output c.args.sink.now) (g.K.Sink.output c.pieces.sink) (g.K.Sink.output c.answer_rest.new.sink) c.pieces.answering c.pieces.answering.replies c.answer_rest.new.self.replies c.answer_rest.new.self.replies
    (gave_more (g.S.Source.input c.args.source.now).given (g.S.Source.input c.pieces.source).given (g.S.Source.input c.read.new.self).given r.bytes (take c.in-Ok.count c.read.new.buffer) r.gave c.in-Ok.ensures.given) (taken_short c.in-Ok.count 4096 c.read.new.buffer size) (taken_within c.in-Ok.count (g.S.Source.input c.read.new.self).last c.read.new.buffer c.in-Ok.ensures.last) r.waits refl c.answer_rest.ensures.added refl

pub returns-in-Err-feed-clause-prompt : goal.returns-in-Err-feed-clause-prompt
returns-in-Err-feed-clause-prompt g c =
    let r = c.pieces.invariant in
    let size : length c.read.new.buffer ≡ 4096 = search rules in
    prompt_of r.bytes (take c.in-Ok.count c.read.new.buffer) (g.S.Source.input c.args.source.now) (g.S.Source.input c.read.new.self) (g.K.Sink.output c.args.sink.now) (g.K.Sink.output c.pieces.sink) (g.K.Sink.output c.pieces.sink) c.pieces.answering c.feed.new.self.replies c.feed.new.self.replies c.feed.new.self.replies
    (gave_more (g.S.Source.input c.args.source.now).given (g.S.Source.input c.pieces.source).given (g.S.Source.input c.read.new.self).given r.bytes (take c.in-Ok.count c.read.new.buffer) r.gave c.in-Ok.ensures.given) (taken_short c.in-Ok.count 4096 c.read.new.buffer size) (taken_within c.in-Ok.count (g.S.Source.input c.read.new.self).last c.read.new.buffer c.in-Ok.ensures.last) r.waits c.feed.ensures.replies (adds_none c.feed.new.self.replies (g.K.Sink.output c.pieces.sink)) refl

pub returns-in-Some-clause-prompt : goal.returns-in-Some-clause-prompt
returns-in-Some-clause-prompt g c =
    let r = c.pieces.invariant in
    let size : length c.read.new.buffer ≡ 4096 = search rules in
    prompt_of r.bytes (take c.in-Ok.count c.read.new.buffer) (g.S.Source.input c.args.source.now) (g.S.Source.input c.read.new.self) (g.K.Sink.output c.args.sink.now) (g.K.Sink.output c.pieces.sink) (g.K.Sink.output c.answer_whole.new.sink) c.pieces.answering c.feed.new.self.replies c.answer_whole.new.self.replies c.answer_whole.new.self.replies
    (gave_more (g.S.Source.input c.args.source.now).given (g.S.Source.input c.pieces.source).given (g.S.Source.input c.read.new.self).given r.bytes (take c.in-Ok.count c.read.new.buffer) r.gave c.in-Ok.ensures.given) (taken_short c.in-Ok.count 4096 c.read.new.buffer size) (taken_within c.in-Ok.count (g.S.Source.input c.read.new.self).last c.read.new.buffer c.in-Ok.ensures.last) r.waits c.feed.ensures.replies c.answer_whole.ensures.added refl
