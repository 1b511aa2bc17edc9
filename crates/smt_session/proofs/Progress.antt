-- What the calls of the reader, the session and the sink make of where the answering stands.
use Rattle.std.proofs.Common.{◌≡◌, ℕ, ◌+◌, ◌≤◌, List, [], ◌∷◌, ◌++◌, Bool, true, false, Some, None, Ok, Err, refl, sym, ap, ◌∙◌, subst, length, take, append-nil, append_assoc, arith, length-append, length-take}
use Rattle.std.proofs.KnownBytes.{Consumes-trans, Consumes-kept}
use Rattle.std.proofs.lemmas.Bool.{false≢true}
use Rattle.std.specs.declared.option.Option.{Option}
use Rattle.std.specs.Io.KnownBytes.{Consumes, IsAtEnd, Keeps}
use Rattle.sv_io.proofs.Histories.{front_all, gave_more, sent_on}
use Rattle.sv_io.specs.Histories.{Input, Output, IsRead, Delivers, Takes, TellsLeft}
use Rattle.sexpr_reader.specs.Reads.{Begins, FaultAfter, Ends}
use Rattle.sexpr_reader.specs.Standing.{AnswersNext as Next, AnswersEnd, GivesItem}
use Rattle.sexpr_reader.specs.declared.reader.Reader.{Reader}
use Rattle.sexpr_reader.specs.declared.sexpr.Sexpr.{Sexpr}
use Rattle.sexpr_reader.specs.declared.syntax_fault.SyntaxFault.{SyntaxFault}
use Rattle.sexpr_reader.specs.declared.syntax_fault.SyntaxFault.TheVariants as f
use Rattle.reply_text.specs.Refusals.{of_syntax}
use Rattle.smt_session.specs.Replies.{text_of}
use Rattle.smt_session.specs.Steps.{State, opened, Steps}
use Rattle.reply_text.specs.declared.error_kind.ErrorKind.{ErrorKind}
use Rattle.smt_session.specs.declared.reply.Reply.{Reply}
use Rattle.smt_session.specs.declared.reply.Reply.TheVariants.{Error}
use Rattle.smt_session.specs.declared.answering.Answering.{Answering}
use Rattle.smt_session.specs.declared.status.Status.{Status}
use Rattle.smt_session.specs.declared.status.Status.TheVariants.{Answered, ErrorAnswered, WrongWords, ReadFailed, WriteFailed, NoMemory}
use Rattle.smt_session.specs.Runs.{IsAnswered, IsDone, IsLogCut, IsCutAtLast, IsFront, IsPrompt}
use Rattle.smt_session.specs.Scripts.{all, so_far, texts_of}
use Rattle.smt_session.specs.Awaiting.{AddsReplies, IsWritten, IsAnswering, AwaitsItem, IsGiven, IsFaulty, Stops, Ended}
use Rattle.smt_session.proofs.Counts.{begins_within}
use Rattle.smt_session.proofs.Turns.{written_on, cut_here, whole_cut, one_more, exit_done, step_cut, step_last, fault_done, fault_cut, fault_last, replies_count}

-- the place for one reply more that an item has
pub room_left : (ended : Bool) (a : Answering) (item : Sexpr) (bytes : List ℕ) (t0 t : Output) → IsGiven ended a item bytes t0 t → length a.replies + 1 ≤ a.fed
room_left ended a item bytes t0 t h = omega (arith, h.fed, begins_within ended bytes (h.items ++ item ∷ []) h.gives.rest h.gives.begins, replies_count opened a.session h.items a.replies h.written.follows, length-append h.items (item ∷ []))

-- nothing more was answered
pub given_here : (ended : Bool) (a : Answering) (item : Sexpr) (bytes : List ℕ) (t0 t : Output) → IsGiven ended a item bytes t0 t → IsLogCut ended bytes t0 t a.replies
given_here ended a item bytes t0 t h = cut_here ended bytes h.items a.session a.replies t0 t h.written

pub faulty_here : (ended : Bool) (a : Answering) (fault : SyntaxFault) (bytes : List ℕ) (t0 t : Output) → IsFaulty ended a fault bytes t0 t → IsLogCut ended bytes t0 t a.replies
faulty_here ended a fault bytes t0 t h = cut_here ended bytes h.items a.session a.replies t0 t h.written

-- the item is answered
module _ (ended : Bool) (a : Answering) (item : Sexpr) (bytes : List ℕ) (t0 t t2 : Output) (h : IsGiven ended a item bytes t0 t) (s : State) (r : Reply) (log : List Reply) (step : Steps a.session item r s) (whole : log ≡ a.replies ++ r ∷ []) where
  pub given_more : Delivers t t2 (text_of r) → s.ended ≡ false → IsWritten ended bytes (h.items ++ item ∷ []) s log t0 t2
  given_more took goes = subst (λ (l : List Reply). IsWritten ended bytes (h.items ++ item ∷ []) s l t0 t2) (sym whole) (one_more ended bytes h.gives.rest h.items item a.session s a.replies r t0 t t2 h.written h.gives.begins step took goes)

  pub given_exit : Delivers t t2 (text_of r) → s.ended ≡ true → IsDone ended bytes t0 t2 log
  given_exit took goes = subst (λ (l : List Reply). IsDone ended bytes t0 t2 l) (sym whole) (exit_done ended bytes h.gives.rest h.items item a.session s a.replies r t0 t t2 h.written h.gives.begins step took goes)

  pub given_cut : Takes t t2 (text_of r) → t2.sent ≡ t.sent → IsLogCut ended bytes t0 t2 log
  given_cut front kept = subst (λ (l : List Reply). IsLogCut ended bytes t0 t2 l) (sym whole) (step_cut ended bytes h.gives.rest h.items item a.session s a.replies r t0 t t2 h.written h.gives.begins step front kept)

  pub given_last : t2.sent ≡ t.sent → IsCutAtLast t0 t2 log
  given_last kept = subst (λ (l : List Reply). IsCutAtLast t0 t2 l) (sym whole) (step_last ended bytes h.gives.rest h.items item a.session s a.replies r t0 t t2 h.written h.gives.begins step kept)

-- the fault is answered
module _ (ended : Bool) (a : Answering) (fault : SyntaxFault) (bytes : List ℕ) (t0 t t2 : Output) (h : IsFaulty ended a fault bytes t0 t) (kind : ErrorKind) (log : List Reply) (told : of_syntax fault ≡ Some kind) (whole : log ≡ a.replies ++ Error kind ∷ []) where
  pub faulty_done : Delivers t t2 (text_of (Error kind)) → IsDone ended bytes t0 t2 log
  faulty_done took = subst (λ (l : List Reply). IsDone ended bytes t0 t2 l) (sym whole) (fault_done ended bytes h.items a.session a.replies fault kind t0 t t2 h.written (h.faulty kind told) told took)

  pub faulty_cut : Takes t t2 (text_of (Error kind)) → t2.sent ≡ t.sent → IsLogCut ended bytes t0 t2 log
  faulty_cut front kept = subst (λ (l : List Reply). IsLogCut ended bytes t0 t2 l) (sym whole) (fault_cut ended bytes h.items a.session a.replies fault kind t0 t t2 h.written (h.faulty kind told) told front kept)

  pub faulty_last : t2.sent ≡ t.sent → IsCutAtLast t0 t2 log
  faulty_last kept = subst (λ (l : List Reply). IsCutAtLast t0 t2 l) (sym whole) (fault_last ended bytes h.items a.session a.replies fault kind t0 t t2 h.written (h.faulty kind told) told kept)

-- a fault that has an error is the first one
pub next_fault : (r : Reader) (bytes : List ℕ) (given : List Sexpr) (fault : SyntaxFault) (kind : ErrorKind) → Next r bytes given (Err fault) → of_syntax fault ≡ Some kind → FaultAfter false bytes given fault
next_fault r bytes given (f.Token place) kind h told = h.1
next_fault r bytes given (f.Close place) kind h told = h.1
next_fault r bytes given (f.Depth place) kind h told = h.1
next_fault r bytes given (f.Literal place) kind h told = h.1
next_fault r bytes given f.Incomplete kind h told = h.1
next_fault r bytes given (f.Memory e) kind h told = cc

pub end_fault : (ended : Bool) (r : Reader) (bytes : List ℕ) (given : List Sexpr) (fault : SyntaxFault) (kind : ErrorKind) → AnswersEnd ended r bytes given (Err fault) → of_syntax fault ≡ Some kind → FaultAfter true bytes given fault
end_fault ended r bytes given (f.Token place) kind h told = h.1
end_fault ended r bytes given (f.Close place) kind h told = h.1
end_fault ended r bytes given (f.Depth place) kind h told = h.1
end_fault ended r bytes given (f.Literal place) kind h told = h.1
end_fault ended r bytes given f.Incomplete kind h told = h.1
end_fault ended r bytes given (f.Memory e) kind h told = cc

-- what begins bytes begins them where they are all
pub begins_all : (bytes : List ℕ) (items : List Sexpr) → ((rest : List ℕ) → Begins false bytes items rest → Begins true (bytes ++ []) items (rest ++ [])) → (ended : Bool) (rest : List ℕ) → Begins ended bytes items rest → Begins true bytes items rest
begins_all bytes items more true rest h = h
begins_all bytes items more false rest h = subst (λ (l : List ℕ). Begins true l items rest) (append-nil bytes) (subst (λ (l : List ℕ). Begins true (bytes ++ []) items l) (append-nil rest) (more rest h))

-- all of it, up to its end
done_cut : (ended : Bool) (bytes : List ℕ) (t0 t : Output) (log : List Reply) → IsDone ended bytes t0 t log → IsLogCut ended bytes t0 t log
done_cut ended bytes t0 t log h = whole_cut ended bytes log t0 t (all h.right) h.took

answered_front : (l0 l : Input) (t0 t : Output) (log : List Reply) → IsAnswered l0 l t0 t log → IsFront l0 l t0 t log
answered_front l0 l t0 t log h = record { ended = h.ended; bytes = h.bytes; read = h.read; cut = done_cut h.ended h.bytes t0 t log h.done }

-- whatever the status, the log is right so far
pub front_of : (l0 l : Input) (t0 t : Output) (log : List Reply) (s : Status) → Ended l0 l t0 t log s → IsFront l0 l t0 t log
front_of l0 l t0 t log Answered h = answered_front l0 l t0 t log h.0
front_of l0 l t0 t log ErrorAnswered h = answered_front l0 l t0 t log h.0
front_of l0 l t0 t log WrongWords h = absurd h
front_of l0 l t0 t log ReadFailed h = record {
  ended = false;
  bytes = h.bytes;
  read = record { gave = h.gave; end = λ e. cc };
  cut = whole_cut false h.bytes log t0 t (so_far h.right.items h.right.waits.rest h.right.session h.right.waits.reads.begins h.right.follows) h.took;
}
front_of l0 l t0 t log WriteFailed h = h.0
front_of l0 l t0 t log NoMemory h = h

-- what was answered of what was read
pub stops_ended : (ended : Bool) (bytes : List ℕ) (l0 l : Input) (t0 t : Output) (log : List Reply) (s : Status) → IsRead ended l0 l bytes → Stops ended bytes t0 t log s → Ended l0 l t0 t log s
stops_ended ended bytes l0 l t0 t log Answered read h = (record { ended = ended; bytes = bytes; read = read; done = h.0 }, h.1)
stops_ended ended bytes l0 l t0 t log ErrorAnswered read h = (record { ended = ended; bytes = bytes; read = read; done = h.0 }, h.1)
stops_ended ended bytes l0 l t0 t log WrongWords read h = absurd h
stops_ended ended bytes l0 l t0 t log ReadFailed read h = absurd h
stops_ended ended bytes l0 l t0 t log WriteFailed read h = (record { ended = ended; bytes = bytes; read = read; cut = h.0 }, h.1)
stops_ended ended bytes l0 l t0 t log NoMemory read h = record { ended = ended; bytes = bytes; read = read; cut = h }

pub not_unread : (ended : Bool) (bytes : List ℕ) (t0 t : Output) (log : List Reply) (s : Status) → Stops ended bytes t0 t log s → s ≡ ReadFailed → ⊥
not_unread ended bytes t0 t log s h is = subst (Stops ended bytes t0 t log) is h

-- what the reader gave, where it is known
pub next_item : (r : Reader) (bytes : List ℕ) (given : List Sexpr) (found : Option Sexpr) (item : Sexpr) → Next r bytes given (Ok found) → found ≡ Some item → GivesItem false r bytes given item
next_item r bytes given found item h is = subst (λ (x : Option Sexpr). Next r bytes given (Ok x)) is h

pub next_none : (r : Reader) (bytes : List ℕ) (given : List Sexpr) (found : Option Sexpr) → Next r bytes given (Ok found) → found ≡ None → Next r bytes given (Ok None)
next_none r bytes given found h is = subst (λ (x : Option Sexpr). Next r bytes given (Ok x)) is h

pub end_item : (ended : Bool) (r : Reader) (bytes : List ℕ) (given : List Sexpr) (found : Option Sexpr) (item : Sexpr) → AnswersEnd ended r bytes given (Ok found) → found ≡ Some item → GivesItem true r bytes given item
end_item ended r bytes given found item h is = subst (λ (x : Option Sexpr). AnswersEnd ended r bytes given (Ok x)) is h

pub end_none : (ended : Bool) (r : Reader) (bytes : List ℕ) (given : List Sexpr) (found : Option Sexpr) → AnswersEnd ended r bytes given (Ok found) → found ≡ None → Ends bytes given
end_none ended r bytes given found h is = (subst (λ (x : Option Sexpr). AnswersEnd ended r bytes given (Ok x)) is h).1

-- the reader gave an item more
pub next_given : (a : Answering) (r : Reader) (item : Sexpr) (bytes : List ℕ) (t0 t : Output) (k : IsAnswering false a bytes t0 t) → GivesItem false r bytes k.items item → IsGiven false (record { reader = r; session = a.session; replies = a.replies; fed = a.fed }) item bytes t0 t
next_given a r item bytes t0 t k gives = record { items = k.items; gives = gives; written = k.written; fed = k.fed }

pub end_given : (ended : Bool) (a : Answering) (r : Reader) (item : Sexpr) (bytes : List ℕ) (t0 t : Output) (k : IsAnswering ended a bytes t0 t) → ((rest : List ℕ) → Begins false bytes k.items rest → Begins true (bytes ++ []) k.items (rest ++ [])) → GivesItem true r bytes k.items item → IsGiven true (record { reader = r; session = a.session; replies = a.replies; fed = a.fed }) item bytes t0 t
end_given ended a r item bytes t0 t k more gives = record { items = k.items; gives = gives; written = written_on ended true bytes bytes k.written.rest k.items a.session a.replies t0 t k.written (begins_all bytes k.items more ended k.written.rest k.written.begins); fed = k.fed }

-- and a fault
pub next_faulty : (a : Answering) (r : Reader) (fault : SyntaxFault) (bytes : List ℕ) (t0 t : Output) (k : IsAnswering false a bytes t0 t) → Next r bytes k.items (Err fault) → IsFaulty false (record { reader = r; session = a.session; replies = a.replies; fed = a.fed }) fault bytes t0 t
next_faulty a r fault bytes t0 t k h = record { items = k.items; written = k.written; faulty = λ kind told. next_fault r bytes k.items fault kind h told }

pub end_faulty : (ended : Bool) (a : Answering) (r : Reader) (fault : SyntaxFault) (bytes : List ℕ) (t0 t : Output) (k : IsAnswering ended a bytes t0 t) → ((rest : List ℕ) → Begins false bytes k.items rest → Begins true (bytes ++ []) k.items (rest ++ [])) → AnswersEnd ended r bytes k.items (Err fault) → IsFaulty true (record { reader = r; session = a.session; replies = a.replies; fed = a.fed }) fault bytes t0 t
end_faulty ended a r fault bytes t0 t k more h = record { items = k.items; written = written_on ended true bytes bytes k.written.rest k.items a.session a.replies t0 t k.written (begins_all bytes k.items more ended k.written.rest k.written.begins); faulty = λ kind told. end_fault ended r bytes k.items fault kind h told }

-- what was added
pub adds_none : (log : List Reply) (t : Output) → AddsReplies log log t t
adds_none log t = record { late = []; replies = sym (append-nil log); text = []; took = sym (append-nil t.taken); sent = λ front. (front_all t.sent, front) }

pub adds_one : (log new : List Reply) (r : Reply) (text : List ℕ) (t u : Output) → new ≡ log ++ r ∷ [] → Takes t u text → AddsReplies log new t u
adds_one log new r text t u is front = record { late = r ∷ []; replies = is; text = take front.count text; took = front.took; sent = sent_on t u text front }

pub adds_more : (a b c : List Reply) (t u v : Output) → AddsReplies a b t u → AddsReplies b c u v → AddsReplies a c t v
adds_more a b c t u v h k = record {
  late = h.late ++ k.late;
  replies = k.replies ∙ ap (λ (l : List Reply). l ++ k.late) h.replies ∙ append_assoc a h.late k.late;
  text = h.text ++ k.text;
  took = gave_more t.taken u.taken v.taken h.text k.text h.took k.took;
  sent = λ front.
      let first = h.sent front in
      let second = k.sent first.1 in
      ((first.0.0 ++ second.0.0, gave_more t.sent u.sent v.sent first.0.0 second.0.0 first.0.1 second.0.1), second.1);
}

-- what was read last, and what was whole before it
pub prompt_of : (before piece : List ℕ) (l0 l : Input) (t0 u t : Output) (a : Answering) (first last log : List Reply) → l.given ≡ l0.given ++ (before ++ piece) → length piece ≤ 4096 → length piece ≤ l.last → AwaitsItem a before t0 u → first ≡ a.replies → AddsReplies first last u t → log ≡ last → IsPrompt l0 l t0 t log
prompt_of before piece l0 l t0 u t a first last log gave short within w same added is =
    let k = w.answering in record {
      before = before;
      piece = piece;
      gave = gave;
      short = short;
      read_last = within;
      early = a.replies;
      late = added.late;
      replies = is ∙ added.replies ∙ ap (λ (x : List Reply). x ++ added.late) same;
      right = record { items = k.items; session = a.session; waits = w.waits; follows = k.written.follows; goes_on = k.written.goes_on };
      text = added.text;
      took = gave_more t0.taken u.taken t.taken (texts_of a.replies) added.text k.written.took.took added.took;
      sent = λ e.
          let all = k.written.took.sent e in
          let front = (added.sent ([], sym all ∙ sym (append-nil u.sent))).0 in
          (front.0, front.1 ∙ ap (λ (x : List ℕ). x ++ front.0) (all ∙ k.written.took.took));
    }

pub prompt_here : (before : List ℕ) (l0 l1 l : Input) (t0 t : Output) (a : Answering) (log : List Reply) → l1.given ≡ l0.given ++ before → l.given ≡ l1.given → AwaitsItem a before t0 t → log ≡ a.replies → IsPrompt l0 l t0 t log
prompt_here before l0 l1 l t0 t a log gave kept w is =
    prompt_of before [] l0 l t0 t t a a.replies a.replies log (kept ∙ gave ∙ ap (λ (x : List ℕ). l0.given ++ x) (sym (append-nil before))) (omega arith) (omega arith) w refl (adds_none a.replies t) is

-- what was left is told, behind a read that failed, and behind another one
pub no_end : {P : Type 0} (end : Bool) → end ≡ false → end ≡ true → P
no_end end is e = absurd (false≢true (sym is ∙ e))

pub left_kept : (bytes : List ℕ) (l0 l1 l : Input) (x y z : Option (List ℕ)) → l1.given ≡ l0.given ++ bytes → Consumes x y bytes → l.given ≡ l1.given → Keeps y z → l.at_end ≡ false → TellsLeft l0 l x z
left_kept bytes l0 l1 l x y z gave used kept stays more = record { bytes = bytes; gave = kept ∙ gave; consumed = Consumes-kept x y z bytes used stays; end = λ _ e. no_end l.at_end more e }

pub left_less : (bytes piece : List ℕ) (l0 l1 l : Input) (x y z : Option (List ℕ)) → l1.given ≡ l0.given ++ bytes → Consumes x y bytes → l.given ≡ l1.given ++ piece → Consumes y z piece → (l.at_end ≡ true → IsAtEnd z) → TellsLeft l0 l x z
left_less bytes piece l0 l1 l x y z gave used more less end = record { bytes = bytes ++ piece; gave = gave_more l0.given l1.given l.given bytes piece gave more; consumed = Consumes-trans x y z bytes piece used less; end = λ _ e. end e }

-- the front of a buffer isn't longer
pub taken_short : (n m : ℕ) (buffer : List ℕ) → length buffer ≡ m → length (take n buffer) ≤ m
taken_short n m buffer is = omega (arith, length-take n buffer, is)

pub taken_within : (n m : ℕ) (buffer : List ℕ) → m ≡ n → length (take n buffer) ≤ m
taken_within n m buffer is = omega (arith, is, length-take n buffer)
