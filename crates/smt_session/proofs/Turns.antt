-- What one reply more makes of what was answered and written.
use Rattle.std.proofs.Common.{◌≡◌, ◌||◌, ℕ, ◌+◌, List, [], ◌∷◌, ◌++◌, Bool, true, false, Some, refl, sym, ap, ◌∙◌, subst, length, take, append-nil, append_assoc, arith}
use Rattle.std.proofs.Math.Seq.{take-length, take-append-add}
use Rattle.sv_io.proofs.Histories.{delivers_nothing, delivers_both, gave_more}
use Rattle.sv_io.specs.Histories.{Output, Delivers, Takes}
use Rattle.sv_list.specs.Bools.{or-false}
use Rattle.sexpr_reader.specs.Reads.{Begins, FaultAfter, Ends}
use Rattle.sexpr_reader.specs.declared.sexpr.Sexpr.{Sexpr}
use Rattle.sexpr_reader.specs.declared.syntax_fault.SyntaxFault.{SyntaxFault}
use Rattle.reply_text.specs.Refusals.{of_syntax}
use Rattle.smt_session.specs.Replies.{text_of, is_error}
use Rattle.smt_session.specs.Steps.{State, opened, Steps}
use Rattle.reply_text.specs.declared.error_kind.ErrorKind.{ErrorKind}
use Rattle.smt_session.specs.declared.reply.Reply.{Reply}
use Rattle.smt_session.specs.declared.reply.Reply.TheVariants.{Error}
use Rattle.smt_session.specs.Runs.{IsDone, IsLogCut, IsCutAtLast}
use Rattle.smt_session.specs.Scripts.{FollowsScript, none, next, AnswersBytes, AnswersFront, to_end, to_exit, to_fault, so_far, all, texts_of, has_error}
use Rattle.smt_session.specs.Awaiting.{IsWritten}

follows_more : (s t u : State) (items : List Sexpr) (log : List Reply) (item : Sexpr) (r : Reply) → FollowsScript s items log t → t.ended ≡ false → Steps t item r u → FollowsScript s (items ++ item ∷ []) (log ++ r ∷ []) u
follows_more s t u items log item r (none a) e h = next s u u item r [] [] e h (none u)
follows_more s t u items log item r (next a b c i q is l goes step rest) e h = next s b u i q (is ++ item ∷ []) (l ++ r ∷ []) goes step (follows_more b t u is l item r rest e h)

texts_more : (log : List Reply) (r : Reply) → texts_of (log ++ r ∷ []) ≡ texts_of log ++ text_of r
texts_more [] r = append-nil (text_of r)
texts_more (x ∷ log) r = ap (λ (l : List ℕ). text_of x ++ l) (texts_more log r) ∙ sym (append_assoc (text_of x) (texts_of log) (text_of r))

module _ (a b c : Output) (log : List Reply) (r : Reply) (before : Delivers a b (texts_of log)) where
  took_more : Delivers b c (text_of r) → Delivers a c (texts_of (log ++ r ∷ []))
  took_more h = subst (Delivers a c) (sym (texts_more log r)) (delivers_both a b c _ _ before h)

  took_front : (k : ℕ) → c.taken ≡ b.taken ++ take k (text_of r) → c.taken ≡ a.taken ++ take (length (texts_of log) + k) (texts_of (log ++ r ∷ []))
  took_front k h = gave_more a.taken b.taken c.taken (texts_of log) (take k (text_of r)) before.took h ∙ ap (λ (l : List ℕ). a.taken ++ l) (sym (ap (λ (l : List ℕ). take (length (texts_of log) + k) l) (texts_more log r) ∙ take-append-add (texts_of log) (text_of r) k))

  sent_before : c.sent ≡ b.sent → a.sent ≡ a.taken → c.sent ≡ a.taken ++ texts_of log
  sent_before kept e = kept ∙ before.sent e ∙ before.took

  -- the reply was written up to some place, and nothing of it was sent
  reply_cut : (ended : Bool) (bytes : List ℕ) → AnswersFront ended bytes (log ++ r ∷ []) → Takes b c (text_of r) → c.sent ≡ b.sent → IsLogCut ended bytes a c (log ++ r ∷ [])
  reply_cut ended bytes right front kept = record {
    right = right;
    count = length (texts_of log) + front.count;
    took = took_front front.count front.took;
    early = log;
    late = r ∷ [];
    replies = refl;
    few = omega arith;
    sent = sent_before kept;
  }

  reply_last : c.sent ≡ b.sent → IsCutAtLast a c (log ++ r ∷ [])
  reply_last kept = record { early = log; last = r; replies = refl; sent = sent_before kept }

start : (t : Output) → IsWritten false [] [] opened [] t t
start t = record { rest = []; begins = record { lexed = refl; nested = refl }; follows = none opened; goes_on = refl; took = delivers_nothing t }

pub nothing_written : (s : State) (log : List Reply) (t : Output) → s ≡ opened → log ≡ [] → IsWritten false [] [] s log t t
nothing_written s log t new empty = subst (λ (x : State). IsWritten false [] [] x log t t) (sym new) (subst (λ (l : List Reply). IsWritten false [] [] opened l t t) (sym empty) (start t))

-- all that was answered is written
pub whole_cut : (ended : Bool) (bytes : List ℕ) (log : List Reply) (a b : Output) → AnswersFront ended bytes log → Delivers a b (texts_of log) → IsLogCut ended bytes a b log
whole_cut ended bytes log a b right took = record {
  right = right;
  count = length (texts_of log);
  took = took.took ∙ ap (λ (l : List ℕ). a.taken ++ l) (sym (take-length (texts_of log)));
  early = log;
  late = [];
  replies = sym (append-nil log);
  few = omega arith;
  sent = λ e. took.sent e ∙ took.took;
}

pub cut_here : (ended : Bool) (bytes : List ℕ) (items : List Sexpr) (s : State) (log : List Reply) (a b : Output) → IsWritten ended bytes items s log a b → IsLogCut ended bytes a b log
cut_here ended bytes items s log a b h = whole_cut ended bytes log a b (so_far items h.rest s h.begins h.follows) h.took

-- more bytes come, or the end is told
pub written_on : (ended later : Bool) (bytes more rest : List ℕ) (items : List Sexpr) (s : State) (log : List Reply) (a b : Output) → IsWritten ended bytes items s log a b → Begins later more items rest → IsWritten later more items s log a b
written_on ended later bytes more rest items s log a b h begins = record { rest = rest; begins = begins; follows = h.follows; goes_on = h.goes_on; took = h.took }

-- one item more is answered
module _ (ended : Bool) (bytes rest : List ℕ) (items : List Sexpr) (item : Sexpr) (s t : State) (log : List Reply) (r : Reply) (a b c : Output)
    (h : IsWritten ended bytes items s log a b) (begins : Begins ended bytes (items ++ item ∷ []) rest) (step : Steps s item r t) where
  pub one_more : Delivers b c (text_of r) → t.ended ≡ false → IsWritten ended bytes (items ++ item ∷ []) t (log ++ r ∷ []) a c
  one_more took goes = record { rest = rest; begins = begins; follows = follows_more opened s t items log item r h.follows h.goes_on step; goes_on = goes; took = took_more a b c log r h.took took }

  pub exit_done : Delivers b c (text_of r) → t.ended ≡ true → IsDone ended bytes a c (log ++ r ∷ [])
  exit_done took is = record { right = to_exit (items ++ item ∷ []) rest t begins (follows_more opened s t items log item r h.follows h.goes_on step) is; took = took_more a b c log r h.took took }

  pub step_cut : Takes b c (text_of r) → c.sent ≡ b.sent → IsLogCut ended bytes a c (log ++ r ∷ [])
  step_cut = reply_cut a b c log r h.took ended bytes (so_far (items ++ item ∷ []) rest t begins (follows_more opened s t items log item r h.follows h.goes_on step))

  pub step_last : c.sent ≡ b.sent → IsCutAtLast a c (log ++ r ∷ [])
  step_last = reply_last a b c log r h.took

-- a syntax fault is answered
module _ (ended : Bool) (bytes : List ℕ) (items : List Sexpr) (s : State) (log : List Reply) (fault : SyntaxFault) (kind : ErrorKind) (a b c : Output)
    (h : IsWritten ended bytes items s log a b) (faulty : FaultAfter ended bytes items fault) (is : of_syntax fault ≡ Some kind) where
  fault_right : AnswersBytes ended bytes (log ++ Error kind ∷ [])
  fault_right = to_fault items log s fault kind faulty h.follows h.goes_on is refl

  pub fault_done : Delivers b c (text_of (Error kind)) → IsDone ended bytes a c (log ++ Error kind ∷ [])
  fault_done took = record { right = fault_right; took = took_more a b c log (Error kind) h.took took }

  pub fault_cut : Takes b c (text_of (Error kind)) → c.sent ≡ b.sent → IsLogCut ended bytes a c (log ++ Error kind ∷ [])
  fault_cut = reply_cut a b c log (Error kind) h.took ended bytes (all fault_right)

  pub fault_last : c.sent ≡ b.sent → IsCutAtLast a c (log ++ Error kind ∷ [])
  fault_last = reply_last a b c log (Error kind) h.took

pub end_done : (ended : Bool) (bytes : List ℕ) (items : List Sexpr) (s : State) (log : List Reply) (a b : Output) → IsWritten ended bytes items s log a b → Ends bytes items → IsDone true bytes a b log
end_done ended bytes items s log a b h ends = record { right = to_end items s refl ends h.follows; took = h.took }

-- there is a reply to each item
pub replies_count : (s t : State) (items : List Sexpr) (log : List Reply) → FollowsScript s items log t → length log ≡ length items
replies_count s t items log (none a) = refl
replies_count s t items log (next a b c i q is l goes step rest) = omega (arith, replies_count b t is l rest)

or_assoc : (a b c : Bool) → (a || (b || c)) ≡ ((a || b) || c)
or_assoc true b c = refl
or_assoc false b c = refl

one_error : (log : List Reply) (r : Reply) → has_error (log ++ r ∷ []) ≡ (has_error log || is_error r)
one_error [] r = or-false (is_error r)
one_error (x ∷ log) r = ap (λ (b : Bool). is_error x || b) (one_error log r) ∙ or_assoc (is_error x) (has_error log) (is_error r)

-- whether there is an error once there is one reply more
pub error_more : (log new : List Reply) (r : Reply) → new ≡ log ++ r ∷ [] → has_error new ≡ (has_error log || is_error r)
error_more log new r is = ap has_error is ∙ one_error log r
