-- Where the answering stands between two calls. Nothing public rests on it.
use Rattle.std.specs.Prelude.{◌≡◌, ◌++◌, ℕ, Bool, true, false, List, length, Some}
use Rattle.sv_io.specs.Histories.{Input, Output, IsFrontOf, Delivers}
use Rattle.sexpr_reader.specs.Reads.{Begins, FaultAfter, Waits}
use Rattle.sexpr_reader.specs.Standing.{HasGiven, GivesItem}
use Rattle.sexpr_reader.specs.declared.sexpr.Sexpr.{Sexpr}
use Rattle.sexpr_reader.specs.declared.syntax_fault.SyntaxFault.{SyntaxFault}
use Rattle.reply_text.specs.Refusals.{of_syntax}
use Rattle.smt_session.specs.Steps.{State, opened}
use Rattle.reply_text.specs.declared.error_kind.ErrorKind.{ErrorKind}
use Rattle.smt_session.specs.declared.reply.Reply.{Reply}
use Rattle.smt_session.specs.declared.answering.Answering.{Answering}
use Rattle.smt_session.specs.declared.status.Status.{Status}
use Rattle.smt_session.specs.declared.status.Status.TheVariants.{Answered, ErrorAnswered, WrongWords, ReadFailed, WriteFailed, NoMemory}
use Rattle.smt_session.specs.Runs.{IsDone, IsLogCut, IsCutAtLast, IsAnswered, IsAnsweredSoFar, IsFront}
use Rattle.smt_session.specs.Scripts.{FollowsScript, has_error, texts_of}

-- these items begin the bytes, the log answers them and was written, and the session goes on
pub record IsWritten (ended : Bool) (bytes : List ℕ) (items : List Sexpr) (session : State) (log : List Reply) (output_old output_new : Output) : Type 0 where
  pub rest : List ℕ
  pub begins : Begins ended bytes items rest
  pub follows : FollowsScript opened items log session
  pub goes_on : session.ended ≡ false
  pub took : Delivers output_old output_new (texts_of log)

-- the reader was fed these bytes, and what it gave is answered
pub record IsAnswering (ended : Bool) (a : Answering) (bytes : List ℕ) (output_old output_new : Output) : Type 0 where
  pub items : List Sexpr
  pub stands : HasGiven ended a.reader bytes items
  pub written : IsWritten ended bytes items a.session a.replies output_old output_new
  pub fed : a.fed ≡ length bytes

-- and no further item is whole
pub record AwaitsItem (a : Answering) (bytes : List ℕ) (output_old output_new : Output) : Type 0 where
  pub answering : IsAnswering false a bytes output_old output_new
  pub waits : Waits bytes answering.items

-- replies came behind those that stood, and the sink took more and kept what it had sent
pub record AddsReplies (old new : List Reply) (output_old output_new : Output) : Type 0 where
  pub late : List Reply
  pub replies : new ≡ old ++ late
  pub text : List ℕ
  pub took : output_new.taken ≡ output_old.taken ++ text
  pub sent : IsFrontOf output_old.sent output_old.taken → IsFrontOf output_old.sent output_new.sent × IsFrontOf output_new.sent output_new.taken

-- the reader gave this item, and those before it are answered
pub record IsGiven (ended : Bool) (a : Answering) (item : Sexpr) (bytes : List ℕ) (output_old output_new : Output) : Type 0 where
  pub items : List Sexpr
  pub gives : GivesItem ended a.reader bytes items item
  pub written : IsWritten ended bytes items a.session a.replies output_old output_new
  pub fed : a.fed ≡ length bytes

-- behind the items that are answered comes this fault, or there was no memory
pub record IsFaulty (ended : Bool) (a : Answering) (fault : SyntaxFault) (bytes : List ℕ) (output_old output_new : Output) : Type 0 where
  pub items : List Sexpr
  pub written : IsWritten ended bytes items a.session a.replies output_old output_new
  pub faulty : (kind : ErrorKind) → of_syntax fault ≡ Some kind → FaultAfter ended bytes items fault

-- what was answered where nothing is answered any more
abbrev pub Stops : Bool → List ℕ → Output → Output → List Reply → Status → Type 0
Stops ended bytes output_old output_new log Answered = IsDone ended bytes output_old output_new log × (has_error log ≡ false)
Stops ended bytes output_old output_new log ErrorAnswered = IsDone ended bytes output_old output_new log × (has_error log ≡ true)
Stops ended bytes output_old output_new log WrongWords = ⊥
Stops ended bytes output_old output_new log ReadFailed = ⊥
Stops ended bytes output_old output_new log WriteFailed = IsLogCut ended bytes output_old output_new log × IsCutAtLast output_old output_new log
Stops ended bytes output_old output_new log NoMemory = IsLogCut ended bytes output_old output_new log

-- what was read and answered
abbrev pub Ended : Input → Input → Output → Output → List Reply → Status → Type 0
Ended input_old input_new output_old output_new log Answered = IsAnswered input_old input_new output_old output_new log × (has_error log ≡ false)
Ended input_old input_new output_old output_new log ErrorAnswered = IsAnswered input_old input_new output_old output_new log × (has_error log ≡ true)
Ended input_old input_new output_old output_new log WrongWords = ⊥
Ended input_old input_new output_old output_new log ReadFailed = IsAnsweredSoFar input_old input_new output_old output_new log
Ended input_old input_new output_old output_new log WriteFailed = IsFront input_old input_new output_old output_new log × IsCutAtLast output_old output_new log
Ended input_old input_new output_old output_new log NoMemory = IsFront input_old input_new output_old output_new log
