-- What a run answers and writes where the words ask for a generated script.
use Rattle.std.specs.Prelude.{◌≡◌, ◌⊎◌, ◌++◌, ◌^◌, ◌-◌, min, ℕ, Bool, true, false, List, [], count_by}
use Rattle.sv_io.specs.Histories.{Output, Sends, Takes}
use Rattle.smt_session.specs.declared.reply.Reply.{Reply}
use Rattle.smt_session.specs.declared.reply.Reply.TheVariants as reply
use Rattle.generated_script.specs.Summary.{summary_text}
use Rattle.generated_script.specs.declared.tally.VerdictCounts.{VerdictCounts}
use Rattle.smt_session.specs.Runs.{IsTrueFor}
use Rattle.smt_session.specs.Scripts.{AnswersBytes, AnswersFront}
use Rattle.smt_session.specs.declared.status.Status.{Status}
use Rattle.smt_session.specs.declared.status.Status.TheVariants.{Answered, ErrorAnswered, WrongWords, ReadFailed, WriteFailed, NoMemory}

abbrev pub is_sat : Reply → Bool
is_sat (reply.Sat values) = true
is_sat _ = false

abbrev pub is_unsat : Reply → Bool
is_unsat reply.Unsat = true
is_unsat _ = false

abbrev pub is_unknown : Reply → Bool
is_unknown (reply.Unknown why) = true
is_unknown _ = false

-- how many replies are so; a count stays at the last number of 64 bits
abbrev pub counted : (Reply → Bool) → List Reply → ℕ
counted is log = min (count_by is log) (2 ^ 64 - 1)

-- the verdicts of the log
abbrev pub tally_of : List Reply → VerdictCounts
tally_of log = record { sat = counted is_sat log; unsat = counted is_unsat log; unknown = counted is_unknown log }

-- the log is right for the script, up to its end, or to an answered `exit` or a syntax fault in a front of it
pub record IsAnsweredWhole (script : List ℕ) (log : List Reply) : Type 0 where
  pub ended : Bool
  pub front : List ℕ
  pub more : List ℕ
  pub is : script ≡ front ++ more
  pub whole : ended ≡ true → more ≡ []
  pub right : AnswersBytes ended front log

-- the log is right so far, for a front of the script
pub record IsAnsweredFront (script : List ℕ) (log : List Reply) : Type 0 where
  pub ended : Bool
  pub front : List ℕ
  pub more : List ℕ
  pub is : script ≡ front ++ more
  pub right : AnswersFront ended front log

-- what was answered of the script, where nothing was written
abbrev pub StopsIn : List ℕ → List Reply → Status → Type 0
StopsIn script log Answered = IsAnsweredWhole script log
StopsIn script log ErrorAnswered = IsAnsweredWhole script log
StopsIn script log WrongWords = ⊥
StopsIn script log ReadFailed = ⊥
StopsIn script log WriteFailed = ⊥
StopsIn script log NoMemory = IsAnsweredFront script log

-- the script was answered, with so many verdicts of each kind, and the sink took the line that sums them up; or up to some place, where the sink failed or there was no memory
pub record IsGenerated (script : List ℕ) (size : ℕ) (counts : VerdictCounts) (output_old output_new : Output) (status : Status) (log : List Reply) : Type 0 where
  pub statuses : (status ≡ Answered) ⊎ (status ≡ WriteFailed) ⊎ (status ≡ NoMemory)
  pub answered : (status ≡ Answered) ⊎ (status ≡ WriteFailed) → IsAnsweredWhole script log
  pub front : IsAnsweredFront script log
  pub tally : (status ≡ Answered) ⊎ (status ≡ WriteFailed) → tally_of log ≡ counts
  pub took : status ≡ Answered → Sends output_old output_new (summary_text size counts)
  pub cut : Takes output_old output_new (summary_text size (tally_of log))

-- a reply behind the early ones is one for a front of the script
pub record IsTrueIn (script : List ℕ) (early : List Reply) (verdict : Reply) : Type 0 where
  pub ended : Bool
  pub front : List ℕ
  pub more : List ℕ
  pub is : script ≡ front ++ more
  pub verdict_is : IsTrueFor ended front early verdict
