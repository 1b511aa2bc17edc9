-- What a status says of a run, and what it rules out.
use Rattle.std.proofs.Common.{◌≡◌, ◌⊎◌, ℕ, List, Bool, true, false, sym, subst, inl, inr}
use Rattle.sv_io.specs.Histories.{Input, Output}
use Rattle.smt_session.specs.declared.reply.Reply.{Reply}
use Rattle.smt_session.specs.declared.status.Status.{Status}
use Rattle.smt_session.specs.declared.status.Status.TheVariants.{Answered, ErrorAnswered, WrongWords, ReadFailed, WriteFailed, NoMemory}
use Rattle.smt_session.specs.Runs.{IsAnswered, IsCutAtLast, IsLogCut, IsDone, IsAnsweredSoFar}
use Rattle.smt_session.specs.Scripts.{has_error}
use Rattle.smt_session.specs.Awaiting.{Ended, Stops}

module _ (ended : Bool) (bytes : List ℕ) (t0 t : Output) (log : List Reply) (s : Status) where
  -- everything was answered
  pub done_stops : (s ≡ Answered) ⊎ (s ≡ ErrorAnswered) → (s ≡ Answered → has_error log ≡ false) → (s ≡ ErrorAnswered → has_error log ≡ true) → IsDone ended bytes t0 t log → Stops ended bytes t0 t log s
  done_stops (inl is) right error h = subst (Stops ended bytes t0 t log) (sym is) (h, right is)
  done_stops (inr is) right error h = subst (Stops ended bytes t0 t log) (sym is) (h, error is)

  -- the sink failed, or there was no memory
  pub cut_stops : (s ≡ WriteFailed) ⊎ (s ≡ NoMemory) → IsLogCut ended bytes t0 t log → IsCutAtLast t0 t log → Stops ended bytes t0 t log s
  cut_stops (inl is) h last = subst (Stops ended bytes t0 t log) (sym is) (h, last)
  cut_stops (inr is) h last = subst (Stops ended bytes t0 t log) (sym is) h

module _ (l0 l : Input) (t0 t : Output) (log : List Reply) (s : Status) (h : Ended l0 l t0 t log s) where
  pub ended_answered : (s ≡ Answered) ⊎ (s ≡ ErrorAnswered) → IsAnswered l0 l t0 t log
  ended_answered (inl is) = (subst (Ended l0 l t0 t log) is h).0
  ended_answered (inr is) = (subst (Ended l0 l t0 t log) is h).0

  pub ended_right : s ≡ Answered → has_error log ≡ false
  ended_right is = (subst (Ended l0 l t0 t log) is h).1

  pub ended_error : s ≡ ErrorAnswered → has_error log ≡ true
  ended_error is = (subst (Ended l0 l t0 t log) is h).1

  pub ended_unread : s ≡ ReadFailed → IsAnsweredSoFar l0 l t0 t log
  ended_unread is = subst (Ended l0 l t0 t log) is h

  pub ended_unwritten : s ≡ WriteFailed → IsCutAtLast t0 t log
  ended_unwritten is = (subst (Ended l0 l t0 t log) is h).1

  pub not_refused : s ≡ WrongWords → ⊥
  not_refused is = subst (Ended l0 l t0 t log) is h

module _ (s : Status) where
  -- where all was answered
  pub not_failed : (s ≡ Answered) ⊎ (s ≡ ErrorAnswered) → s ≡ WriteFailed → ⊥
  not_failed (inl is) e = cc
  not_failed (inr is) e = cc

  -- where nothing could be read, or there was no memory
  pub no_answer : (s ≡ ReadFailed) ⊎ (s ≡ NoMemory) → (s ≡ Answered) ⊎ (s ≡ ErrorAnswered) → ⊥
  no_answer (inl is) (inl e) = cc
  no_answer (inl is) (inr e) = cc
  no_answer (inr is) (inl e) = cc
  no_answer (inr is) (inr e) = cc

  -- where the words are refused
  pub no_script : (s ≡ WrongWords) ⊎ (s ≡ WriteFailed) ⊎ (s ≡ NoMemory) → (s ≡ ErrorAnswered) ⊎ (s ≡ ReadFailed) → ⊥
  no_script (inl is) (inl e) = cc
  no_script (inl is) (inr e) = cc
  no_script (inr (inl is)) (inl e) = cc
  no_script (inr (inl is)) (inr e) = cc
  no_script (inr (inr is)) (inl e) = cc
  no_script (inr (inr is)) (inr e) = cc

  -- where a script is generated
  pub no_source : (s ≡ Answered) ⊎ (s ≡ WriteFailed) ⊎ (s ≡ NoMemory) → (s ≡ ErrorAnswered) ⊎ (s ≡ WrongWords) ⊎ (s ≡ ReadFailed) → ⊥
  no_source (inl is) (inl e) = cc
  no_source (inl is) (inr (inl e)) = cc
  no_source (inl is) (inr (inr e)) = cc
  no_source (inr (inl is)) (inl e) = cc
  no_source (inr (inl is)) (inr (inl e)) = cc
  no_source (inr (inl is)) (inr (inr e)) = cc
  no_source (inr (inr is)) (inl e) = cc
  no_source (inr (inr is)) (inr (inl e)) = cc
  no_source (inr (inr is)) (inr (inr e)) = cc
