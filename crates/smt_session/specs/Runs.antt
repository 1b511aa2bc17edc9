-- What a run reads, answers and writes, by the histories of the source and the sink: the bytes that the reads gave, those
-- that the writes took, and those of them that were sent.
use Rattle.std.specs.Prelude.{◌≡◌, ◌≤◌, ◌++◌, ◌∷◌, ℕ, Bool, true, false, List, [], take, length}
use Rattle.sv_io.specs.Histories.{Input, Output, IsFrontOf, IsRead, Delivers, Takes}
use Rattle.sexpr_reader.specs.Reads.{Begins}
use Rattle.sexpr_reader.specs.declared.sexpr.Sexpr.{Sexpr}
use Rattle.smt_session.specs.Steps.{State, opened}
use Rattle.smt_session.specs.declared.reply.Reply.{Reply}
use Rattle.smt_session.specs.CommandLine.{usage}
use Rattle.smt_session.specs.Scripts.{FollowsScript, AnswersBytes, AnswersWhole, AnswersFront, IsTrueOf, asked_terms, texts_of}

-- the log is right for the bytes, and the sink took its texts and sent them
pub record IsDone (ended : Bool) (bytes : List ℕ) (output_old output_new : Output) (log : List Reply) : Type 0 where
  pub right : AnswersBytes ended bytes log
  pub took : Delivers output_old output_new (texts_of log)

-- the log is right for a front of the bytes, the sink took its texts up to some place, and all but maybe the last were sent
pub record IsLogCut (ended : Bool) (bytes : List ℕ) (output_old output_new : Output) (log : List Reply) : Type 0 where
  pub right : AnswersFront ended bytes log
  pub count : ℕ
  pub took : output_new.taken ≡ output_old.taken ++ take count (texts_of log)
  pub early : List Reply
  pub late : List Reply
  pub replies : log ≡ early ++ late
  pub few : length late ≤ 1
  pub sent : output_old.sent ≡ output_old.taken → output_new.sent ≡ output_old.taken ++ texts_of early

-- the texts of all replies but the last one were sent, and nothing of that one
pub record IsCutAtLast (output_old output_new : Output) (log : List Reply) : Type 0 where
  pub early : List Reply
  pub last : Reply
  pub replies : log ≡ early ++ last ∷ []
  pub sent : output_old.sent ≡ output_old.taken → output_new.sent ≡ output_old.taken ++ texts_of early

-- the log is right for what was read, and the sink took the printed log
pub record IsAnswered (input_old input_new : Input) (output_old output_new : Output) (log : List Reply) : Type 0 where
  pub ended : Bool
  pub bytes : List ℕ
  pub read : IsRead ended input_old input_new bytes
  pub done : IsDone ended bytes output_old output_new log

-- all whole items that were read are answered, and the sink took the printed log
pub record IsAnsweredSoFar (input_old input_new : Input) (output_old output_new : Output) (log : List Reply) : Type 0 where
  pub bytes : List ℕ
  pub gave : input_new.given ≡ input_old.given ++ bytes
  pub right : AnswersWhole bytes log
  pub took : Delivers output_old output_new (texts_of log)

-- whatever the status: the log is right so far for what was read, and the sink took the printed log up to some place
pub record IsFront (input_old input_new : Input) (output_old output_new : Output) (log : List Reply) : Type 0 where
  pub ended : Bool
  pub bytes : List ℕ
  pub read : IsRead ended input_old input_new bytes
  pub cut : IsLogCut ended bytes output_old output_new log

-- each item that is whole before what the last read gave, 4,096 bytes at most, was answered, and the sink took the texts of its replies and sent them.
-- Any read may be the last one, and any flush may fail: so all that was answered before a read was sent before it
pub record IsPrompt (input_old input_new : Input) (output_old output_new : Output) (log : List Reply) : Type 0 where
  pub before : List ℕ
  pub piece : List ℕ
  pub gave : input_new.given ≡ input_old.given ++ (before ++ piece)
  pub short : length piece ≤ 4096
  pub read_last : length piece ≤ input_new.last
  pub early : List Reply
  pub late : List Reply
  pub replies : log ≡ early ++ late
  pub right : AnswersWhole before early
  pub text : List ℕ
  pub took : output_new.taken ≡ output_old.taken ++ (texts_of early ++ text)
  pub sent : output_old.sent ≡ output_old.taken → IsFrontOf (output_old.taken ++ texts_of early) output_new.sent

-- where the replies are those to items of which the last ended the session, at most 4,095 bytes were read behind it
pub record StopsAtExit (input_old input_new : Input) (log : List Reply) : Type 0 where
  pub bytes : List ℕ
  pub gave : input_new.given ≡ input_old.given ++ bytes
  pub few : (items : List Sexpr) (rest : List ℕ) (session : State) → Begins false bytes items rest → FollowsScript opened items log session → session.ended ≡ true → length rest ≤ 4095

-- nothing was answered, and the sink took the line on how the program is called, up to some place
pub record IsRefused (output_old output_new : Output) (log : List Reply) : Type 0 where
  pub empty : log ≡ []
  pub took : Takes output_old output_new usage

-- a reply after the early ones: the bytes begin with items, the first of these led to a session, and the reply is true of the terms of which the next item asks there, where it is a verdict
pub record IsTrueFor (ended : Bool) (bytes : List ℕ) (early : List Reply) (verdict : Reply) : Type 0 where
  pub items : List Sexpr
  pub others : List Sexpr
  pub rest : List ℕ
  pub begins : Begins ended bytes (items ++ others) rest
  pub session : State
  pub follows : FollowsScript opened items early session
  pub holds : IsTrueOf (asked_terms session others) verdict

-- it is such a reply for the bytes that were read
pub record IsTrueBehind (input_old input_new : Input) (early : List Reply) (verdict : Reply) : Type 0 where
  pub ended : Bool
  pub bytes : List ℕ
  pub read : IsRead ended input_old input_new bytes
  pub verdict_is : IsTrueFor ended bytes early verdict
