-- The right replies to the commands of a script, in order (SMT-LIB 2.6, section 4.1).
use Rattle.std.specs.Prelude.{◌≡◌, ◌≢◌, ◌||◌, ℕ, Bool, true, false, List, [], ◌∷◌, ◌++◌, Option, None, Some, MatchOption, Result, Ok, Err, ⊤}
use Rattle.assert_stack.specs.Levels.{live, symbols_of}
use Rattle.sexpr_reader.specs.Reads.{Begins, FaultAfter, Waits, Ends}
use Rattle.sexpr_reader.specs.declared.sexpr.Sexpr.{Sexpr}
use Rattle.sexpr_reader.specs.declared.syntax_fault.SyntaxFault.{SyntaxFault}
use Rattle.reply_text.specs.Refusals.{of_syntax}
use Rattle.smt_names.specs.Form.{seen}
use Rattle.smt_names.specs.declared.check_fault.CheckFault.{CheckFault}
use Rattle.sort_check.specs.Checking.{checked}
use Rattle.sort_check.specs.declared.commands.Command.{Command}
use Rattle.sort_check.specs.declared.commands.Command.TheVariants as command
use Rattle.smt_session.specs.Replies.{text_of, is_error}
use Rattle.smt_session.specs.Steps.{State, opened, Steps}
use Rattle.decide.specs.Completeness.{MustDecide}
use Rattle.decide.specs.Verdicts.{IsOpenFor}
use Rattle.decide.specs.declared.verdict.Open.{Open}
use Rattle.sv_terms.specs.Truth.{AreTrueAt, HasNoValues, clear_of, opaque_of}
use Rattle.sv_terms.specs.declared.term.Term.{Term}
use Rattle.reply_text.specs.declared.error_kind.ErrorKind.{ErrorKind}
use Rattle.smt_session.specs.declared.reply.Reply.{Reply}
use Rattle.smt_session.specs.declared.reply.Reply.TheVariants.{Error, Sat, Unsat, Unknown}

-- a reply to each item, and the session behind the last; nothing follows an answered `exit`
pub data FollowsScript : State → List Sexpr → List Reply → State → Type 0 where
  none : (s : State) → FollowsScript s [] [] s
  next : (s t u : State) (item : Sexpr) (r : Reply) (items : List Sexpr) (log : List Reply) → s.ended ≡ false → Steps s item r t → FollowsScript t items log u → FollowsScript s (item ∷ items) (r ∷ log) u

-- the right replies to the bytes; `ended` says whether the input has ended behind them
pub data AnswersBytes (ended : Bool) (bytes : List ℕ) (log : List Reply) : Type 0 where
  -- up to the end of the input, behind whole items
  to_end : (items : List Sexpr) (s : State) → ended ≡ true → Ends bytes items → FollowsScript opened items log s → AnswersBytes ended bytes log
  -- up to an answered `exit`
  to_exit : (items : List Sexpr) (rest : List ℕ) (s : State) → Begins ended bytes items rest → FollowsScript opened items log s → s.ended ≡ true → AnswersBytes ended bytes log
  -- up to a syntax fault, whose error is the last reply
  to_fault : (items : List Sexpr) (early : List Reply) (s : State) (fault : SyntaxFault) (kind : ErrorKind) → FaultAfter ended bytes items fault → FollowsScript opened items early s → s.ended ≡ false → of_syntax fault ≡ Some kind → log ≡ early ++ Error kind ∷ [] → AnswersBytes ended bytes log

-- the replies to all items that are whole so far; none of them ended the session, and there is no syntax fault so far
pub record AnswersWhole (bytes : List ℕ) (log : List Reply) : Type 0 where
  pub items : List Sexpr
  pub session : State
  pub waits : Waits bytes items
  pub follows : FollowsScript opened items log session
  pub goes_on : session.ended ≡ false

-- right replies, to a front of the items
pub data AnswersFront (ended : Bool) (bytes : List ℕ) (log : List Reply) : Type 0 where
  so_far : (items : List Sexpr) (rest : List ℕ) (s : State) → Begins ended bytes items rest → FollowsScript opened items log s → AnswersFront ended bytes log
  all : AnswersBytes ended bytes log → AnswersFront ended bytes log

-- no answer is owed: where the text is within the limits, some assertion is opaque, and the others have values
pub record IsNotOwed (terms : List Term) : Type 0 where
  pub opaque_part : MustDecide terms → opaque_of terms ≢ []
  pub has_values : MustDecide terms → HasNoValues (clear_of terms) → ⊥

-- the terms of which a command asks for a verdict: the live assertions, and then its assumptions
abbrev pub asked_by : State → Result Command CheckFault → Option (List Term)
asked_by s (Ok command.CheckSat) = Some (live s.levels)
asked_by s (Ok (command.CheckAssuming assumed)) = Some (live s.levels ++ assumed)
asked_by s (Ok _) = None
asked_by s (Err fault) = None

-- those of which the first of these items asks
abbrev pub asked_terms : State → List Sexpr → Option (List Term)
asked_terms s [] = None
asked_terms s (item ∷ items) = asked_by s (checked (symbols_of s.levels) (seen item))

-- what is told of the cause holds, and no answer is owed
abbrev pub IsOpenAndNotOwed : Open → List Term → Type 0
IsOpenAndNotOwed why terms = IsOpenFor terms why × IsNotOwed terms

-- what a verdict says of the terms of which it was asked: its values make each of them true; no values make those without opaque parts true; or it names a cause that they have, and no answer is owed. Where none was asked there is none
abbrev pub IsTrueOf : Option (List Term) → Reply → Type 0
IsTrueOf asked (Sat values) = MatchOption asked ⊥ (AreTrueAt values)
IsTrueOf asked Unsat = MatchOption asked ⊥ (λ terms. HasNoValues (clear_of terms))
IsTrueOf asked (Unknown why) = MatchOption asked ⊥ (IsOpenAndNotOwed why)
IsTrueOf asked _ = ⊤

-- the printed replies, in order
abbrev pub texts_of : List Reply → List ℕ
texts_of [] = []
texts_of (reply ∷ log) = text_of reply ++ texts_of log

abbrev pub has_error : List Reply → Bool
has_error [] = false
has_error (reply ∷ log) = is_error reply || has_error log
