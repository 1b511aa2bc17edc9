-- What a session answers to an item and what it is afterwards, a row for each command (SMT-LIB 2.6, sections 4.1 and 4.2). Of `check-sat` and `check-sat-assuming` a right verdict is asked, and of `get-unsat-core` a core; every other reply is a function of the session and the item.
use Rattle.std.specs.Prelude.{◌≡◌, ℕ, ◌+◌, ◌-◌, Bool, true, false, nat_le, nat_lt, List, [], ◌∷◌, ◌++◌, length, drop, map, Option, None, Some, Result, Ok, Err, codes, if◌then◌else◌}
use Rattle.assert_stack.specs.Levels.{Level, Symbol, empty, symbols_of, live, named, pushed, declared, asserted, asserted_named}
use Rattle.sexpr_reader.specs.declared.sexpr.Sexpr.{Sexpr}
use Rattle.sort_check.specs.Checking.{asked_term, checked}
use Rattle.smt_names.specs.Form.{seen}
use Rattle.smt_names.specs.Signature.{same_name}
use Rattle.smt_names.specs.declared.check_fault.CheckFault.{CheckFault}
use Rattle.sort_check.specs.declared.commands.Command.{Command}
use Rattle.sort_check.specs.declared.commands.Command.TheVariants as command
use Rattle.sv_terms.specs.Meaning.{Named}
use Rattle.sv_terms.specs.Sorting.{kind}
use Rattle.sv_terms.specs.declared.entry.Entry.TheVariants as entry
use Rattle.sv_terms.specs.declared.limits.TheConstants.{MOST_LEVELS}
use Rattle.sv_terms.specs.declared.sort.Sort.{Sort}
use Rattle.sv_terms.specs.declared.term.Term.{Term}
use Rattle.sv_terms.specs.declared.value.Value.{Value}
use Rattle.term_eval.specs.Evaluation.{value_or_fault}
use Rattle.term_eval.specs.declared.fault.EvalFault.{EvalFault}
use Rattle.reply_text.specs.declared.error_kind.ErrorKind.{ErrorKind}
use Rattle.reply_text.specs.declared.error_kind.ErrorKind.TheVariants as error
use Rattle.reply_text.specs.declared.info.Info.TheVariants as info
use Rattle.smt_session.specs.declared.reply.Reply.{Reply}
use Rattle.smt_session.specs.declared.reply.Reply.TheVariants as reply
use Rattle.smt_session.specs.declared.session.LastVerdict.{LastVerdict}
use Rattle.smt_session.specs.declared.session.LastVerdict.TheVariants as kept
use Rattle.cube_search.specs.declared.answer.Refutation.{Refutation}
use Rattle.decide.specs.Completeness.{MustDecide, IsComplete}
use Rattle.decide.specs.Verdicts.{RightVerdict}
use Rattle.decide.specs.declared.verdict.Verdict.{Verdict}
use Rattle.decide.specs.declared.verdict.Verdict.TheVariants as verdict_by
use Rattle.reply_text.specs.Refusals.{of_check, of_value}
use Rattle.core_search.specs.Cores.{IsCore}
use Rattle.smt_session.specs.Verdicts.{IsVerdictFor, cause_of}

-- the levels, the innermost first; the verdict that is kept, if one is; whether successes are printed; whether `exit` was answered
pub record State : Type 0 where
  pub levels : List Level
  pub verdict : Option LastVerdict
  pub prints : Bool
  pub ended : Bool

abbrev pub state : List Level → Option LastVerdict → Bool → Bool → State
state ls k p e = record { levels = ls; verdict = k; prints = p; ended = e }

-- a session at its start
abbrev pub opened : State
opened = state (empty ∷ []) None false false

-- other levels, where the kept verdict is dropped
abbrev pub changed : List Level → State → State
changed ls s = state ls None s.prints s.ended

abbrev pub with_verdict : LastVerdict → State → State
with_verdict k s = state s.levels (Some k) s.prints s.ended

abbrev pub printing : Bool → State → State
printing b s = state s.levels s.verdict b s.ended

abbrev pub after_exit : State → State
after_exit s = state s.levels s.verdict s.prints true

-- the reply and the session behind it
abbrev pub Outcome : Type 0
Outcome = Reply × State

-- this reply, and this session behind it
abbrev pub GivesReply : Outcome → Reply → State → Type 0
GivesReply outcome r t = (r ≡ outcome.0) × (t ≡ outcome.1)

-- a success, printed where the session behind it prints successes
abbrev pub succeeds : State → Outcome
succeeds s = (reply.Success s.prints, s)

abbrev pub refuses : ErrorKind → State → Outcome
refuses kind s = (reply.Error kind, s)

-- the levels beside the outermost one are limited
abbrev pub pushes : ℕ → State → Outcome
pushes n s = if nat_le (length s.levels + n) (MOST_LEVELS + 1) then succeeds (changed (pushed n s.levels) s) else refuses error.Levels s

-- the outermost level stays
abbrev pub pops : ℕ → State → Outcome
pops n s = if nat_lt n (length s.levels) then succeeds (changed (drop n s.levels) s) else refuses error.NoSuchLevel s

abbrev pub definitions_of : Named → List (List ℕ × Sort × Value)
definitions_of values = map (λ v. (v.0, kind v.1, v.1)) values

abbrev pub model_reply : Option LastVerdict → Reply
model_reply (Some (kept.Sat values)) = reply.Definitions (definitions_of values)
model_reply (Some (kept.Unsat assumed)) = reply.Error error.NoModel
model_reply (Some (kept.Unknown c)) = reply.Error error.NoModel
model_reply None = reply.Error error.NoModel

-- the reason needs a kept `unknown`
abbrev pub reason_reply : Option LastVerdict → Reply
reason_reply (Some (kept.Sat values)) = reply.Error error.NoReason
reason_reply (Some (kept.Unsat assumed)) = reply.Error error.NoReason
reason_reply (Some (kept.Unknown c)) = reply.Info (info.ReasonUnknown c)
reason_reply None = reply.Error error.NoReason

-- what is known of the program and of the session
abbrev pub info_reply : State → List ℕ → Reply
info_reply s k =
    if same_name k (codes ":name") then reply.Info info.Name else
    if same_name k (codes ":version") then reply.Info info.Version else
    if same_name k (codes ":error-behavior") then reply.Info info.ErrorBehavior else
    if same_name k (codes ":assertion-stack-levels") then reply.Info (info.AssertionStackLevels (length s.levels - 1)) else
    if same_name k (codes ":reason-unknown") then reason_reply s.verdict else reply.Unsupported

-- the terms' values under these declarations, each beside the s-expression as it was read
abbrev pub AreAskedValues : List Symbol → Named → List Sexpr → List (Sexpr × Value) → Type 0
AreAskedValues symbols values [] vs = vs ≡ []
AreAskedValues symbols values (item ∷ items) vs = (t : Term) × (v : Value) × (rest : List (Sexpr × Value)) × (asked_term symbols (seen item) ≡ Ok t) × (value_or_fault values t ≡ Ok v) × AreAskedValues symbols values items rest × (vs ≡ (item, v) ∷ rest)

-- the first term from the left that has no value, and why
pub record IsFirstFault (symbols : List Symbol) (values : Named) (items : List Sexpr) (kind : ErrorKind) : Type 0 where
  pub before : List Sexpr
  pub item : Sexpr
  pub after : List Sexpr
  pub parts : items ≡ before ++ item ∷ after
  pub earlier : List (Sexpr × Value)
  pub valued : AreAskedValues symbols values before earlier
  pub asked : Term
  pub asks : asked_term symbols (seen item) ≡ Ok asked
  pub fault : EvalFault
  pub faulty : value_or_fault values asked ≡ Err fault
  pub told : of_value fault ≡ Some kind

abbrev pub AnswersValues : List Symbol → Named → List Sexpr → Reply → Type 0
AnswersValues symbols values items (reply.Values vs) = AreAskedValues symbols values items vs
AnswersValues symbols values items (reply.Error kind) = IsFirstFault symbols values items kind
AnswersValues symbols values items _ = ⊥

-- the values need a kept `sat`
abbrev pub AnswersTerms : List Symbol → Option LastVerdict → List Sexpr → Reply → Type 0
AnswersTerms symbols (Some (kept.Sat values)) items r = AnswersValues symbols values items r
AnswersTerms symbols (Some (kept.Unsat assumed)) items r = r ≡ reply.Error error.NoModel
AnswersTerms symbols (Some (kept.Unknown c)) items r = r ≡ reply.Error error.NoModel
AnswersTerms symbols None items r = r ≡ reply.Error error.NoModel

abbrev pub AnswersNames : List Level → List Term → Reply → Type 0
AnswersNames levels assumed (reply.Core list) = IsCore (live levels) (named levels) assumed list
AnswersNames levels assumed _ = ⊥

-- a core needs a kept `unsat`
abbrev pub AnswersCore : List Level → Option LastVerdict → Reply → Type 0
AnswersCore levels (Some (kept.Sat values)) r = r ≡ reply.Error error.NoCore
AnswersCore levels (Some (kept.Unsat assumed)) r = AnswersNames levels assumed r
AnswersCore levels (Some (kept.Unknown c)) r = r ≡ reply.Error error.NoCore
AnswersCore levels None r = r ≡ reply.Error error.NoCore

-- the verdict that a reply tells
abbrev pub Tells : Reply → Verdict → Type 0
Tells (reply.Sat values) v = v ≡ verdict_by.Sat values
Tells reply.Unsat v = (refutation : Refutation) × (v ≡ verdict_by.Unsat refutation)
Tells (reply.Unknown why) v = v ≡ verdict_by.Unknown why
Tells _ v = ⊥

-- what a session keeps of a verdict under these assumptions
abbrev pub kept_of : List Term → Verdict → LastVerdict
kept_of assumed (verdict_by.Sat values) = kept.Sat values
kept_of assumed (verdict_by.Unsat refutation) = kept.Unsat assumed
kept_of assumed (verdict_by.Unknown why) = kept.Unknown (cause_of why)

-- the reply tells a right verdict on these terms, which are the live assertions and then these assumptions, an answer where one is owed, and the verdict is kept
pub record Checks (s : State) (terms assumed : List Term) (r : Reply) (t : State) : Type 0 where
  pub answer : Verdict
  pub told : Tells r answer
  pub right : RightVerdict terms answer
  pub complete : MustDecide terms → IsComplete terms answer
  pub covers : IsVerdictFor (symbols_of s.levels) terms answer
  pub after : t ≡ with_verdict (kept_of assumed answer) s

-- the reply to a command, and the session behind it
abbrev pub Does : State → Command → Reply → State → Type 0
Does s command.Inform r t = GivesReply (succeeds s) r t
Does s (command.PrintSuccess b) r t = GivesReply (succeeds (printing b s)) r t
Does s (command.Declare name sort) r t = GivesReply (succeeds (changed (declared name (entry.Constant sort) s.levels) s)) r t
Does s (command.Define name e) r t = GivesReply (succeeds (changed (declared name e s.levels) s)) r t
Does s (command.Assert term) r t = GivesReply (succeeds (changed (asserted term s.levels) s)) r t
Does s (command.AssertNamed name term) r t = GivesReply (succeeds (changed (asserted_named name term s.levels) s)) r t
Does s (command.Push n) r t = GivesReply (pushes n s) r t
Does s (command.Pop n) r t = GivesReply (pops n s) r t
Does s command.CheckSat r t = Checks s (live s.levels) [] r t
Does s (command.CheckAssuming assumed) r t = Checks s (live s.levels ++ assumed) assumed r t
Does s command.GetCore r t = AnswersCore s.levels s.verdict r × (t ≡ s)
Does s command.GetModel r t = GivesReply (model_reply s.verdict, s) r t
Does s (command.GetValue items) r t = AnswersTerms (symbols_of s.levels) s.verdict items r × (t ≡ s)
Does s (command.GetInfo k) r t = GivesReply (info_reply s k, s) r t
Does s (command.Echo text) r t = GivesReply (reply.Echo text, s) r t
Does s command.Reset r t = GivesReply (succeeds opened) r t
Does s command.ResetAssertions r t = GivesReply (succeeds (changed (empty ∷ []) s)) r t
Does s command.Exit r t = GivesReply (succeeds (after_exit s)) r t
Does s command.Unsupported r t = GivesReply (reply.Unsupported, s) r t

abbrev pub Performs : State → Result Command CheckFault → Reply → State → Type 0
Performs s (Ok c) r t = Does s c r t
Performs s (Err fault) r t = (kind : ErrorKind) × (of_check fault ≡ Some kind) × GivesReply (refuses kind s) r t

-- the command that an item is is done; an item with a fault is refused
abbrev pub Steps : State → Sexpr → Reply → State → Type 0
Steps s item r t = Performs s (checked (symbols_of s.levels) (seen item)) r t
