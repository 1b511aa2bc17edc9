-- The first step of a script that is followed, where its item is a known command.
use Rattle.std.proofs.Common.{◌≡◌, List, [], ◌∷◌, false, Result, Ok, length, refl, ap, ◌∙◌, subst, arith}
use Rattle.assert_stack.specs.Levels.{symbols_of}
use Rattle.sexpr_reader.specs.declared.sexpr.Sexpr.{Sexpr}
use Rattle.smt_names.specs.Form.{seen}
use Rattle.smt_names.specs.declared.check_fault.CheckFault.{CheckFault}
use Rattle.smt_session.specs.Scripts.{FollowsScript, none, next}
use Rattle.smt_session.specs.Steps.{State, Does, Performs, Steps}
use Rattle.smt_session.specs.declared.reply.Reply.{Reply}
use Rattle.smt_session.specs.declared.reply.Reply.TheVariants.{Success}
use Rattle.sort_check.specs.Checking.{checked}
use Rattle.sort_check.specs.declared.commands.Command.{Command}

-- an item that is this command here
abbrev pub IsCommand : State → Sexpr → Command → Type 0
IsCommand s item c = checked (symbols_of s.levels) (seen item) ≡ Ok c

pub performs : (s t : State) (item : Sexpr) (c : Command) (r : Reply) → IsCommand s item c → Steps s item r t → Does s c r t
performs s t item c r e h = subst (λ (q : Result Command CheckFault). Performs s q r t) e h

-- the reply to the first item, and what follows it
pub record FirstDone (s u : State) (item : Sexpr) (others : List Sexpr) (log : List Reply) : Type 0 where
  pub reply : Reply
  pub behind : State
  pub late : List Reply
  pub is : log ≡ reply ∷ late
  pub step : Steps s item reply behind
  pub follows : FollowsScript behind others late u

first_by : (s u : State) (items others : List Sexpr) (log : List Reply) (item : Sexpr) → FollowsScript s items log u → items ≡ item ∷ others → FirstDone s u item others log
first_by s u items others log item (none a) e = absurd (omega (arith, ap length e))
first_by s u items others log item (next a b c i q is l goes step rest) e =
    let same_item : i ≡ item = cc in
    let same_others : is ≡ others = cc in
    record { reply = q; behind = b; late = l; is = refl; step = subst (λ (x : Sexpr). Steps a x q b) same_item step; follows = subst (λ (x : List Sexpr). FollowsScript b x l c) same_others rest }

pub first_done : (s u : State) (item : Sexpr) (others : List Sexpr) (log : List Reply) → FollowsScript s (item ∷ others) log u → FirstDone s u item others log
first_done s u item others log h = first_by s u (item ∷ others) others log item h refl

nothing_by : (s u : State) (items : List Sexpr) (log : List Reply) → FollowsScript s items log u → items ≡ [] → log ≡ []
nothing_by s u items log (none a) e = refl
nothing_by s u items log (next a b c i q is l goes step rest) e = absurd (omega (arith, ap length e))

pub nothing_done : (s u : State) (log : List Reply) → FollowsScript s [] log u → log ≡ []
nothing_done s u log h = nothing_by s u [] log h refl

-- a success that isn't printed
abbrev pub silent : Reply
silent = Success false

-- a command that has no other reply, and leads to this session
pub record SilentDone (n u : State) (others : List Sexpr) (log : List Reply) : Type 0 where
  pub late : List Reply
  pub is : log ≡ silent ∷ late
  pub follows : FollowsScript n others late u

pub silent_done : (s n u : State) (item : Sexpr) (others : List Sexpr) (c : Command) (log : List Reply) → IsCommand s item c → ((r : Reply) (t : State) → Does s c r t → (r ≡ silent) × (t ≡ n)) → FollowsScript s (item ∷ others) log u → SilentDone n u others log
silent_done s n u item others c log e told h =
    let f = first_done s u item others log h in
    let d = told f.reply f.behind (performs s f.behind item c f.reply e f.step) in
    record { late = f.late; is = f.is ∙ ap (λ (r : Reply). r ∷ f.late) d.0; follows = subst (λ (z : State). FollowsScript z others f.late u) d.1 f.follows }
