-- Where a reader stands between the calls inside it: what one step answers, what it leaves and what is left to do.
use Rattle.std.specs.Prelude.{◌≡◌, ◌+◌, ◌*◌, ◌-◌, ℕ, List, ◌++◌, Bool, Option, Result, Ok, Err, length}
use Rattle.std.specs.Option.{option_to_list}
use Rattle.sexpr_reader.specs.declared.mode.Mode.{Mode}
use Rattle.sexpr_reader.specs.declared.mode.Mode.TheVariants as m
use Rattle.sexpr_reader.specs.declared.reader.Reader.{Reader}
use Rattle.sexpr_reader.specs.declared.syntax_fault.SyntaxFault.{SyntaxFault}
use Rattle.sexpr_reader.specs.declared.syntax_fault.SyntaxFault.TheVariants as f
use Rattle.sexpr_reader.specs.declared.sexpr.Sexpr.{Sexpr}
use Rattle.sexpr_reader.specs.Reads.{FaultAfter}
use Rattle.sexpr_reader.specs.Standing.{HasGiven}

-- what one step answers: nothing or an item, the first fault, or want of memory
abbrev pub AnswersStep : Bool → Reader → List ℕ → List Sexpr → Result (Option Sexpr) SyntaxFault → Type 0
AnswersStep ended new bytes given (Ok item) = HasGiven ended new bytes (given ++ option_to_list item)
AnswersStep ended new bytes given (Err (f.Memory _)) = HasGiven ended new bytes given
AnswersStep ended new bytes given (Err fault) = HasGiven ended new bytes given × FaultAfter ended bytes given fault

-- the same, as contracts see it
pub record IsSame (old new : Reader) : Type 0 where
  pub pending : new.pending.items ≡ old.pending.items
  pub start : new.start ≡ old.start
  pub at : new.at ≡ old.at
  pub place : new.place ≡ old.place
  pub mode : new.mode ≡ old.mode
  pub lists : new.nest.lists.items ≡ old.nest.lists.items

-- a token ended there
pub record IsSettled (old new : Reader) (end : ℕ) : Type 0 where
  pub pending : new.pending.items ≡ old.pending.items
  pub start : new.start ≡ end
  pub at : new.at ≡ end
  pub place : new.place + old.start ≡ old.place + end
  pub mode : new.mode ≡ m.Blank

-- a mode that a step may leave without a byte
abbrev pub busy : Mode → ℕ
busy m.Blank = 0
busy _ = 1

-- what is left to do
abbrev pub work : Reader → ℕ
work r = 2 * (length r.pending.items - r.at) + busy r.mode

-- a token that only more bytes could end, or none
abbrev pub IsOpenToken : Mode → Type 0
IsOpenToken m.Run = ⊥
IsOpenToken m.Quote = ⊥
IsOpenToken _ = Unit {0}
