-- States made from the end of an expression on: each is made once all that follows it is known, so that none changes.
use Rattle.std.specs.Prelude.{◌≡◌, ℕ, ◌+◌, ◌≤◌, ◌↔◌, Bool, IsTrue, Option, Some, None, List, [], ◌∷◌, ◌++◌, length, slice_get, Any, Contains}
use Rattle.sv_word.specs.Ranges.{in_ranges}
use Rattle.sv_word.specs.Words.{greatest_character}
use Rattle.machine_core.specs.declared.machine.Move.{Move}
use Rattle.machine_core.specs.Moves.{Moves, IsMove}
use Rattle.sv_terms.specs.Language.{Word, Then}
use Rattle.regex_machine.specs.declared.onward.Onward.{Onward}
use Rattle.regex_machine.specs.declared.onward.Rest.{Rest}

-- the word is read from such a place on
abbrev pub ReadsOn : List Onward → Onward → Word → Type 0
ReadsOn states o [] = IsTrue o.may_end
ReadsOn states o (c ∷ w) = (t : ℕ) × (u : Onward) × Any (Moves c [] t) o.moves × (slice_get states t ≡ Some u) × ReadsOn states u w

-- each move is on some characters, costs nothing, and leads to one of so many states
pub record IsOnward (states : ℕ) (o : Onward) : Type 0 where
  pub moves : (m : Move ℕ) → Contains o.moves m → IsMove states 0 m
  pub characters : (m : Move ℕ) → Contains o.moves m → (c : ℕ) → IsTrue (in_ranges m.on c) → c ≤ greatest_character

-- each state's moves lead to states
abbrev pub AreClosed : List Onward → Type 0
AreClosed states = (o : Onward) → Contains states o → IsOnward (length states) o

-- what follows leads to states, and its state, where it has one, has the same moves and end
pub record IsFormedRest (states : List Onward) (rest : Rest) : Type 0 where
  pub onward : IsOnward (length states) rest.onward
  pub state : (s : ℕ) → rest.state ≡ Some s → slice_get states s ≡ Some rest.onward

-- how many states are to be made for it
abbrev pub unmade : Option ℕ → ℕ
unmade None = 1
unmade (Some s) = 0

-- these moves and this end, without a state
abbrev pub stateless : List (Move ℕ) → Bool → Rest
stateless moves may_end = record { onward = record { moves = moves; may_end = may_end }; state = None }

-- some states, and what follows at some place
pub record AreBegun (states : List Onward) (rest : Rest) : Type 0 where
  pub closed : AreClosed states
  pub formed : IsFormedRest states rest

-- what follows has a state now, and all that was stays
pub record HasState (old : List Onward) (rest : Rest) (new : List Onward) (now : Rest) (s : ℕ) : Type 0 where
  pub more : List Onward
  pub grown : new ≡ old ++ more
  pub begun : AreBegun new now
  pub same : now.onward ≡ rest.onward
  pub made : now.state ≡ Some s
  pub few : length new ≤ length old + unmade rest.state

-- what `front` reads is a word of P and then what `rest` reads; with the state that is to be made for it there are at most `bound` states, and all that was stays
pub record PrecedesRest (P : Word → Type 0) (bound : ℕ) (old : List Onward) (rest : Rest) (new : List Onward) (now front : Rest) : Type 0 where
  pub more : List Onward
  pub grown : new ≡ old ++ more
  pub begun : AreBegun new now
  pub same : now.onward ≡ rest.onward
  pub formed : IsFormedRest new front
  pub words : (w : Word) → ReadsOn new front.onward w ↔ Then P (ReadsOn old rest.onward) w
  pub few : length new + unmade front.state ≤ bound
