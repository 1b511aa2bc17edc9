-- What was read of a source and written to a sink so far, which each of them tells.
use Rattle.std.specs.Prelude.{◌≡◌, ◌++◌, ◌⊎◌, ℕ, List, Bool, true, false, take}
use Rattle.std.specs.Io.KnownBytes.{Consumes, IsAtEnd}
use Rattle.std.specs.declared.option.Option.{Option}

-- what was read
pub record Input : Type 0 where
  -- the bytes that the reads gave, in order
  pub given : List ℕ
  -- how many of them the last read gave: none where it failed or met the end, or where there was none behind the last opening
  pub last : ℕ
  -- the last read answered 0: the source gave its end
  pub at_end : Bool
  -- the names that it was opened with, or was to be, in order; none is that of standard input
  pub openings : List (Option (List ℕ))

-- what was written
pub record Output : Type 0 where
  -- the bytes that the writes took, in order
  pub taken : List ℕ
  -- those that had been taken when a flush last answered Ok
  pub sent : List ℕ

-- bytes begin with these
abbrev pub IsFrontOf : List ℕ → List ℕ → Type 0
IsFrontOf front bytes = (more : List ℕ) × (bytes ≡ front ++ more)

-- the source gave these bytes, and they were all that it had where it told its end behind them
pub record IsRead (ended : Bool) (old new : Input) (bytes : List ℕ) : Type 0 where
  pub gave : new.given ≡ old.given ++ bytes
  pub end : ended ≡ true → new.at_end ≡ true

-- the text was taken, and all that was taken was sent
pub record Sends (old new : Output) (text : List ℕ) : Type 0 where
  pub took : new.taken ≡ old.taken ++ text
  pub sent : new.sent ≡ new.taken

-- the text was taken, and nothing is held back if nothing was
pub record Delivers (old new : Output) (text : List ℕ) : Type 0 where
  pub took : new.taken ≡ old.taken ++ text
  pub sent : old.sent ≡ old.taken → new.sent ≡ new.taken

-- the text was taken up to some place, and what was taken was all sent or is held back
pub record Takes (old new : Output) (text : List ℕ) : Type 0 where
  pub count : ℕ
  pub took : new.taken ≡ old.taken ++ take count text
  pub sent : (new.sent ≡ old.sent) ⊎ (new.sent ≡ new.taken)

-- what was given is what is no longer left, where a source tells what is left; and nothing is left where a read met the end since
pub record TellsLeft (old new : Input) (left_old left_new : Option (List ℕ)) : Type 0 where
  pub bytes : List ℕ
  pub gave : new.given ≡ old.given ++ bytes
  pub consumed : Consumes left_old left_new bytes
  pub end : old.at_end ≡ false → new.at_end ≡ true → IsAtEnd left_new
