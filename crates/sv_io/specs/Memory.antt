-- Sources and sinks in memory: what they hold, and which of their calls fail.
use Rattle.std.specs.Prelude.{◌==◌, ℕ, List, Bool, if◌then◌else◌}
use Rattle.std.specs.List.{list_any}
use Rattle.std.specs.declared.option.Option.{Option}
use Rattle.sv_io.specs.Counts.{raised}

-- a source in memory
pub record Given : Type 0 where
  -- its own name, or none
  pub name : Option (List ℕ)
  -- the bytes left
  pub left : List ℕ
  -- the numbers of the calls that fail
  pub failing : List ℕ
  -- the most bytes that one read gives
  pub piece : ℕ
  -- the number of the next call, counted from 0
  pub calls : ℕ
  pub is_open : Bool
  pub is_astray : Bool
  pub faults : ℕ
  -- how many bytes the last read gave
  pub last : ℕ
  -- the bytes given; those left come behind them
  pub given : List ℕ
  -- the last read answered 0
  pub at_end : Bool
  -- a read may follow
  pub goes_on : Bool
  -- the names that it was opened with, or was to be
  pub openings : List (Option (List ℕ))

-- a sink in memory
pub record Taken : Type 0 where
  -- the bytes taken
  pub taken : List ℕ
  -- the numbers of the calls that fail
  pub failing : List ℕ
  -- the most bytes that one write takes
  pub piece : ℕ
  -- the number of the next call, counted from 0
  pub calls : ℕ
  pub faults : ℕ
  -- the bytes that had been taken when a flush last answered Ok
  pub sent : List ℕ
  -- no call failed: another may follow
  pub goes_on : Bool

-- whether the call of this number is one that fails
abbrev pub is_failing : List ℕ → ℕ → Bool
is_failing failing call = list_any (λ number. number == call) failing

-- the count of faults after a call: one more where it failed
abbrev pub faults_after : Bool → ℕ → ℕ
faults_after failed faults = if failed then raised faults else faults
