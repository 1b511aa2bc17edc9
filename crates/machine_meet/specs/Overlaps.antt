-- Moves of two lists that read a character in common, and the intervals of what they read.
use Rattle.std.specs.Prelude.{◌≡◌, ℕ, ◌≤◌, List, IsTrue, slice_get, Some, Any, Contains}
use Rattle.sv_word.specs.Ranges.{in_ranges}
use Rattle.machine_core.specs.declared.machine.Move.{Move}
use Rattle.machine_meet.specs.declared.overlaps.MoveInterval.{MoveInterval}

-- the moves at these places read some character in common
abbrev pub MovesMeet : {S T : Type 0} → List (Move S) → List (Move T) → ℕ → ℕ → Type 0
MovesMeet {S} {T} heads tails i j = (h : Move S) × (t : Move T) × (c : ℕ) × (slice_get heads i ≡ Some h) × (slice_get tails j ≡ Some t)
    × IsTrue (in_ranges h.on c) × IsTrue (in_ranges t.on c)

-- the interval of the characters of a pair, for the move at `place`
abbrev pub span : ℕ → ℕ × ℕ → MoveInterval
span place pair = record { low = pair.0; high = pair.1; place = place }

-- an interval of what the move at its place reads, with some character in it
abbrev pub IsSpan : {S : Type 0} → List (Move S) → MoveInterval → Type 0
IsSpan {S} moves s = (m : Move S) × (slice_get moves s.place ≡ Some m) × Contains m.on (s.low, s.high) × (s.low ≤ s.high)

-- an interval of the move at `i` in which one of the move at `j` begins
abbrev pub BeginsWithin : List MoveInterval → List MoveInterval → ℕ → ℕ → Type 0
BeginsWithin around spans i j = Any (λ a. (a.place ≡ i) × Any (λ b. (b.place ≡ j) × (a.low ≤ b.low) × (b.low ≤ a.high)) spans) around
