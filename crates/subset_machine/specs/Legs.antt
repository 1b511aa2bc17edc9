-- Edges range by range, the characters cut into intervals, and what leads from an interval to which state.
use Rattle.std.specs.Prelude.{◌≡◌, ℕ, ◌+◌, ◌≤◌, IsTrue, ◌↔◌, List, map, flat_map, Any, Contains}
use Rattle.std.specs.List.Sorted.{IsNonDecreasingBy}
use Rattle.sv_word.specs.Ranges.{in_ranges}
use Rattle.machine_core.specs.declared.edge.Edge.{Edge}
use Rattle.machine_core.specs.Edges.{from_of}
use Rattle.machine_core.specs.Places.{places}
use Rattle.subset_machine.specs.declared.leaving.EdgeRange.{EdgeRange}
use Rattle.subset_machine.specs.Subsets.{StepsFromSome}
use Rattle.sv_word.specs.Words.{greatest_character}

-- the places of the edges that leave one of these states
abbrev pub places_from_some : List Edge → List ℕ → List ℕ
places_from_some edges list = flat_map (λ s. places from_of s edges) list

abbrev pub leg : ℕ → ℕ × ℕ → EdgeRange
leg to pair = record { low = pair.0; high = pair.1; to = to }

-- the ranges of an edge, each with its target
abbrev pub legs_of : Edge → List EdgeRange
legs_of e = map (leg e.to) e.on

-- the range leads to `t` on this character
abbrev pub RangeLeads : ℕ → ℕ → EdgeRange → Type 0
RangeLeads c t s = (s.low ≤ c) × (c ≤ s.high) × (s.to ≡ t)

-- some characters, from the first one to the last one
abbrev pub IsRange : EdgeRange → Type 0
IsRange s = (s.low ≤ s.high) × (s.high ≤ greatest_character)

-- the ranges of the edges that leave one of these states
pub record AreLeaving (edges : List Edge) (list : List ℕ) (legs : List EdgeRange) : Type 0 where
  pub exact : (c t : ℕ) → Any (RangeLeads c t) legs ↔ StepsFromSome edges list c t

-- where ranges begin and stop, in order, and the end of the characters
pub record AreBorders (legs : List EdgeRange) (borders : List ℕ) : Type 0 where
  pub begins : (s : EdgeRange) → Contains legs s → Contains borders s.low
  pub stops : (s : EdgeRange) → Contains legs s → Contains borders (s.high + 1)
  pub last : Contains borders (greatest_character + 1)
  pub top : (b : ℕ) → Contains borders b → b ≤ greatest_character + 1
  pub order : IsNonDecreasingBy (λ b. b) borders

-- intervals of characters, in order, in which all characters lie; each of these ranges has all characters of an interval or none
pub record AreUniformIntervals (legs : List EdgeRange) (marks : List (ℕ × ℕ)) : Type 0 where
  pub order : IsNonDecreasingBy (λ m. m.0) marks
  pub inside : (m : ℕ × ℕ) → Contains marks m → (m.0 ≤ m.1) × (m.1 ≤ greatest_character)
  pub covering : (c : ℕ) → c ≤ greatest_character → IsTrue (in_ranges marks c)
  pub uniform : (m : ℕ × ℕ) → Contains marks m → (s : EdgeRange) → Contains legs s
      → (c d t : ℕ) → m.0 ≤ c → c ≤ m.1 → m.0 ≤ d → d ≤ m.1 → RangeLeads c t s → RangeLeads d t s

-- pairs of the first character of an interval and a state to which some range leads on it, in the order of the characters
pub record AreHits (legs : List EdgeRange) (marks hits : List (ℕ × ℕ)) : Type 0 where
  pub order : IsNonDecreasingBy (λ h. h.0) hits
  pub exact : (c t : ℕ) → Contains hits (c, t) ↔ (Any (λ m. m.0 ≡ c) marks × Any (RangeLeads c t) legs)
