-- Tables of deterministic machines: where each state leads on each character.
use Rattle.std.specs.Prelude.{◌≡◌, ℕ, ◌+◌, ◌<◌, ◌≤◌, ◌↔◌, Bool, true, false, nat_lt, if◌then◌else◌, List, [], ◌∷◌, Option, Some, None, slice_get}
use Rattle.std.specs.List.{AllByRecursion}
use Rattle.sv_word.specs.Words.{greatest_character}
use Rattle.sv_terms.specs.Language.{Word}
use Rattle.machine_core.specs.declared.graph.Graph.{Graph}
use Rattle.machine_core.specs.Edges.{EndsAt, StepsBy}
use Rattle.part_machines.specs.declared.table.TableLeg.{TableLeg}
use Rattle.part_machines.specs.declared.table.TableRow.{TableRow}

abbrev pub leg : ℕ → ℕ → TableLeg
leg stop to = record { stop = stop; to = to }

abbrev pub row_of : List TableLeg → ℕ → TableRow
row_of legs rest = record { legs = legs; rest = rest }

-- where a character leads: along the first leg that stops behind it, and behind all legs to the state `rest`
abbrev pub lead : ℕ → List TableLeg → ℕ → ℕ
lead rest [] c = rest
lead rest (l ∷ legs) c = if nat_lt c l.stop then l.to else lead rest legs c

-- by the row of a state; one without a row stays
abbrev pub lead_by : Option TableRow → ℕ → ℕ → ℕ
lead_by None s c = s
lead_by (Some row) s c = lead row.rest row.legs c

abbrev pub next : List TableRow → ℕ → ℕ → ℕ
next rows s c = lead_by (slice_get rows s) s c

-- the state after a word
abbrev pub after : (ℕ → ℕ → ℕ) → ℕ → Word → ℕ
after step s [] = s
after step s (c ∷ w) = after step (step s c) w

-- no leg stops past the last character
abbrev pub IsRow : TableRow → Type 0
IsRow row = AllByRecursion (λ (l : TableLeg). l.stop ≤ greatest_character + 1) row.legs

-- the steps on the characters from `start` on and below `stop`, from one state to another one below `states`
abbrev pub StepsAlong : ℕ → ℕ → ℕ → ℕ → ℕ → ℕ → ℕ → List ℕ → ℕ → Type 0
StepsAlong at start stop to states s c cost t = (at ≡ s) × (start ≤ c) × (c < stop) × ([] ≡ cost) × (to ≡ t) × (t < states)

-- the steps of one row on the characters below `stop`, to states below `states`
abbrev pub StepsOfRow : ℕ → TableRow → ℕ → ℕ → ℕ → ℕ → List ℕ → ℕ → Type 0
StepsOfRow at row stop states s c cost t = (at ≡ s) × (c < stop) × ([] ≡ cost) × (lead row.rest row.legs c ≡ t) × (t < states)

-- in a table's state a word may end, or with false may not
abbrev pub IsEndState : Bool → ℕ → ℕ → Type 0
IsEndState true last s = s ≡ last
IsEndState false last s = s ≡ last → ⊥

-- the machine steps as a table says, among its own states; a word may end in the state `last` alone, or with false in all states but it
pub record IsOfTable (step : ℕ → ℕ → ℕ) (last : ℕ) (holds : Bool) (m : Graph) : Type 0 where
  pub plain : m.registers ≡ 0
  pub steps : (s c : ℕ) (cost : List ℕ) (t : ℕ) → StepsBy m.edges s c cost t ↔ ((s < m.states) × (c ≤ greatest_character) × ([] ≡ cost) × (step s c ≡ t) × (t < m.states))
  pub ends : (s : ℕ) (cost : List ℕ) → EndsAt m.ends s cost ↔ ((s < m.states) × ([] ≡ cost) × IsEndState holds last s)
