-- The edges of the machines.
use Rattle.std.specs.Prelude.{◌≡◌, ℕ, suc, pos, ◌-◌, ◌≤◌, ◌<◌, nat_eq, nat_le, nat_lt, if◌then◌else◌, List, [], ◌∷◌, ◌++◌, length, Contains}
use Rattle.sv_word.specs.Words.{greatest_character}
use Rattle.sv_terms.specs.Language.{Word}
use Rattle.sv_terms.specs.declared.transducer.Item.TheVariants.{Text, Shift}
use Rattle.sv_terms.specs.declared.transducer.TransEdge.{TransEdge}
use Rattle.sv_terms.specs.declared.transducer.Transducer.{Transducer}
use Rattle.replace_machines.specs.Borders.{IsNext}
use Rattle.replace_machines.specs.Rows.{at}
use Rattle.segment_machines.specs.Marked.{phase}

-- it writes the phase r and then the character that it reads
abbrev pub mark_edge : ℕ → ℕ → ℕ → ℕ → ℕ → TransEdge
mark_edge s r lo hi to = record { from = s; lo = lo; hi = hi; items = Text (phase r ∷ []) ∷ (Shift (pos 0) ∷ []); to = to }

-- the same at every character
abbrev pub any_edge : ℕ → ℕ → ℕ → TransEdge
any_edge s r to = mark_edge s r 0 greatest_character to

-- it reads the phase h and writes nothing; state 1 is to come where this is the phase s that is picked, and else state 2
abbrev pub phase_edge : ℕ → ℕ → TransEdge
phase_edge s h = record { from = 0; lo = phase h; hi = phase h; items = []; to = if nat_eq h s then 1 else 2 }

-- it writes the character that it reads
abbrev pub take_edge : TransEdge
take_edge = record { from = 1; lo = 0; hi = greatest_character; items = Shift (pos 0) ∷ []; to = 0 }

-- it passes over the character
abbrev pub pass_edge : TransEdge
pass_edge = record { from = 2; lo = 0; hi = greatest_character; items = []; to = 0 }

abbrev pub machine : ℕ → ℕ → List TransEdge → List (ℕ × Word) → Transducer
machine states start edges ends = record { states = states; start = start; edges = edges; ends = ends }

-- the edges in phase 1 by a row, from the character `low` on, but for those to a state that isn't below the limit
abbrev pub row_edges : ℕ → ℕ → ℕ → List (ℕ × ℕ) → List TransEdge
row_edges limit s low [] = if nat_le low greatest_character then mark_edge s 1 low greatest_character 0 ∷ [] else []
row_edges limit s low (p ∷ row) =
    (if nat_lt low p.0 then mark_edge s 1 low (p.0 - 1) 0 ∷ [] else [])
    ++ ((if nat_lt p.1 limit then mark_edge s 1 p.0 p.0 p.1 ∷ [] else []) ++ row_edges limit s (suc p.0) row)

-- an edge in phase 1 from the state s: on its characters, the first q of the pattern are followed by a state below the limit
pub record IsNextEdge (pattern : Word) (limit q s : ℕ) (e : TransEdge) : Type 0 where
  pub lo : ℕ
  pub hi : ℕ
  pub j : ℕ
  pub is : e ≡ mark_edge s 1 lo hi j
  pub order : lo ≤ hi
  pub top : hi ≤ greatest_character
  pub below : j < limit
  pub leads : (c : ℕ) → lo ≤ c → c ≤ hi → IsNext (at pattern) q c j

-- there is one for the character c, if the state that follows is below the limit
pub record HasNext (pattern : Word) (limit q s c : ℕ) (edges : List TransEdge) : Type 0 where
  pub j : ℕ
  pub next : IsNext (at pattern) q c j
  pub has : j < limit → (lo hi : ℕ) × Contains edges (mark_edge s 1 lo hi j) × (lo ≤ c) × (c ≤ hi)

-- the edges of the states below `count`
pub record AreHeldEdges (pattern : Word) (limit count : ℕ) (edges : List TransEdge) : Type 0 where
  pub each : (e : TransEdge) → Contains edges e → (q : ℕ) × (q < count) × IsNextEdge pattern limit q q e
  pub some : (q c : ℕ) → q < count → c ≤ greatest_character → HasNext pattern limit q q c edges

-- an edge of a machine that looks for the pattern: in a state that holds a part of the pattern; from the first state, which is the limit, in phase 1; from the first state to itself; and after an occurrence
pub data IsSeekEdge (pattern : Word) (limit : ℕ) (e : TransEdge) : Type 0 where
  held : (q : ℕ) → q < length pattern → IsNextEdge pattern limit q q e → IsSeekEdge pattern limit e
  first : IsNextEdge pattern limit 0 limit e → IsSeekEdge pattern limit e
  before : e ≡ any_edge limit 0 limit → IsSeekEdge pattern limit e
  later : length pattern < limit → e ≡ any_edge (length pattern) 2 (length pattern) → IsSeekEdge pattern limit e

pub record AreSeekEdges (pattern : Word) (limit : ℕ) (edges : List TransEdge) : Type 0 where
  pub each : (e : TransEdge) → Contains edges e → IsSeekEdge pattern limit e
  pub held_some : (q c : ℕ) → q < length pattern → c ≤ greatest_character → HasNext pattern limit q q c edges
  pub first_some : (c : ℕ) → c ≤ greatest_character → HasNext pattern limit 0 limit c edges
  pub before_has : Contains edges (any_edge limit 0 limit)
  pub later_has : length pattern < limit → Contains edges (any_edge (length pattern) 2 (length pattern))

-- one end at each state below `count`, where nothing is written
pub record AreEmptyEnds (count : ℕ) (ends : List (ℕ × Word)) : Type 0 where
  pub each : (e : ℕ × Word) → Contains ends e → (e.0 < count) × (e.1 ≡ [])
  pub some : (q : ℕ) → q < count → Contains ends (q, [])
