-- The edges of the machines of replacement.
use Rattle.std.specs.Prelude.{◌≡◌, ℕ, suc, pos, ◌+◌, ◌-◌, ◌≤◌, ◌<◌, nat_eq, nat_le, nat_lt, if◌then◌else◌, List, [], ◌∷◌, ◌++◌, length, take, Contains}
use Rattle.sv_terms.specs.declared.transducer.Item.{Item}
use Rattle.sv_terms.specs.declared.transducer.Item.TheVariants.{Text, Shift}
use Rattle.sv_terms.specs.declared.transducer.TransEdge.{TransEdge}
use Rattle.sv_terms.specs.declared.transducer.Transducer.{Transducer}
use Rattle.replace_machines.specs.Borders.{IsNext}
use Rattle.replace_machines.specs.Rows.{at}
use Rattle.sv_word.specs.Words.{greatest_character}

-- in the state that holds the first q characters, what is written where the next characters lead to j characters held: the replacement where they are the whole pattern, and else what no occurrence can begin with any more
abbrev pub items_for : List ℕ → List ℕ → ℕ → ℕ → List Item
items_for pattern by q j =
    if nat_eq j (length pattern) then Text by ∷ []
    else (if nat_eq j 0 then Text (take q pattern) ∷ (Shift (pos 0) ∷ []) else (Text (take (q + 1 - j) pattern) ∷ []))

-- `after` is the state behind an occurrence
abbrev pub to_for : List ℕ → ℕ → ℕ → ℕ
to_for pattern after j = if nat_eq j (length pattern) then after else j

abbrev pub edge_for : List ℕ → List ℕ → ℕ → ℕ → ℕ → ℕ → ℕ → TransEdge
edge_for pattern by after q lo hi j = record { from = q; lo = lo; hi = hi; items = items_for pattern by q j; to = to_for pattern after j }

-- the edges of a row, from the character `low` on: one for each of its characters, and one for each gap between them
abbrev pub edges_of : (ℕ → ℕ → ℕ → TransEdge) → ℕ → List (ℕ × ℕ) → List TransEdge
edges_of edge low [] = if nat_le low greatest_character then edge low greatest_character 0 ∷ [] else []
edges_of edge low (p ∷ row) = (if nat_lt low p.0 then edge low (p.0 - 1) 0 ∷ [] else []) ++ (edge p.0 p.0 p.1 ∷ edges_of edge (suc p.0) row)

-- the edges of the states below `count`
pub record AreEdges (pattern by : List ℕ) (after count : ℕ) (edges : List TransEdge) : Type 0 where
  pub edge : (e : TransEdge) → Contains edges e → (e.from < count) × (e.lo ≤ e.hi) × (e.hi ≤ greatest_character)
      × ((c : ℕ) → e.lo ≤ c → c ≤ e.hi → (j : ℕ) × IsNext (at pattern) e.from c j × (e ≡ edge_for pattern by after e.from e.lo e.hi j))
  pub some : (q c : ℕ) → q < count → c ≤ greatest_character → (e : TransEdge) × Contains edges e × (e.from ≡ q) × (e.lo ≤ c) × (c ≤ e.hi)

-- the ends of the states below `count`: each writes the characters that it holds
pub record AreEnds (pattern : List ℕ) (count : ℕ) (ends : List (ℕ × List ℕ)) : Type 0 where
  pub ending : (e : ℕ × List ℕ) → Contains ends e → (e.0 < count) × (e.1 ≡ take e.0 pattern)
  pub some : (q : ℕ) → q < count → Contains ends (q, take q pattern)

-- it writes what it reads
abbrev pub copy_edge : ℕ → TransEdge
copy_edge s = record { from = s; lo = 0; hi = greatest_character; items = Shift (pos 0) ∷ []; to = s }

-- it writes the replacement and then what it reads
abbrev pub front_edge : List ℕ → TransEdge
front_edge by = record { from = 0; lo = 0; hi = greatest_character; items = Text by ∷ (Shift (pos 0) ∷ []); to = 1 }

abbrev pub machine : ℕ → List TransEdge → List (ℕ × List ℕ) → Transducer
machine states edges ends = record { states = states; start = 0; edges = edges; ends = ends }
