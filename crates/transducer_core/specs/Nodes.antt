-- Nodes from which words are written, each a character and then what another node writes.
use Rattle.std.specs.Prelude.{◌≡◌, ◌↔◌, ◌⊎◌, ℕ, ◌<◌, ◌≤◌, List, [], ◌∷◌, ◌++◌, length, slice_get, Some, Contains, IsTrue}
use Rattle.sv_word.specs.Words.{greatest_character}
use Rattle.transducer_core.specs.declared.node.OutputNode.{OutputNode}

-- the word is written from this node on
abbrev pub NodeSpells : List OutputNode → List ℕ → OutputNode → Type 0
NodeSpells ns [] n = IsTrue n.ends
NodeSpells ns (c ∷ w) n = (to : ℕ) × (next : OutputNode) × Contains {X = ℕ × ℕ} n.firsts (c, to) × (slice_get ns to ≡ Some next) × NodeSpells ns w next

-- and from the node at a place
abbrev pub Spells : List OutputNode → ℕ → List ℕ → Type 0
Spells ns k w = (n : OutputNode) × (slice_get ns k ≡ Some n) × NodeSpells ns w n

-- a node leads on characters to others that are there
abbrev pub LeadsWithin : ℕ → OutputNode → Type 0
LeadsWithin count n = (c to : ℕ) → Contains {X = ℕ × ℕ} n.firsts (c, to) → (to < count) × (c ≤ greatest_character)

-- so does each of them
abbrev pub LeadToNodes : List OutputNode → Type 0
LeadToNodes ns = (n : OutputNode) → Contains ns n → LeadsWithin (length ns) n

-- more nodes, which leave those before as they were
pub record AreGrown (ns ms : List OutputNode) : Type 0 where
  pub more : List OutputNode
  pub are : ms ≡ ns ++ more
  pub closed : LeadToNodes ms

-- what is written from the place k of the new nodes on is the text, and then what the old ones write from a place on
pub record IsChain (ns ms : List OutputNode) (text : List ℕ) (target k : ℕ) : Type 0 where
  pub grown : AreGrown ns ms
  pub within : k < length ms
  pub spells : (w : List ℕ) → Spells ms k w ↔ ((r : List ℕ) × (w ≡ text ++ r) × Spells ns target r)

-- a node that writes what another did, and besides the text and then what the old ones write from a place on
pub record AddsText (ns ms : List OutputNode) (old new : OutputNode) (text : List ℕ) (target : ℕ) : Type 0 where
  pub grown : AreGrown ns ms
  pub within : LeadsWithin (length ms) new
  pub spells : (w : List ℕ) → NodeSpells ms w new ↔ (NodeSpells ns w old ⊎ ((r : List ℕ) × (w ≡ text ++ r) × Spells ns target r))
