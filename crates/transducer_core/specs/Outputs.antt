-- The nodes of what a transducer may write, for the end of a word and for one character more.
use Rattle.std.specs.Prelude.{◌≡◌, ◌↔◌, ◌⊎◌, ℕ, ◌<◌, List, [], ◌++◌, length, slice_get, Some, Contains}
use Rattle.sv_terms.specs.Transduction.{Transduces, Writes}
use Rattle.sv_terms.specs.declared.transducer.TransEdge.{TransEdge}
use Rattle.sv_terms.specs.declared.transducer.Transducer.{Transducer}
use Rattle.transducer_core.specs.Nodes.{LeadToNodes, AreGrown, LeadsWithin, NodeSpells, Spells}
use Rattle.transducer_core.specs.declared.node.OutputNode.{OutputNode}

-- a node that writes what another did, and besides the words of Q
pub record AddsWords (ns ms : List OutputNode) (old new : OutputNode) (Q : List ℕ → Type 0) : Type 0 where
  pub grown : AreGrown ns ms
  pub within : LeadsWithin (length ms) new
  pub spells : (w : List ℕ) → NodeSpells ms w new ↔ (NodeSpells ns w old ⊎ Q w)

-- a node that writes the words of P, over nodes that may be more than those before
pub record MakesNode (ns ms : List OutputNode) (n : OutputNode) (P : List ℕ → Type 0) : Type 0 where
  pub grown : AreGrown ns ms
  pub within : LeadsWithin (length ms) n
  pub spells : (w : List ℕ) → NodeSpells ms w n ↔ P w

-- the place of a node for each of so many states, which writes the words of P
pub record MakesPlaces (ns ms : List OutputNode) (count : ℕ) (places : List ℕ) (P : ℕ → List ℕ → Type 0) : Type 0 where
  pub grown : AreGrown ns ms
  pub many : length places ≡ count
  pub within : (s k : ℕ) → slice_get places s ≡ Some k → k < length ms
  pub spells : (s k : ℕ) → slice_get places s ≡ Some k → (w : List ℕ) → Spells ms k w ↔ P s w

-- the node at place 0 writes the empty word alone
pub record IsBase (ns : List OutputNode) : Type 0 where
  pub closed : LeadToNodes ns
  pub some : 0 < length ns
  pub nothing : (w : List ℕ) → Spells ns 0 w ↔ (w ≡ [])

-- one of the ends writes this word in the state s
abbrev pub EndsBy : List (ℕ × List ℕ) → ℕ → List ℕ → Type 0
EndsBy ends s w = Contains {X = ℕ × List ℕ} ends (s, w)

-- the places of states are those of nodes
abbrev pub ArePlaces : List OutputNode → List ℕ → Type 0
ArePlaces ns places = (s k : ℕ) → slice_get places s ≡ Some k → k < length ns

-- the word is what the edge writes over the character c from the state s, and then what is written from the place of the state behind it
abbrev pub OverEdge : List OutputNode → List ℕ → ℕ → ℕ → TransEdge → List ℕ → Type 0
OverEdge ns places s c e w = (text rest : List ℕ) × (k : ℕ) × Transduces s c text e × (slice_get places e.to ≡ Some k) × (w ≡ text ++ rest) × Spells ns k rest

abbrev pub OverEdges : List OutputNode → List ℕ → ℕ → ℕ → List TransEdge → List ℕ → Type 0
OverEdges ns places s c edges w = (e : TransEdge) × Contains edges e × OverEdge ns places s c e w

-- from the place k what t may write for the word is written
pub record IsOutput (t : Transducer) (read : List ℕ) (ns : List OutputNode) (k : ℕ) : Type 0 where
  pub closed : LeadToNodes ns
  pub within : k < length ns
  pub spells : (w : List ℕ) → Spells ns k w ↔ Writes t t.start read w
