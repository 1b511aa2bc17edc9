-- Edges by the states that they lead to, and states marked over them.
use Rattle.std.specs.Prelude.{◌≡◌, ℕ, suc, ◌<◌, ◌≤◌, ◌↔◌, ◌⊎◌, Bool, true, List, length, slice_get, Some}
use Rattle.machine_core.specs.declared.edge.Edge.{Edge}
use Rattle.trim_search.specs.Explored.{HasNoRepeat, AllNamed}

-- the last of the edges before the place `bound` that lead to this state, as its place plus 1; 0 where none does
pub record IsLastInto (edges : List Edge) (to bound last : ℕ) : Type 0 where
  pub within : last ≤ bound
  pub leads : (p : ℕ) (d : Edge) → last ≡ suc p → slice_get edges p ≡ Some d → d.to ≡ to
  pub none : (p : ℕ) (d : Edge) → last ≤ p → p < bound → slice_get edges p ≡ Some d → d.to ≡ to → ⊥

-- of the first `count` edges, the last one to each state, and for each edge the last one before it to the same state
pub record AreIncoming (states : ℕ) (edges : List Edge) (count : ℕ) (last before : List ℕ) : Type 0 where
  pub rows : length last ≡ states
  pub size : length before ≡ count
  pub to : (s n : ℕ) → slice_get last s ≡ Some n → IsLastInto edges s count n
  pub earlier : (p n : ℕ) (d : Edge) → slice_get before p ≡ Some n → slice_get edges p ≡ Some d → IsLastInto edges d.to p n

-- each marked state is listed once, and no other
pub record AreListed (marks : List Bool) (found : List ℕ) : Type 0 where
  pub known : (s : ℕ) → slice_get marks s ≡ Some true → (i : ℕ) × (slice_get found i ≡ Some s)
  pub marked : AllNamed (λ s. slice_get marks s ≡ Some true) found
  pub once : HasNoRepeat found

-- the states with the fact are marked beside those that were, and listed after them
pub record AreMarkedToo (P : ℕ → Type 0) (seen : List Bool) (old : List ℕ) (marks : List Bool) (found : List ℕ) : Type 0 where
  pub size : length marks ≡ length seen
  pub set : (s : ℕ) → slice_get marks s ≡ Some true ↔ ((slice_get seen s ≡ Some true) ⊎ P s)
  pub listed : AreListed marks found
  pub kept : (i s : ℕ) → slice_get old i ≡ Some s → slice_get found i ≡ Some s
