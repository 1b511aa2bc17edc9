-- The search of a run that reads one word and writes another: after each character of the word that is read, where a run may stand.
use Rattle.std.specs.Prelude.{◌≡◌, ℕ, ◌≤◌, ◌<◌, List, [], ◌∷◌, ◌++◌, length, drop, reverse, slice_get, Some, Contains}
use Rattle.sv_terms.specs.Transduction.{Transduces, Follows}
use Rattle.sv_terms.specs.declared.transducer.TransEdge.{TransEdge}
use Rattle.sv_terms.specs.declared.transducer.Transducer.{Transducer}
use Rattle.transducer_core.specs.declared.reached.Reached.{Reached}

-- an edge leads from an entry of the layer before, over the character c, and writes what the entry has done more
pub record ComesFrom (t : Transducer) (written : List ℕ) (c : ℕ) (layer : List Reached) (r : Reached) : Type 0 where
  pub «from» : Reached
  pub edge : TransEdge
  pub text : List ℕ
  pub before : slice_get layer r.before ≡ Some «from»
  pub place : slice_get t.edges r.edge ≡ Some edge
  pub moves : Transduces «from».state c text edge
  pub state : r.state ≡ edge.to
  pub rest : drop «from».done written ≡ text ++ drop r.done written
  pub within : r.done ≤ length written

-- where an edge leads from an entry, there is an entry in the next layer
abbrev pub IsTaken : List ℕ → ℕ → List Reached → Reached → TransEdge → Type 0
IsTaken written c next p e = (text rest : List ℕ) → Transduces p.state c text e → drop p.done written ≡ text ++ rest
    → (r : Reached) × Contains next r × (r.state ≡ e.to) × (drop r.done written ≡ rest)

-- the next layer, as far as the entries before `upto` go, and the edges before `edges` of this one
pub record IsPartLayer (t : Transducer) (written : List ℕ) (c : ℕ) (layer : List Reached) (upto edges : ℕ) (next : List Reached) : Type 0 where
  pub sound : (r : Reached) → Contains next r → ComesFrom t written c layer r
  pub past : (i : ℕ) (p : Reached) (e : TransEdge) → i < upto → slice_get layer i ≡ Some p → Contains t.edges e → IsTaken written c next p e
  pub here : (k : ℕ) (p : Reached) (e : TransEdge) → k < edges → slice_get layer upto ≡ Some p → slice_get t.edges k ≡ Some e → IsTaken written c next p e

-- the next layer, whole
pub record IsLayer (t : Transducer) (written : List ℕ) (c : ℕ) (layer next : List Reached) : Type 0 where
  pub sound : (r : Reached) → Contains next r → ComesFrom t written c layer r
  pub total : (p : Reached) (e : TransEdge) → Contains layer p → Contains t.edges e → IsTaken written c next p e

-- from a layer on, one more layer for each character
abbrev pub AreLayers : Transducer → List ℕ → List Reached → List ℕ → List (List Reached) → Type 0
AreLayers t written layer [] layers = layers ≡ []
AreLayers t written layer (c ∷ read) [] = ⊥
AreLayers t written layer (c ∷ read) (next ∷ layers) = IsLayer t written c layer next × AreLayers t written next read layers

-- the last of the layers
abbrev pub last_layer : List Reached → List (List Reached) → List Reached
last_layer layer [] = layer
last_layer layer (next ∷ layers) = last_layer next layers

-- the edge leads from the entry over the character c, and then `done` characters of the written word are done
pub record LedTo (written : List ℕ) (c : ℕ) (p : Reached) (e : TransEdge) (done : ℕ) : Type 0 where
  pub text : List ℕ
  pub moves : Transduces p.state c text e
  pub rest : drop p.done written ≡ text ++ drop done written
  pub within : done ≤ length written

-- before anything is read
abbrev pub first_of : Transducer → Reached
first_of t = record { state = t.start; done = 0; edge = 0; before = 0 }

-- the layers of a search over the whole word that is read
pub record AreSearchLayers (t : Transducer) (read written : List ℕ) (layers : List (List Reached)) : Type 0 where
  pub later : List (List Reached)
  pub is : layers ≡ (first_of t ∷ []) ∷ later
  pub are : AreLayers t written (first_of t ∷ []) read later

-- a step back: the entry of the layer before, and the path from it
pub record IsBackWalk (t : Transducer) (w read : List ℕ) (layers : List (List Reached)) (final : Reached) (i at : ℕ) (places : List ℕ) : Type 0 where
  pub layer : List Reached
  pub entry : Reached
  pub path : List ℕ
  pub is_layer : slice_get layers i ≡ Some layer
  pub is_entry : slice_get layer at ≡ Some entry
  pub follows : Follows t entry.state places (drop i read) path final.state
  pub rest : drop entry.done w ≡ path ++ drop final.done w

-- a layer has an entry at this place
pub record HasEntry (layers : List (List Reached)) (i at : ℕ) : Type 0 where
  pub layer : List Reached
  pub is_layer : slice_get layers i ≡ Some layer
  pub within : at < length layer

pub record IsEntry (layers : List (List Reached)) (i at : ℕ) (r : Reached) : Type 0 where
  pub layer : List Reached
  pub is_layer : slice_get layers i ≡ Some layer
  pub is_entry : slice_get layer at ≡ Some r

-- on the way back from an entry of the last layer where the word may end; `back` lists the edges, the last one first
pub record IsWalking (t : Transducer) (w read : List ℕ) (layers : List (List Reached)) (i at : ℕ) (back : List ℕ) : Type 0 where
  pub final : Reached
  pub ending : Contains t.ends (final.state, drop final.done w)
  pub walk : IsBackWalk t w read layers final i at (reverse back)
