-- One definition of a flat cube carried backward.
use Rattle.std.specs.Prelude.{◌≡◌, ◌↔◌, ◌+◌, ◌*◌, ◌<◌, ◌^◌, ℕ, List, Some, slice_get}
use Rattle.machine_core.specs.declared.graph.Graph.{Graph}
use Rattle.machine_core.specs.Edges.{edges_top, ends_top}
use Rattle.machine_core.specs.Graphs.{graph_top}
use Rattle.flat_cubes.specs.Satisfying.{ComesBy}
use Rattle.flat_cubes.specs.Straight.{IsFormedBy}
use Rattle.cube_bounds.specs.NumberLaws.{slope_of, base_of}
use Rattle.flat_cubes.specs.declared.definition.By.{By}
use Rattle.flat_cubes.specs.declared.definition.By.TheVariants as by
use Rattle.flat_cubes.specs.declared.definition.Definition.{Definition}
use Rattle.flat_cubes.specs.declared.flat.Flat.{Flat}
use Rattle.sv_terms.specs.declared.transducer.Transducer.{Transducer}
use Rattle.backward.specs.Families.{Family, Words, HasMachine, Conf}
use Rattle.backward.specs.Pieces.{ConfCut}
use Rattle.backward.specs.Carried.{CanCut}
use Rattle.backward.specs.Definitions.{definition, reads, RelatesBy}
use Rattle.backward.specs.Chains.{ConfBefore}
use Rattle.backward.specs.Made.{IsCut, IsPassed}
use Rattle.backward.specs.Back.{AreBack}
use Rattle.backward.specs.Runs.{Runs, run_words}
use Rattle.backward.specs.declared.leaf_state.LeafState.{LeafState}

-- the definition at this place is a concatenation that can be carried at these cuts
pub record CanCutAt (flat : Flat) (place : ℕ) (ms : Family) (cuts : List ℕ) : Type 0 where
  pub variable : ℕ
  pub pieces : List ℕ
  pub target : Graph
  pub defined : slice_get flat.definitions place ≡ Some (definition variable (by.Concat pieces))
  pub can : CanCut ms variable target pieces cuts

-- a machine can be carried by a definition through a transducer to the variable v, which has the machine k: it is another one,
-- a transducer of the text is well formed, and the costs fit, whatever a transducer for this definition writes in one step
pub record CanPassBy (ms : Family) (x : ℕ) (target : Graph) (v : ℕ) (k : Graph) (b : By) : Type 0 where
  pub machine : HasMachine ms x target
  pub other : v ≡ x → ⊥
  pub reader : HasMachine ms v k
  pub formed : IsFormedBy b
  pub fits : graph_top k + (edges_top target.edges * (slope_of b + base_of b) + ends_top target.ends) < 2 ^ 64

-- the definition at this place is one through a transducer that can be carried
pub record CanPassAt (flat : Flat) (place : ℕ) (ms : Family) : Type 0 where
  pub variable : ℕ
  pub reader : ℕ
  pub how : By
  pub target : Graph
  pub machine : Graph
  pub defined : slice_get flat.definitions place ≡ Some (definition variable how)
  pub through : reads how ≡ Some reader
  pub can : CanPassBy ms variable target reader machine how

-- the configurations are those of the family before with the machine of the variable that is defined at this place cut at these states
abbrev pub IsCutAt : Flat → ℕ → List ℕ → LeafState → LeafState → Type 0
IsCutAt flat place cuts old new = (x : ℕ) (pieces : List ℕ) → slice_get flat.definitions place ≡ Some (definition x (by.Concat pieces))
    → (words : Words) (totals : List ℕ) → Conf new.registers new.machines words totals ↔ ConfCut old.registers old.machines x pieces cuts words totals

-- the configurations are those which, with some word put for the variable that is defined at this place, one that comes by the definition, are in the family before
abbrev pub IsPassedAt : Flat → ℕ → LeafState → LeafState → Type 0
IsPassedAt flat place old new = (x : ℕ) (b : By) → slice_get flat.definitions place ≡ Some (definition x b)
    → (words : Words) (totals : List ℕ) → Conf new.registers new.machines words totals ↔ ConfBefore old.registers old.machines x b words totals

-- the one of a concatenation, or the other of a definition through a transducer
abbrev pub Either : (List ℕ → Type 0) → (By → Type 0) → By → Type 0
Either OfPieces Of (by.Concat pieces) = OfPieces pieces
Either OfPieces Of b = Of b

-- the family came of the one before through a transducer for the definition of x
abbrev pub IsPassedBy : ℕ → Family → LeafState → By → Type 0
IsPassedBy x ms ns b = (t : Transducer) × (v : ℕ) × (reads b ≡ Some v) × RelatesBy b t × IsPassed ms x v t ns

-- the family was made of the one before by the definition of x, at these cuts where it is a concatenation
abbrev pub IsMadeBy : By → ℕ → List ℕ → Family → LeafState → Type 0
IsMadeBy b x cuts ms ns = Either (λ pieces. IsCut ms x pieces cuts ns) (IsPassedBy x ms ns) b

abbrev pub IsMadeAt : Flat → ℕ → List ℕ → Family → LeafState → Type 0
IsMadeAt flat place cuts ms ns = (d : Definition) → slice_get flat.definitions place ≡ Some d → IsMadeBy d.by d.variable cuts ms ns

-- the runs are taken back, and the word of the variable that is defined at this place comes by the definition
abbrev pub AreBackAt : Flat → ℕ → Family → Runs → Runs → Type 0
AreBackAt flat place ms old new = (d : Definition) → slice_get flat.definitions place ≡ Some d
    → AreBack ms d.variable old new × ComesBy (run_words new) (run_words new d.variable) d.by
