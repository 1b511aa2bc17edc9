-- How a family came of another one, so that its runs are taken back.
use Rattle.std.specs.Prelude.{◌≡◌, ℕ, List, [], ◌∷◌, ◌++◌, Some, None, slice_set}
use Rattle.machine_core.specs.declared.graph.Graph.{Graph}
use Rattle.sv_terms.specs.declared.transducer.Transducer.{Transducer}
use Rattle.backward.specs.Families.{Family, HasMachine, without}
use Rattle.backward.specs.Pieces.{first_of}
use Rattle.backward.specs.Kept.{IsKeptMeeting}
use Rattle.backward.specs.PreBuilt.{IsPreKept}
use Rattle.backward.specs.declared.meeting.MetPart.{MetPart}
use Rattle.backward.specs.declared.leaf_state.LeafState.{LeafState}
use Rattle.backward.specs.declared.leaf_state.FamilyOrigin.TheVariants as made
use Rattle.backward.specs.declared.through.PreBuilt.{PreBuilt}

-- the machine `target` was met with the machines of these pieces, from these states on, the last piece first; the meetings stand in that order
abbrev pub AreMet : Graph → List ℕ → List ℕ → Family → List MetPart → Family → Type 0
AreMet target [] [] base qs ns = (qs ≡ []) × (ns ≡ base)
AreMet target [] (p ∷ ps) base qs ns = ⊥
AreMet target (s ∷ ss) [] base qs ns = ⊥
AreMet target (s ∷ ss) (p ∷ ps) base qs ns = (mid : Family) × (k : Graph) × (q : MetPart) × (rest : List MetPart)
    × AreMet target ss ps base rest mid × HasMachine mid p k × IsKeptMeeting k target s (first_of ss) q × (qs ≡ rest ++ q ∷ []) × (ns ≡ slice_set mid p (Some q.small.machine))

-- the machine of x was met with those of the pieces
pub record IsCut (ms : Family) (x : ℕ) (pieces cuts : List ℕ) (ns : LeafState) : Type 0 where
  pub target : Graph
  pub machine : HasMachine ms x target
  pub meetings : List MetPart
  pub made : ns.made ≡ made.Cut meetings
  pub met : AreMet target (0 ∷ cuts) pieces (without ms x) meetings ns.machines

-- the pre-image of the machine of x was met with the machine of v
pub record IsPassed (ms : Family) (x v : ℕ) (t : Transducer) (ns : LeafState) : Type 0 where
  pub target : Graph
  pub machine : HasMachine ms x target
  pub reader : Graph
  pub reads : HasMachine ms v reader
  pub other : v ≡ x → ⊥
  pub before : PreBuilt
  pub meeting : MetPart
  pub made : ns.made ≡ made.Through t before meeting
  pub pre : IsPreKept t target before
  pub kept : IsKeptMeeting reader before.built.machine 0 None meeting
  pub machines : ns.machines ≡ slice_set (without ms x) v (Some meeting.small.machine)
