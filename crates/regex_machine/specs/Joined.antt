-- Machines without registers, and their words.
use Rattle.std.specs.Prelude.{◌≡◌, ◌≤◌, ◌↔◌, ⊤, List, [], ◌∷◌, Contains}
use Rattle.machine_core.specs.declared.graph.Graph.{Graph}
use Rattle.machine_core.specs.Graphs.{Accepts}
use Rattle.sv_terms.specs.Language.{Word, Language, In}
use Rattle.sv_terms.specs.declared.regex.Regex.{Regex}
use Rattle.sv_terms.specs.Bounds.{size}

-- the words of a machine without registers
abbrev pub WordsOf : Graph → Language
WordsOf m w = Accepts m w []

-- the machine has no registers, and these words
pub record HasWords (L : Word → Type 0) (m : Graph) : Type 0 where
  pub plain : m.registers ≡ 0
  pub words : (w : Word) → WordsOf m w ↔ L w

-- none of the machines has registers
abbrev pub HaveNoRegisters : List Graph → Type 0
HaveNoRegisters ms = (m : Graph) → Contains ms m → m.registers ≡ 0

-- each machine has the words of the expression at its place, and no more states
abbrev pub AreMade : List Regex → List Graph → Type 0
AreMade [] [] = ⊤
AreMade [] (m ∷ ms) = ⊥
AreMade (r ∷ rs) [] = ⊥
AreMade (r ∷ rs) (m ∷ ms) = HasWords (In r) m × (m.states ≤ size r) × AreMade rs ms
