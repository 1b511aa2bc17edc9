-- Machines of what is said of one word.
use Rattle.std.specs.Prelude.{◌≡◌, ℕ, ◌*◌, ◌≤◌, ◌↔◌, ⊤, Bool, List, [], ◌∷◌, map, length, slice_index}
use Rattle.std.specs.List.{AllByRecursion}
use Rattle.sv_word.specs.Words.{IsWord}
use Rattle.sv_terms.specs.Language.{Word}
use Rattle.machine_core.specs.declared.graph.Graph.{Graph}
use Rattle.machine_core.specs.declared.edge.Edge.{Edge}
use Rattle.machine_core.specs.Edges.{edge}
use Rattle.machine_core.specs.Graphs.{Accepts, GraphRunsWithin, GraphPathsWithin}
use Rattle.regex_machine.specs.Joined.{HasWords}
use Rattle.cube_bounds.specs.Bounds.{part_bound, product_by}
use Rattle.flat_cubes.specs.Satisfying.{MeetsPart}
use Rattle.flat_cubes.specs.declared.variable.Own.{Own}

-- without registers it reads the words of which the test has this answer, and has at most so many states
pub record Decides (test : Word → Bool) (holds : Bool) (most : ℕ) (m : Graph) : Type 0 where
  pub reads : HasWords (λ w. IsWord w × (test w ≡ holds)) m
  pub few : m.states ≤ most

-- without registers it reads the words that meet the part, and has at most as many states as its bound
pub record IsOfPart (part : Own × Bool) (m : Graph) : Type 0 where
  pub reads : HasWords (λ w. IsWord w × MeetsPart w part) m
  pub few : m.states ≤ part_bound part

-- one for each part, in their order
abbrev pub AreOfParts : List (Own × Bool) → List Graph → Type 0
AreOfParts [] [] = ⊤
AreOfParts [] (m ∷ ms) = ⊥
AreOfParts (part ∷ parts) [] = ⊥
AreOfParts (part ∷ parts) (m ∷ ms) = IsOfPart part m × AreOfParts parts ms

-- without registers it reads the words that meet all parts, and has at most as many states as their bounds make multiplied
pub record ReadsParts (parts : List (Own × Bool)) (m : Graph) : Type 0 where
  pub reads : HasWords (λ w. IsWord w × AllByRecursion (MeetsPart w) parts) m
  pub few : m.states ≤ product_by part_bound parts

-- so many times a cost
abbrev pub times : ℕ → List ℕ → List ℕ
times n cost = map (λ k. n * k) cost

-- the same edge at this cost
abbrev pub priced_edge : List ℕ → Edge → Edge
priced_edge each e = edge e.from e.on each e.to

-- it has the words of a machine without registers, and each character costs `each`
pub record IsPriced (each : List ℕ) (m n : Graph) : Type 0 where
  pub registers : n.registers ≡ length each
  pub states : n.states ≡ m.states
  pub words : (word cost : List ℕ) → Accepts n word cost ↔ (Accepts m word [] × (cost ≡ times (length word) each))
  pub runs : (register : ℕ) → GraphRunsWithin n register (slice_index each register) 0
  pub paths : (register : ℕ) → GraphPathsWithin n register (slice_index each register) 0

-- it reads the words that meet all parts, each character at the cost `each`, and has at most as many states as their bounds make multiplied
pub record IsOfParts (parts : List (Own × Bool)) (each : List ℕ) (m : Graph) : Type 0 where
  pub registers : m.registers ≡ length each
  pub words : (word cost : List ℕ) → Accepts m word cost ↔ ((IsWord word × AllByRecursion (MeetsPart word) parts) × (cost ≡ times (length word) each))
  pub few : m.states ≤ product_by part_bound parts
  pub runs : (register : ℕ) → GraphRunsWithin m register (slice_index each register) 0
  pub paths : (register : ℕ) → GraphPathsWithin m register (slice_index each register) 0
