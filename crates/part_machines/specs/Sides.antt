-- Parts by the machines of those that are met as they stand, and of the expressions that no word may be in.
use Rattle.std.specs.Prelude.{◌≡◌, ℕ, ◌*◌, ◌^◌, ◌≤◌, ◌↔◌, ◌⊎◌, ⊤, Bool, false, List, [], ◌∷◌, ◌++◌}
use Rattle.std.specs.List.{AllByRecursion}
use Rattle.sv_word.specs.Words.{IsWord}
use Rattle.sv_terms.specs.Language.{Word}
use Rattle.sv_terms.specs.declared.regex.Regex.{Regex}
use Rattle.machine_core.specs.declared.graph.Graph.{Graph}
use Rattle.regex_machine.specs.Joined.{HasWords, WordsOf}
use Rattle.cube_bounds.specs.Bounds.{part_bound, product_by}
use Rattle.flat_cubes.specs.Satisfying.{MeetsPart}
use Rattle.flat_cubes.specs.declared.variable.Own.{Own}
use Rattle.flat_cubes.specs.declared.variable.Own.TheVariants.{InRe}
use Rattle.part_machines.specs.Kept.{IsMachineOf}
use Rattle.part_machines.specs.Parts.{AreOfParts, IsOfPart}

-- it reads the words that the machine doesn't read, and has at most one state for each set of its states
abbrev pub ReadsOthers : Graph → Graph → Type 0
ReadsOthers m n = HasWords (λ w. IsWord w × (WordsOf m w → ⊥)) n × (n.states ≤ 2 ^ m.states)

-- the word meets none of the parts
abbrev pub MeetsNone : Word → List (Own × Bool) → Type 0
MeetsNone w [] = ⊤
MeetsNone w (part ∷ parts) = (MeetsPart w part → ⊥) × MeetsNone w parts

-- how many sets of states the machine of a part has at most
abbrev pub sets_bound : Own × Bool → ℕ
sets_bound part = 2 ^ part_bound part

-- machines of parts that are met, and of parts none of which is met, where a word meets all of some parts
pub record AreSides (parts : List (Own × Bool)) (within outside : List Graph) : Type 0 where
  pub met : List (Own × Bool)
  pub barred : List (Own × Bool)
  pub of_met : AreOfParts met within
  pub of_barred : AreOfParts barred outside
  pub words : (w : Word) → IsWord w → AllByRecursion (MeetsPart w) parts ↔ (AllByRecursion (MeetsPart w) met × MeetsNone w barred)
  pub few : product_by part_bound met * product_by sets_bound barred ≤ product_by part_bound parts

-- one part more: its machine is one more of those that are met, or of the others that of the expression that no word may be in
abbrev pub AddsSide : Own × Bool → List Graph → List Graph → List Graph → List Graph → Type 0
AddsSide part within more_within outside more_outside =
    ((m : Graph) × IsOfPart part m × (more_within ≡ within ++ m ∷ []) × (more_outside ≡ outside))
    ⊎ ((regex : Regex) × (m : Graph) × (part ≡ (InRe regex, false)) × IsMachineOf regex m × (more_within ≡ within) × (more_outside ≡ outside ++ m ∷ []))
