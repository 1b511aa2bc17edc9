-- Machines that read the same words together.
use Rattle.std.specs.Prelude.{◌≡◌, ◌≤◌, ◌↔◌, List}
use Rattle.std.specs.List.{AllByRecursion}
use Rattle.sv_terms.specs.Language.{Word, InAllOf}
use Rattle.machine_core.specs.declared.graph.Graph.{Graph}
use Rattle.machine_meet.specs.Products.{multiplied}
use Rattle.regex_machine.specs.Joined.{HasWords, WordsOf}
use Rattle.regex_machine.specs.Kinds.{states_of}

-- one machine of the words that all of some machines read
abbrev pub IsMet : List Graph → Graph → Type 0
IsMet ms m = HasWords (InAllOf WordsOf ms) m × (m.states ≤ multiplied states_of ms)

-- machines without registers that read the words of some others, and have at most as many states multiplied
pub record AreMet (old new : List Graph) : Type 0 where
  pub plain : AllByRecursion (λ (m : Graph). m.registers ≡ 0) new
  pub words : (w : Word) → InAllOf WordsOf new w ↔ InAllOf WordsOf old w
  pub few : multiplied states_of new ≤ multiplied states_of old
