-- Machines of a list of expressions, where a list of the same kind within it counts as its elements.
use Rattle.std.specs.Prelude.{◌≡◌, ◌≤◌, ◌↔◌, List, ◌++◌}
use Rattle.machine_core.specs.declared.graph.Graph.{Graph}
use Rattle.sv_terms.specs.Language.{Word, In}
use Rattle.sv_terms.specs.declared.regex.Regex.{Regex}
use Rattle.sv_terms.specs.Bounds.{size}
use Rattle.regex_machine.specs.Joined.{WordsOf, HaveNoRegisters}
use Rattle.regex_machine.specs.Kinds.{Together, weight, states_of}
use Rattle.regex_machine.specs.declared.kind.JoinKind.{JoinKind}

-- `new` is `old` with machines more, which have together the words of these expressions together, and no more states
pub record AddsParts (kind : JoinKind) (rs : List Regex) (old new : List Graph) : Type 0 where
  pub more : List Graph
  pub grown : new ≡ old ++ more
  pub plain : HaveNoRegisters more
  pub words : (w : Word) → Together kind WordsOf more w ↔ Together kind In rs w
  pub light : weight kind states_of more ≤ weight kind size rs
