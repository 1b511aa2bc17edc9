-- What a transducer wrote in a step of a run, or at its end, with the target's way along it.
use Rattle.std.specs.Prelude.{◌≡◌, ℕ, ◌≤◌, List, Some}
use Rattle.machine_core.specs.declared.graph.Graph.{Graph}
use Rattle.machine_core.specs.declared.end.End.{End}
use Rattle.machine_core.specs.Costs.{add_costs}
use Rattle.machine_core.specs.Language.{RunsFrom, StopsAt}
use Rattle.machine_core.specs.Edges.{EndsAt, StepsBy}
use Rattle.sv_terms.specs.Language.{Word}
use Rattle.sv_terms.specs.Transduction.{written_at}
use Rattle.sv_terms.specs.declared.transducer.TransEdge.{TransEdge}
use Rattle.sv_terms.specs.declared.transducer.Transducer.{Transducer}
use Rattle.pre_image.specs.declared.parts.SpelledWord.{SpelledWord}
use Rattle.pre_image.specs.declared.parts.LastPart.{LastPart}
use Rattle.pre_image.specs.Lifts.{IsWay}
use Rattle.pre_image.specs.Liftings.{IsLiftedStep, IsLiftedEnd}

-- by this edge
pub record IsEdgePart (m : Graph) (edge : TransEdge) (from : ℕ × ℕ) (c : ℕ) (cost : List ℕ) (to : ℕ × ℕ) (part : SpelledWord) : Type 0 where
  pub begins : edge.from ≡ from.0
  pub low : edge.lo ≤ c
  pub high : c ≤ edge.hi
  pub leads : edge.to ≡ to.0
  pub written : written_at c edge.items ≡ Some part.word
  pub way : IsWay m from.1 part.word to.1 cost part.way.states part.way.costs

abbrev pub IsStepPart : Transducer → Graph → ℕ × ℕ → ℕ → List ℕ → ℕ × ℕ → SpelledWord → Type 0
IsStepPart t m from c cost to part = IsLiftedStep t m from c cost to part.word part.way.states part.way.costs

-- the target has a path on the word to this end, and path and end cost so much
abbrev pub EndsByPath : Graph → ℕ → List ℕ → List ℕ → End → Type 0
EndsByPath m at word cost final = (paid : List ℕ) × RunsFrom (StopsAt m.registers final.at) (StepsBy m.edges) at word paid × (add_costs final.cost paid ≡ cost)

-- by this end of the target
pub record IsFinalPart (m : Graph) (at : ℕ) (word : Word) (final : End) (cost : List ℕ) (part : LastPart) : Type 0 where
  pub paid : List ℕ
  pub same : part.word ≡ word
  pub last : part.last ≡ final.cost
  pub way : IsWay m at word final.at paid part.way.states part.way.costs
  pub sum : add_costs final.cost paid ≡ cost

-- by some end of the target
pub record IsEndPart (m : Graph) (at : ℕ) (word : Word) (cost : List ℕ) (part : LastPart) : Type 0 where
  pub stop : ℕ
  pub paid : List ℕ
  pub same : part.word ≡ word
  pub way : IsWay m at word stop paid part.way.states part.way.costs
  pub last : EndsAt m.ends stop part.last
  pub sum : add_costs paid part.last ≡ cost

-- where this end of the transducer is one of the state
pub record IsClosingPart (m : Graph) (at : ℕ × ℕ) (final : ℕ × Word) (cost : List ℕ) (part : LastPart) : Type 0 where
  pub state : final.0 ≡ at.0
  pub whole : IsEndPart m at.1 final.1 cost part

abbrev pub IsLastPart : Transducer → Graph → ℕ × ℕ → List ℕ → LastPart → Type 0
IsLastPart t m at cost part = IsLiftedEnd t m at cost part.word part.way.states part.way.costs part.last
