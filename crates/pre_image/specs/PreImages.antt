-- The pre-image of a machine under a transducer: the words for which the transducer may write a word of the machine, each at what that word costs there
-- (backward propagation through a transducer, Chen et al., POPL 2019; with the costs of cost-enriched automata, ATVA 2020).
use Rattle.std.specs.Prelude.{◌≡◌, ℕ, ◌<◌, ◌+◌, ◌*◌, max, List, Contains}
use Rattle.machine_core.specs.declared.graph.Graph.{Graph}
use Rattle.machine_core.specs.Language.{RunsFrom, StopsAt}
use Rattle.machine_core.specs.Edges.{EndsAt, StepsBy, edges_top, ends_top}
use Rattle.machine_core.specs.Graphs.{Accepts}
use Rattle.sv_terms.specs.Language.{Word}
use Rattle.sv_terms.specs.Transduction.{Pairs}
use Rattle.sv_terms.specs.TransducerSizes.{edges_most, ends_most}
use Rattle.sv_terms.specs.declared.transducer.TransEdge.{TransEdge}
use Rattle.sv_terms.specs.declared.transducer.Transducer.{Transducer}
use Rattle.pre_image.specs.Spelling.{spelling, Takes}

-- a state of the pre-image: one of the transducer and one of the machine
abbrev pub IsPair : Transducer → Graph → ℕ × ℕ → Type 0
IsPair t m s = (s.0 < t.states) × (s.1 < m.states)

-- a word may end where the transducer may end, at what the machine's runs to an end cost on the word that is written there
abbrev pub PreEnds : Transducer → Graph → ℕ × ℕ → List ℕ → Type 0
PreEnds t m s cost = (w : Word) × Contains t.ends (s.0, w) × RunsFrom (EndsAt m.ends) (StepsBy m.edges) s.1 w cost

-- an edge of the transducer reads the character, and the machine goes along what the edge spells there, at what that costs; it goes along words alone, so the edge writes this word
abbrev pub PreSteps : Transducer → Graph → ℕ × ℕ → ℕ → List ℕ → ℕ × ℕ → Type 0
PreSteps t m s c cost to = (e : TransEdge) × Takes t s.0 c e × (e.to ≡ to.0)
    × RunsFrom (StopsAt m.registers to.1) (StepsBy m.edges) s.1 (spelling c e.items) cost

-- the transducer may write, for this word, some word that the machine has at this cost
abbrev pub Precedes : Transducer → Graph → Word → List ℕ → Type 0
Precedes t m word cost = (w : Word) × Pairs t word w × Accepts m w cost

-- the greatest cost of a step or an end of the pre-image: a step goes along what an edge writes, and an end along what an end writes
abbrev pub pre_top : Transducer → Graph → ℕ
pre_top t m = edges_top m.edges * max (edges_most t.edges) (ends_most t.ends) + ends_top m.ends
