-- Runs one after another, and runs of a pre-image taken back.
use Rattle.std.specs.Prelude.{◌≡◌, ℕ, ◌<◌, IsTrue, List, ◌++◌, take, drop, length}
use Rattle.machine_core.specs.declared.run.Run.{Run}
use Rattle.machine_core.specs.declared.graph.Graph.{Graph}
use Rattle.sv_word.specs.Ranges.{in_ranges}
use Rattle.machine_core.specs.declared.machine.Move.{Move}
use Rattle.pre_image.specs.declared.ways.NextStep.{NextStep}
use Rattle.machine_core.specs.Costs.{add_costs, zeros, total_of}
use Rattle.machine_core.specs.Edges.{StepsBy}
use Rattle.machine_core.specs.Language.{RunsFrom, StopsAt}
use Rattle.machine_core.specs.Runs.{IsPath}

-- the run of the first word and then of the second: the second's first state is the first's last one, and stands once
pub record IsJoined {S : Type 0} (first second whole : Run S) : Type 0 where
  pub word : whole.word ≡ first.word ++ second.word
  pub states : whole.states ≡ first.states ++ drop 1 second.states
  pub costs : whole.costs ≡ first.costs ++ second.costs
  pub last : whole.last ≡ second.last

-- what is left of `whole` without `part`: as many numbers, and together they are the whole
pub record IsRest (whole part rest : List ℕ) : Type 0 where
  pub width : length rest ≡ length whole
  pub sum : add_costs part rest ≡ whole

-- a machine's path from the state `from` on the word to the state `to`: the states behind the first, and the cost of each step, which add up to this one
pub record IsWay (m : Graph) (from : ℕ) (word : List ℕ) (to : ℕ) (cost : List ℕ) (states : List ℕ) (costs : List (List ℕ)) : Type 0 where
  pub path : IsPath (StepsBy m.edges) from states word costs to
  pub total : total_of costs (zeros m.registers) ≡ cost

-- a step on the character from this state, behind which the machine goes on on the word to the state `to`, at what is left of the cost
pub record IsNextStep (m : Graph) (at c : ℕ) (word : List ℕ) (to : ℕ) (cost paid : List ℕ) (next : ℕ) (left : List ℕ) : Type 0 where
  pub step : StepsBy m.edges at c paid next
  pub goes : RunsFrom (StopsAt m.registers to) (StepsBy m.edges) next word left
  pub sum : add_costs paid left ≡ cost

-- the move ends in this state at this cost
abbrev pub EndsAs : ℕ → List ℕ → Move ℕ → Type 0
EndsAs to cost l = (l.to ≡ to) × (l.cost ≡ cost)

-- behind the step the machine goes on on the word at what is left of the cost
pub record GoesOnAt (m : Graph) (move : Move ℕ) (word : List ℕ) (to : ℕ) (cost left : List ℕ) : Type 0 where
  pub goes : RunsFrom (StopsAt m.registers to) (StepsBy m.edges) move.to word left
  pub sum : add_costs move.cost left ≡ cost

-- the step reads the character, and behind it the machine goes on on the word at what is left of the cost
abbrev pub Works : Graph → ℕ → List ℕ → ℕ → List ℕ → Move ℕ → Type 0
Works m c word to cost move = IsTrue (in_ranges move.on c) × (left : List ℕ) × GoesOnAt m move word to cost left

-- the step was tried: it is this one, and the machine goes on behind it at what is left
pub record IsTried (m : Graph) (move : Move ℕ) (word : List ℕ) (to : ℕ) (cost : List ℕ) (found : NextStep) : Type 0 where
  pub paid : found.cost ≡ move.cost
  pub next : found.to ≡ move.to
  pub goes : RunsFrom (StopsAt m.registers to) (StepsBy m.edges) found.to word found.left
  pub sum : add_costs found.cost found.left ≡ cost
  pub width : length found.left ≡ length cost

-- a path of the machine on the first characters, and what is left to go and to be paid
pub record IsUnderway (m : Graph) (from : ℕ) (word : List ℕ) (to : ℕ) (cost : List ℕ) (done at : ℕ) (left : List ℕ) (states : List ℕ) (costs : List (List ℕ)) : Type 0 where
  pub path : IsPath (StepsBy m.edges) from states (take done word) costs at
  pub goes : RunsFrom (StopsAt m.registers to) (StepsBy m.edges) at (drop done word) left
  pub sum : add_costs (total_of costs (zeros m.registers)) left ≡ cost
  pub inside : at < m.states
  pub width : length left ≡ m.registers
