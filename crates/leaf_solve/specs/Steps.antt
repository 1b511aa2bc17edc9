-- What stands between the steps of an answer.
use Rattle.std.specs.Prelude.{◌≡◌, ℕ, ℤ, ◌≤◌, List, length, true, false, Option, Some, slice_get}
use Rattle.std.specs.List.{AllZip}
use Rattle.machine_core.specs.declared.graph.Graph.{Graph}
use Rattle.machine_core.specs.declared.run.Run.{Run}
use Rattle.trim_search.specs.Shortest.{IsShortestRun}
use Rattle.farkas_check.specs.declared.system.System.{System}
use Rattle.search_hits.specs.Hits.{characters}
use Rattle.parikh_flow.specs.Rows.{IsSystemOf}
use Rattle.parikh_flow.specs.Solutions.{HasFlowAt, HaveFlowsAt}
use Rattle.leaf_solve.specs.Questions.{IsAsked, EachHit, LieIn}
use Rattle.leaf_solve.specs.Answers.{IsLeafAnswer, IsClosedAnswer}
use Rattle.leaf_solve.specs.Longs.{HasRun, IsBeyond}
use Rattle.leaf_solve.specs.declared.leaf_answer.LeafAnswer.{LeafAnswer}
use Rattle.leaf_solve.specs.declared.question.Question.{Question}
use Rattle.leaf_solve.specs.declared.rows.PastReach.{PastReach}
use Rattle.leaf_solve.specs.declared.rows.PastReach.TheVariants.{Nothing, Something}
use Rattle.leaf_solve.specs.declared.shortest.Shortest.{Shortest}
use Rattle.leaf_solve.specs.declared.shortest.Shortest.TheVariants.{Empty, Runs}

abbrev pub IsAskedQuestion : Question → Type 0
IsAskedQuestion q = IsAsked q.machines.now q.integers q.rows.now q.region.now q.small q.reach

abbrev pub AnswersQuestion : Question → LeafAnswer → Type 0
AnswersQuestion q = IsLeafAnswer q.machines.now q.integers q.rows.now q.region.now q.small q.reach

abbrev pub IsSystemFor : Question → Option ℕ → System → Type 0
IsSystemFor q = IsSystemOf q.machines.now q.integers (length q.region.now.registers) q.rows.now

-- a closing, or what lies beyond the reach, where the region needn't hold each hit
abbrev pub TellsPast : Question → PastReach → Type 0
TellsPast q (Nothing closing) = IsClosedAnswer q.machines.now (length q.region.now.registers) q.integers q.rows.now q.small closing
TellsPast q (Something beyond) = (q.small ≡ true → ⊥) × IsBeyond q.machines.now (length q.region.now.registers) q.integers q.rows.now q.small beyond

-- the region holds no hit, and needn't hold each
abbrev pub HoldsNothing : Question → Type 0
HoldsNothing q = (q.small ≡ false) × EachHit q.machines.now (length q.region.now.registers) q.integers q.rows.now (λ runs numbers. LieIn q.region.now runs numbers → ⊥)

-- a machine without a run, or a shortest run of each machine
abbrev pub IsShortest : List Graph → Shortest → Type 0
IsShortest machines (Empty i) = (m : Graph) × (slice_get machines i ≡ Some m) × (HasRun m → ⊥)
IsShortest machines (Runs runs) = AllZip IsShortestRun machines runs

-- the values of a machine's unknowns count a run that isn't too long
pub record HasShortFlowAt (x : ℕ → ℤ) (base : ℕ) (m : Graph) : Type 0 where
  pub run : Run ℕ
  pub flow : HasFlowAt x base m run
  pub short : length run.word ≤ 4194303

-- so they do for all machines
pub record HaveShortFlowsAt (x : ℕ → ℤ) (base : ℕ) (machines : List Graph) : Type 0 where
  pub runs : List (Run ℕ)
  pub flows : HaveFlowsAt x base machines runs
  pub short : characters runs ≤ 4194303
