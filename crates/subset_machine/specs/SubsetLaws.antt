-- What the subset construction keeps.
use Rattle.std.specs.Prelude.{◌≡◌, ℕ, ◌<◌, Bool, List, [], ◌∷◌, Contains}
use Rattle.std.proofs.Common.{zero, suc, sym, subst, arith}
use Rattle.machine_core.specs.declared.edge.Edge.{Edge}
use Rattle.machine_core.specs.declared.end.End.{End}
use Rattle.machine_core.specs.declared.graph.Graph.{Graph}
use Rattle.machine_core.specs.Costs.{IsCost}
use Rattle.machine_core.specs.CostLaws.{IsCost-zeros}
use Rattle.machine_core.specs.EdgeLaws.{step_target}
use Rattle.subset_machine.specs.Subsets.{IsStateSet, SubsetEnds, SubsetSteps}

pub first-states : (states : ℕ) → 0 < states → IsStateSet states (0 ∷ [])
first-states states h = record {
  ascending = λ k lt. absurd (omega arith);
  below = λ s i. subst (λ n. n < states) (only i) h;
}
  where
    only : {s : ℕ} → Contains (0 ∷ []) s → 0 ≡ s
    only (zero, lt, e) = e
    only (suc k, lt, e) = absurd (omega arith)

pub next-states : (m : Graph) (negated : Bool) (list : List ℕ) (c : ℕ) (cost next : List ℕ) → SubsetSteps negated m.edges list c cost next → IsStateSet m.states next
next-states m negated list c cost next step = record {
  ascending = step.2.ascending;
  below = λ t i. let from = (step.2.exact t).0 i in step_target m.states m.registers m.edges m.ends m.formed from.1 t c [] from.4;
}

pub step-cost : (negated : Bool) (edges : List Edge) (list : List ℕ) (c : ℕ) (cost next : List ℕ) → SubsetSteps negated edges list c cost next → IsCost 0 0 cost
step-cost negated edges list c cost next step = subst (IsCost 0 0) (sym step.1) (IsCost-zeros 0 0)

pub end-cost : (negated : Bool) (ends : List End) (list cost : List ℕ) → SubsetEnds negated ends list cost → IsCost 0 0 cost
end-cost negated ends list cost end = subst (IsCost 0 0) (sym end.0) (IsCost-zeros 0 0)
