-- A machine without an end reads nothing.
use Rattle.std.proofs.Common.{◌≡◌, ℕ, true, List, [], ◌∷◌, Option, None, Some, refl, sym, subst, arith}
use Rattle.machine_core.specs.declared.graph.Graph.{Graph}
use Rattle.machine_core.specs.declared.end.End.{End}
use Rattle.machine_core.specs.Edges.{EndsAt, StepsBy}
use Rattle.machine_core.specs.Language.{RunsFrom}
use Rattle.leaf_solve.proofs.RunLemmas.{is-none}
use Rattle.cube_search.specs.DeadEnds.{is_dead_end}

pub no_run : (m : Graph) → m.ends ≡ [] → (at : ℕ) (word cost : List ℕ) → RunsFrom (EndsAt m.ends) (StepsBy m.edges) at word cost → ⊥
no_run m none at [] cost p = let q = subst (λ (es : List End). EndsAt es at cost) none p in let lt = q.1 in omega (arith, lt)
no_run m none at (c ∷ word) cost p = no_run m none p.1 word p.2 p.4

pub dead-machine : (o : Option Graph) → is_dead_end o ≡ true → (m : Graph) × (o ≡ Some m) × (m.ends ≡ [])
dead-machine None e = cc
dead-machine (Some m) e = (m, refl, is-none m.ends true (sym e) refl)
