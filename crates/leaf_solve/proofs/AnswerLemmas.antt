-- What is answered where there are rows.
use Rattle.std.proofs.Common.{◌≡◌, ℕ, ℤ, ◌+◌, ◌≤◌, List, [], length, map, take, All, Bool, true, false, not, Option, Some, None, Result, Ok, Err, IfOk, IfSome, MatchOption, refl, sym, ◌∙◌, subst, arith}
use Rattle.std.specs.Bool.{then_some}
use Rattle.std.specs.List.{range_with_len}
use Rattle.std.specs.Option.{unwrap_or}
use Rattle.std.specs.Result.{result_transpose}
use Rattle.std.specs.declared.alloc.AllocError.{AllocError}
use Rattle.sv_linear.specs.declared.row.Row.{Row}
use Rattle.machine_core.specs.declared.graph.Graph.{Graph}
use Rattle.machine_core.specs.declared.run.Run.{Run}
use Rattle.farkas_check.specs.Cuts.{values_of}
use Rattle.farkas_check.specs.declared.system.System.{System}
use Rattle.farkas_check.specs.declared.tree.Tree.{Tree}
use Rattle.search_hits.specs.Hits.{IsHit, characters}
use Rattle.search_hits.specs.declared.hit.Hit.{Hit}
use Rattle.search_hits.specs.declared.region.Region.{Region}
use Rattle.lia_branch.specs.EvidenceHolds.{Holds}
use Rattle.lia_branch.specs.Outcomes.{IsSolution}
use Rattle.farkas_check.specs.Fitting.{IsAccepted}
use Rattle.lia_branch.specs.declared.evidence.Evidence.{Evidence}
use Rattle.parikh_flow.specs.Rows.{unknowns_after, IsSystemOf}
use Rattle.parikh_flow.specs.Solutions.{HaveFlowsAt}
use Rattle.parikh_flow.proofs.FormLemmas.{after-most}
use Rattle.leaf_solve.specs.Questions.{IsAsked}
use Rattle.leaf_solve.specs.Longs.{HasRun, IsBeyond}
use Rattle.leaf_solve.specs.Answers.{HasHitsPast, IsSatAnswer, IsClosedAnswer, IsLongAnswer, IsDecided, row_reach}
use Rattle.leaf_solve.specs.Steps.{HaveShortFlowsAt}
use Rattle.leaf_solve.specs.declared.leaf_answer.LeafAnswer.{LeafAnswer}
use Rattle.leaf_solve.specs.declared.long_shown.Beyond.{Beyond}
use Rattle.leaf_solve.specs.declared.long_shown.Beyond.TheVariants.{GaveUp}
use Rattle.leaf_solve.specs.declared.long_shown.LongShown.TheVariants.{Rows}
use Rattle.leaf_solve.specs.declared.closing.Closing.TheVariants.{Tree as ByTree, Box}
use Rattle.leaf_solve.proofs.RegionLemmas.{AreShort, past-outside, past-none}
use Rattle.leaf_solve.proofs.SystemLemmas.{names, HitsSolve, FlowsHit, SolutionsFlow, closed-none, closed-past, none-solves, row-reach, row-none, reach-holds, take-values}

module _ (machines : List Graph) (integers : ℕ) (rows : List Row) (region : Region) (small : Bool) (reach : ℕ) (asked : IsAsked machines integers rows region small reach) where
  -- a tree that closes the system without the row for reach
  pub closed-answer : (system : System) (tree : Tree) → HitsSolve machines system → IsSystemOf machines integers (length region.registers) rows None system → IsAccepted system tree
      → IsClosedAnswer machines (length region.registers) integers rows small (ByTree system tree)
  closed-answer system tree law is accepted = record {
    none = closed-none machines (length region.registers) integers rows (names machines integers rows region small reach asked) asked.registers system law tree accepted.0 is;
    shown = (is, accepted);
  }

  -- without machines this is the system that was solved first
  pub closed-at-once : (system : System) (tree : Tree) → HitsSolve machines system → IsSystemOf machines integers (length region.registers) rows (row_reach machines reach) system → IsAccepted system tree
      → machines ≡ [] → IsClosedAnswer machines (length region.registers) integers rows small (ByTree system tree)
  closed-at-once system tree law is accepted none =
      closed-answer system tree law (subst (λ r. IsSystemOf machines integers (length region.registers) rows r system) (row-none machines reach none) is) accepted

  module _ (bounded : System) (tree : Tree) (law : HitsSolve machines bounded) (short : AreShort machines region) (is : IsSystemOf machines integers (length region.registers) rows (row_reach machines reach) bounded)
      (accepted : IsAccepted bounded tree) (some : machines ≡ [] → ⊥) where
    bounded-is : IsSystemOf machines integers (length region.registers) rows (Some reach) bounded
    bounded-is = subst (λ r. IsSystemOf machines integers (length region.registers) rows r bounded) (row-reach machines reach some) is

    pub past : HasHitsPast machines (length region.registers) integers rows reach
    past = closed-past machines (length region.registers) integers rows (names machines integers rows region small reach asked) asked.registers bounded law tree accepted.0 reach bounded-is

    -- whatever meets the rows is too long
    pub long-answer : (beyond : Beyond) → All HasRun machines → (rows ≡ [] → ⊥) → IsBeyond machines (length region.registers) integers rows small beyond
        → IsLongAnswer machines (length region.registers) integers rows region small reach (Rows bounded tree beyond)
    long-answer beyond inhabited has_rows holds = record {
      inhabited = inhabited;
      past = past;
      none_in_region = past-outside machines integers rows region small reach asked short past;
      shown = (has_rows, some, reach, refl, bounded-is, accepted, holds);
    }

  module _ (short : AreShort machines region) (past : HasHitsPast machines (length region.registers) integers rows reach) where
    -- the region would hold each hit
    pub box-answer : small ≡ true → IsClosedAnswer machines (length region.registers) integers rows small Box
    box-answer holds = record { none = past-none machines integers rows region small reach asked short holds past; shown = holds }

    -- nothing solves the system without the row for reach where the region would hold each hit
    pub beyond-none : (free : System) → FlowsHit machines free → SolutionsFlow machines free → IsSystemOf machines integers (length region.registers) rows None free → small ≡ true
        → (point : List ℤ) → IsSolution free point → ⊥
    beyond-none free hits flows free-is holds point solution =
        none-solves machines (length region.registers) integers rows (names machines integers rows region small reach asked) asked.registers free hits flows free-is
        (past-none machines integers rows region small reach asked short holds past) point solution

    -- where the solver gave up on that system, its evidence counts unless the region would hold each hit
    pub kept : (free : System) (evidence : Evidence) (beyond : Beyond) → IsSystemOf machines integers (length region.registers) rows None free → Holds free evidence
        → then_some (not small) (GaveUp free evidence) ≡ Some beyond → (small ≡ true → ⊥) × IsBeyond machines (length region.registers) integers rows small beyond
    kept free evidence beyond is holds e = by_small small refl e
      where
        by_small : (b : Bool) → small ≡ b → then_some (not b) (GaveUp free evidence) ≡ Some beyond → (small ≡ true → ⊥) × IsBeyond machines (length region.registers) integers rows small beyond
        by_small true s e = cc
        by_small false s e = let same : GaveUp free evidence ≡ beyond = cc in (λ t. cc, subst (IsBeyond machines (length region.registers) integers rows small) same (s, is, holds))

    pub given-up : (beyond : Beyond) → then_some (not small) beyond ≡ None → IsClosedAnswer machines (length region.registers) integers rows small Box
    given-up beyond e = box-answer (by_small small refl e)
      where
        by_small : (b : Bool) → small ≡ b → then_some (not b) beyond ≡ None → small ≡ true
        by_small true s e = s
        by_small false s e = cc

  module _ (system : System) (point : List ℤ) (is : IsSystemOf machines integers (length region.registers) rows (row_reach machines reach) system) (solution : IsSolution system point) (hits : FlowsHit machines system) where
    hit-of : (runs : List (Run ℕ)) → HaveFlowsAt (values_of point) (integers + length region.registers) machines runs
        → IsHit machines (length region.registers) integers rows runs (map (values_of point) (range_with_len 0 integers)) × (characters runs ≤ reach)
    hit-of runs flows =
        let h = hits integers (length region.registers) rows (row_reach machines reach) (values_of point) runs is (names machines integers rows region small reach asked) asked.registers solution.solves flows in
        (h.0, reach-holds machines reach (values_of point) (integers + length region.registers) runs flows h.1)

    -- the values count runs that aren't too long together
    pub short-flows : SolutionsFlow machines system → HaveShortFlowsAt (values_of point) (integers + length region.registers) machines
    short-flows flows =
        let f = flows integers (length region.registers) rows (row_reach machines reach) (values_of point) is solution.solves in
        let few = (hit-of f.0 f.1).1 in
        let most = asked.few_characters in
        record { runs = f.0; flows = f.1; short = omega arith }

    pub point-size : unknowns_after (integers + length region.registers) machines ≡ length point
    point-size = sym is.unknowns ∙ sym solution.size

    -- runs with these counts are a hit with the first values
    pub sat-answer : (hit : Hit) → HaveFlowsAt (values_of point) (integers + length region.registers) machines hit.runs → hit.integers ≡ take integers point
        → IsSatAnswer machines (length region.registers) integers rows reach hit
    sat-answer hit flows first =
        let most = after-most (integers + length region.registers) machines in
        let size = point-size in
        let numbers : hit.integers ≡ map (values_of point) (range_with_len 0 integers) = first ∙ take-values point integers (omega arith) in
        let h = hit-of hit.runs flows in
        record { is_hit = subst (λ (l : List ℤ). IsHit machines (length region.registers) integers rows hit.runs l) (sym numbers) h.0; within = h.1 }

-- what was told, and else this answer
pub told-or : (N : Type 0) (P : LeafAnswer → Type 0) (told : Result (Option LeafAnswer) AllocError) (other : LeafAnswer) → IfOk told (λ o. MatchOption o N P) → (N → P other)
    → IfOk (unwrap_or (result_transpose told) (Ok other)) P
told-or N P (Ok None) other h or = or h
told-or N P (Ok (Some answer)) other h or = h
told-or N P (Err e) other h or = tt

pub told-decided : (N : Type 0) (P : LeafAnswer → Type 0) (told : Result (Option LeafAnswer) AllocError) (other : LeafAnswer) → IfOk told (λ o. MatchOption o N P) → IfOk told (λ o. IfSome o IsDecided)
    → (N → ⊥) → IfOk (unwrap_or (result_transpose told) (Ok other)) IsDecided
told-decided N P (Ok None) other h d none = absurd (none h)
told-decided N P (Ok (Some answer)) other h d none = d
told-decided N P (Err e) other h d none = tt
