-- What is answered for one family of machines and rows.
use Rattle.std.specs.Prelude.{◌≡◌, ◌≢◌, ℕ, pos, ◌<◌, ◌≤◌, ◌⊎◌, List, [], ◌∷◌, length, All, Bool, true, false, Option, Some, None, slice_get}
use Rattle.sv_linear.specs.declared.row.Row.{Row}
use Rattle.machine_core.specs.declared.graph.Graph.{Graph}
use Rattle.farkas_check.specs.declared.system.System.{System}
use Rattle.search_hits.specs.Hits.{IsHit, characters}
use Rattle.search_hits.specs.declared.hit.Hit.{Hit}
use Rattle.search_hits.specs.declared.region.Region.{Region}
use Rattle.lia_branch.specs.EvidenceHolds.{Holds}
use Rattle.farkas_check.specs.Fitting.{IsAccepted}
use Rattle.lia_branch.specs.declared.evidence.Evidence.{Evidence}
use Rattle.parikh_flow.specs.Rows.{IsSystemOf}
use Rattle.leaf_solve.specs.Questions.{EachHit, LieIn, total_states}
use Rattle.leaf_solve.specs.Longs.{HasRun, IsLongShown}
use Rattle.leaf_solve.specs.declared.closing.Closing.{Closing}
use Rattle.leaf_solve.specs.declared.closing.Closing.TheVariants as closing
use Rattle.leaf_solve.specs.declared.long_shown.LongShown.{LongShown}
use Rattle.leaf_solve.specs.declared.leaf_answer.LeafAnswer.{LeafAnswer}
use Rattle.leaf_solve.specs.declared.leaf_answer.LeafAnswer.TheVariants as answer

-- the reach as it stands in the system: where there is no machine no row speaks of it
abbrev pub row_reach : List Graph → ℕ → Option ℕ
row_reach [] reach = None
row_reach (m ∷ ms) reach = Some reach

module _ (machines : List Graph) (registers integers : ℕ) (rows : List Row) where
  -- nothing meets the rows
  abbrev pub HasNoHit : Type 0
  HasNoHit = EachHit machines registers integers rows (λ runs numbers. ⊥)

  -- whatever meets the rows has more characters
  abbrev pub HasHitsPast : ℕ → Type 0
  HasHitsPast reach = EachHit machines registers integers rows (λ runs numbers. reach < characters runs)

  -- a machine without a run; a tree that the checker takes; or a region that would hold whatever meets the rows
  abbrev pub IsLeafClosing : Bool → Closing → Type 0
  IsLeafClosing small (closing.Empty i) = (m : Graph) × (slice_get machines i ≡ Some m) × (HasRun m → ⊥)
  IsLeafClosing small (closing.Tree system tree) = IsSystemOf machines integers registers rows None system × IsAccepted system tree
  IsLeafClosing small closing.Box = small ≡ true

  pub record IsSatAnswer (reach : ℕ) (hit : Hit) : Type 0 where
    pub is_hit : IsHit machines registers integers rows hit.runs hit.integers
    pub within : characters hit.runs ≤ reach

  pub record IsClosedAnswer (small : Bool) (closing : Closing) : Type 0 where
    pub none : HasNoHit
    pub shown : IsLeafClosing small closing

  pub record IsLongAnswer (region : Region) (small : Bool) (reach : ℕ) (long : LongShown) : Type 0 where
    pub inhabited : All HasRun machines
    pub past : HasHitsPast reach
    pub none_in_region : EachHit machines registers integers rows (λ runs numbers. LieIn region runs numbers → ⊥)
    pub shown : IsLongShown machines registers integers rows small (pos reach) long

  pub record IsOpenAnswer (region : Region) (small : Bool) (reach : ℕ) (system : System) (evidence : Evidence) : Type 0 where
    pub inhabited : All HasRun machines
    pub has_rows : rows ≢ []
    pub not_small : small ≡ false
    pub none_in_region : EachHit machines registers integers rows (λ runs numbers. LieIn region runs numbers → ⊥)
    pub is_system : IsSystemOf machines integers registers rows (row_reach machines reach) system
    pub evidence_holds : Holds system evidence

-- a hit within the reach; a closing, where nothing meets the rows; what shows that all hits are too long; or evidence
abbrev pub IsLeafAnswer : List Graph → ℕ → List Row → Region → Bool → ℕ → LeafAnswer → Type 0
IsLeafAnswer machines integers rows region small reach (answer.Sat hit) = IsSatAnswer machines (length region.registers) integers rows reach hit
IsLeafAnswer machines integers rows region small reach (answer.Closed closing) = IsClosedAnswer machines (length region.registers) integers rows small closing
IsLeafAnswer machines integers rows region small reach (answer.Long long) = IsLongAnswer machines (length region.registers) integers rows region small reach long
IsLeafAnswer machines integers rows region small reach (answer.Open system evidence) = IsOpenAnswer machines (length region.registers) integers rows region small reach system evidence

abbrev pub IsDecided : LeafAnswer → Type 0
IsDecided (answer.Sat hit) = Unit {0}
IsDecided (answer.Closed closing) = Unit {0}
IsDecided (answer.Long long) = ⊥
IsDecided (answer.Open system evidence) = ⊥

-- where an answer that decides is owed
abbrev pub MustDecideLeaf : List Graph → List Row → Bool → ℕ → Type 0
MustDecideLeaf machines rows small reach = (small ≡ true) ⊎ ((rows ≡ []) × (total_states machines ≤ reach))
