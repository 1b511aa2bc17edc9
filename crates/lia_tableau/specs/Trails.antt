-- Trails: from one basis to the next by due pivots (Bland, "New finite pivoting rules for the simplex method", 1977).
use Rattle.std.specs.Prelude.{ℕ, zero, suc, ◌+◌, ◌↔◌, List}
use Rattle.lia_tableau.specs.Bases.{IsInBasis}
use Rattle.lia_tableau.specs.Pivoting.{IsPivotStep}
use Rattle.lia_tableau.specs.declared.standing.Standing.{Standing}
use Rattle.lia_tableau.specs.declared.table.Table.{Table}

abbrev pub HaveSameBasis : List Standing → List Standing → Type 0
HaveSameBasis before after = (q : ℕ) → IsInBasis before q ↔ IsInBasis after q

-- a list of due pivots leads from one basis to another
pub data Trail : Table → Table → Type 0 where
  stay : (t : Table) → Trail t t
  pivot : (first next last : Table) → IsPivotStep first next → Trail next last → Trail first last

-- how many pivots it has
abbrev pub trail_length : (first last : Table) → Trail first last → ℕ
trail_length first last (stay t) = 0
trail_length first last (pivot start next end s rest) = suc (trail_length next end rest)

-- how many sets of so many quantities there are
abbrev pub sets_of : ℕ → ℕ
sets_of zero = 1
sets_of (suc n) = sets_of n + sets_of n
