-- Copies of a machine without registers, one after another.
-- A state is a copy and a state in it; the copy after the last one has state 0 alone, a start that nothing leads to.
use Rattle.std.specs.Prelude.{◌≡◌, ℕ, suc, ◌+◌, ◌*◌, ◌<◌, ◌≤◌, ◌⊎◌, ◌↔◌, Bool, IsTrue, cond, ◌&&◌, not, nat_eq, List, [], Option, MatchOption}
use Rattle.machine_core.specs.declared.graph.Graph.{Graph}
use Rattle.machine_core.specs.Edges.{EndsAt, StepsBy}
use Rattle.machine_core.specs.Language.{RunsFrom}
use Rattle.sv_terms.specs.Language.{Language, Power}

-- at least so many words of P, one after another, and at most so many where there may not be ever more
abbrev pub InCopies : Language → ℕ → ℕ → Bool → Language
InCopies P least most again w = (n : ℕ) × (least ≤ n) × ((n ≤ most) ⊎ IsTrue again) × Power P n w

-- the copy after a copy: the next one, and where they go on for ever the last one again
abbrev pub NextCopy : ℕ → Bool → ℕ → ℕ → Type 0
NextCopy most again k l = ((suc k < most) × (l ≡ suc k)) ⊎ (IsTrue again × (suc k ≡ most) × (l ≡ k))

abbrev pub IsNextCopy : ℕ → Bool → ℕ → Option ℕ → Type 0
IsNextCopy most again k next = MatchOption next ((l : ℕ) → NextCopy most again k l → ⊥) (λ n. (l : ℕ) → NextCopy most again k l ↔ (l ≡ n))

-- a state of a copy, or the start of its own, which there is only where no copy is needed
abbrev pub IsCopyState : Graph → ℕ → ℕ → ℕ × ℕ → Type 0
IsCopyState m least most at = ((at.0 < most) × (at.1 < m.states)) ⊎ ((least ≡ 0) × (at.0 ≡ most) × (at.1 ≡ 0))

-- how many states the copies of a machine with n states have at most
abbrev pub copies_size : ℕ → ℕ → ℕ → ℕ
copies_size least most n = cond (nat_eq least 0) (most * n + 1) (most * n)

-- so many copies are enough, or the empty word stands for those that lack
abbrev pub AreEnough : ℕ → Bool → ℕ → Type 0
AreEnough least empty n = (least ≤ n) ⊎ IsTrue empty

abbrev pub CopyEnds : Graph → ℕ → ℕ → Bool → ℕ × ℕ → List ℕ → Type 0
CopyEnds m least most empty at cost = (cost ≡ []) × (
    ((at.0 < most) × EndsAt m.ends at.1 [] × AreEnough least empty (suc at.0))
    ⊎ ((at.0 ≡ most) × AreEnough least empty 0))

-- a step within a copy, or where a copy may end the first step of the next one, or the first step of all
abbrev pub CopySteps : Graph → ℕ → Bool → ℕ × ℕ → ℕ → List ℕ → ℕ × ℕ → Type 0
CopySteps m most again at c cost to = (cost ≡ []) × (
    ((at.0 < most) × (to.0 ≡ at.0) × StepsBy m.edges at.1 c [] to.1)
    ⊎ (((at.0 < most) × EndsAt m.ends at.1 [] × NextCopy most again at.0 to.0 × StepsBy m.edges 0 c [] to.1)
    ⊎ ((at.0 ≡ most) × (to.0 ≡ 0) × StepsBy m.edges 0 c [] to.1)))

-- the start: a state of its own where the empty word is read and the machine doesn't read it
abbrev pub copy_start : ℕ → ℕ → Bool → ℕ × ℕ
copy_start least most empty = cond (nat_eq least 0 && not empty) (most, 0) (0, 0)

-- the copies read this word
abbrev pub CopiesRead : Graph → ℕ → ℕ → Bool → Bool → Language
CopiesRead m least most again empty w = RunsFrom (CopyEnds m least most empty) (CopySteps m most again) (copy_start least most empty) w []
