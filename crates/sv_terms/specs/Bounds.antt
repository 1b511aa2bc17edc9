-- How many states a machine of a regular expression has at most.
use Rattle.std.specs.Prelude.{ℕ, ◌+◌, ◌*◌, ◌^◌, List, [], ◌∷◌, length}
use Rattle.sv_terms.specs.declared.regex.Regex.{Regex}
use Rattle.sv_terms.specs.declared.regex.Regex.TheFolds.{fold-Regex}
use Rattle.sv_terms.specs.declared.regex.Regex.TheOpen.{Regex-F}
use Rattle.sv_terms.specs.CutOff.{cut_off}

-- numbers put together from the left
abbrev pub fold_left : (ℕ → ℕ → ℕ) → ℕ → List ℕ → ℕ
fold_left f n [] = n
fold_left f n (m ∷ ms) = fold_left f (f n m) ms

-- the same from the first one on, and 1 where there is none
abbrev pub from_left : (ℕ → ℕ → ℕ) → List ℕ → ℕ
from_left f [] = 1
from_left f (n ∷ ns) = fold_left f n ns

-- of two machines one after the other
abbrev pub in_turn_size : ℕ → ℕ → ℕ
in_turn_size n m = n + m

-- of a choice of two: both, and a start
abbrev pub choice_size : ℕ → ℕ → ℕ
choice_size n m = n + m + 1

-- of two together: pairs of states
abbrev pub both_size : ℕ → ℕ → ℕ
both_size n m = n * m

-- of one without the other: pairs of a state and a set of states
abbrev pub without_size : ℕ → ℕ → ℕ
without_size n m = n * 2 ^ m

-- the number of states, given those of the parts
abbrev pub size_step : Regex-F ℕ → ℕ
size_step Regex-F.Empty = 1
size_step Regex-F.All = 1
size_step Regex-F.AnyChar = 2
size_step (Regex-F.Text t) = length t + 1
size_step (Regex-F.Range lo hi) = 2
size_step (Regex-F.Concat ns) = from_left in_turn_size ns
size_step (Regex-F.Union ns) = from_left choice_size ns
size_step (Regex-F.Inter ns) = from_left both_size ns
size_step (Regex-F.Diff ns) = from_left without_size ns
size_step (Regex-F.Star n) = n + 1
size_step (Regex-F.Plus n) = n
size_step (Regex-F.Opt n) = n + 1
size_step (Regex-F.Comp n) = 2 ^ n
size_step (Regex-F.Loop n i j) = j * n + 1

abbrev pub size : Regex → ℕ
size = fold-Regex ℕ size_step

-- the bound of a regular expression
abbrev pub bound_of : Regex → ℕ
bound_of r = cut_off (size r)
