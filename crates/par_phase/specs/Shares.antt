-- Jobs cut into shares of neighbours: each share has the quotient of the jobs by the shares, and the first shares, as many as the remainder says, have one job more.
use Rattle.std.specs.Prelude.{ℕ, ◌+◌, ◌*◌, ◌/◌, ◌%◌, min, List, length, slice_range}

-- the place of the first job of a share; behind the last share it is the number of jobs
abbrev pub first_of : ℕ → ℕ → ℕ → ℕ
first_of jobs shares share = share * (jobs / shares) + min share (jobs % shares)

-- the jobs of a share
abbrev pub share_of : {J : Type 0} → List J → ℕ → ℕ → List J
share_of jobs shares share = slice_range jobs (first_of (length jobs) shares share) (first_of (length jobs) shares (share + 1))
