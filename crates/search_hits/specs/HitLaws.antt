-- The characters of runs, one run more.
use Rattle.std.proofs.Common.{◌≡◌, ℕ, ◌+◌, List, [], ◌∷◌, ◌++◌, length, arith}
use Rattle.machine_core.specs.declared.run.Run.{Run}
use Rattle.search_hits.specs.Hits.{characters}

pub characters-push : (rs : List (Run ℕ)) (r : Run ℕ) → characters (rs ++ r ∷ []) ≡ characters rs + length r.word
characters-push [] r = omega arith
characters-push (x ∷ rs) r = let h = characters-push rs r in omega arith
