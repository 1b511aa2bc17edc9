-- What holds of each member of a list holds of one, and of each of the lists that are made of it.
use Rattle.std.proofs.Common.{subst, ℕ, zero, suc, ◌<◌, List, [], ◌∷◌, length, get_or, arith}
use Rattle.std.specs.Prelude.{Contains}
use Rattle.std.specs.List.{AllByRecursion}

pub all_at : {X : Type 0} (P : X → Type 0) (xs : List X) (k : ℕ) (d : X) → k < length xs → AllByRecursion P xs → P (get_or xs k d)
all_at P [] k d h a = absurd (omega arith)
all_at P (x ∷ xs) zero d h a = a.0
all_at P (x ∷ xs) (suc k) d h a = all_at P xs k d (omega arith) a.1

pub all_contains : {X : Type 0} (P : X → Type 0) (xs : List X) (x : X) → Contains xs x → AllByRecursion P xs → P x
all_contains P xs x c a = subst P c.2 (all_at P xs c.0 x c.1 a)
