-- Places in lists.
use Rattle.std.proofs.Common.{◌≡◌, zero, suc, List, [], ◌∷◌, ◌++◌, Contains, arith}
use Rattle.std.specs.List.{AllByRecursion}

-- an element is the first, or one of the others
pub contains-cases : {X : Type 0} (P : Type 0) (x y : X) (xs : List X) → Contains (y ∷ xs) x → (y ≡ x → P) → (Contains xs x → P) → P
contains-cases P x y xs (zero, lt, e) first rest = first e
contains-cases P x y xs (suc k, lt, e) first rest = rest (k, omega (arith, lt), e)

pub contains-none : {X : Type 0} (P : Type 0) (x : X) → Contains [] x → P
contains-none P x h = absurd (omega (arith, h.1))

-- what holds of all holds of both parts
pub first-part : {X : Type 0} (P : X → Type 0) (xs ys : List X) → AllByRecursion P (xs ++ ys) → AllByRecursion P xs × AllByRecursion P ys
first-part P [] ys h = (tt, h)
first-part P (x ∷ xs) ys h = let r = first-part P xs ys h.1 in ((h.0, r.0), r.1)
