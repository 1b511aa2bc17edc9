-- Look-up in a list that is joined of two.
use Rattle.std.proofs.Common.{◌≡◌, refl, sym, ap, true, false, Bool, List, [], ◌∷◌, ◌++◌, Option, Some, None, is_some}
use Rattle.std.specs.Map.{lookup}
use Rattle.smt_names.specs.Signature.{Name, same_name}
use mathlib.Core.Bool.{cond}

there : {A : Type 0} (b : Bool) (v : A) (o p q : Option A) → (o ≡ None → p ≡ q) → cond b (Some v) o ≡ None → cond b (Some v) p ≡ q
there true v o p q k e = let f : false ≡ true = sym (ap is_some e) in absurd (cc)
there false v o p q k e = k e

pub lookup-there : {A : Type 0} (n : Name) (xs ys : List (Name × A)) → lookup (same_name n) xs ≡ None → lookup (same_name n) (xs ++ ys) ≡ lookup (same_name n) ys
lookup-there n [] ys e = refl
lookup-there n (x ∷ xs) ys e = there (same_name n x.0) x.1 (lookup (same_name n) xs) (lookup (same_name n) (xs ++ ys)) (lookup (same_name n) ys) (lookup-there n xs ys) e
