-- Numbers below a bound, by their places.
use Rattle.std.proofs.Common.{◌≡◌, subst, ℕ, zero, suc, ◌<◌, List, [], ◌∷◌, length, get_or, Some, arith}
use Rattle.std.specs.Prelude.{slice_get}
use Rattle.flat_cubes.specs.Using.{used}
use Rattle.flat_cubes.specs.Straight.{AreBelow, HaveVariablesBelow}
use Rattle.flat_cubes.specs.declared.definition.Definition.{Definition}

pub below_at : (n : ℕ) (vs : List ℕ) (i : ℕ) → AreBelow n vs → i < length vs → get_or vs i 0 < n
below_at n [] i a l = absurd (omega arith)
below_at n (v ∷ vs) zero a l = a.0
below_at n (v ∷ vs) (suc i) a l = below_at n vs i a.1 (omega arith)

pub within_uses : (n : ℕ) (ds : List Definition) (k : ℕ) (d : Definition) → HaveVariablesBelow n ds → slice_get ds k ≡ Some d → AreBelow n (used d.by)
within_uses n [] k d a e = absurd (cc)
within_uses n (c ∷ ds) zero d a e = let q : c ≡ d = cc in subst (λ z. AreBelow n (used z.by)) q a.0.uses
within_uses n (c ∷ ds) (suc k) d a e = within_uses n ds k d a.1 e

pub within_variable : (n : ℕ) (ds : List Definition) (k : ℕ) (d : Definition) → HaveVariablesBelow n ds → slice_get ds k ≡ Some d → d.variable < n
within_variable n [] k d a e = absurd (cc)
within_variable n (c ∷ ds) zero d a e = let q : c ≡ d = cc in subst (λ z. z.variable < n) q a.0.defined
within_variable n (c ∷ ds) (suc k) d a e = within_variable n ds k d a.1 e
