-- What a place of a list holds, told apart: nothing, a place that is free, or one thing. They ask nothing of the things, so that a proof compares no machines.
use Rattle.std.proofs.Common.{◌≡◌, Some, None}
pub use Rattle.std.proofs.lemmas.Option.{none-some, same_Some}

pub free-held : {X : Type 0} (x : X) → Some None ≡ Some (Some x) → ⊥
free-held x e = none-some x (same_Some None (Some x) e)

pub held-once : {X : Type 0} (x y : X) → Some (Some x) ≡ Some (Some y) → x ≡ y
held-once x y e = same_Some x y (same_Some (Some x) (Some y) e)
