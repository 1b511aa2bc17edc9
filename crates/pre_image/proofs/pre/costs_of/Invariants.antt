use Rattle.std.proofs.Common.{◌≡◌, ℕ, ◌↔◌, List, take, Any}
use Rattle.machine_core.specs.Places.{pick}
use Rattle.pre_image.specs.Leading.{EndsInPair}
use Rattle.pre_image.proofs.pre.costs_of.Given as goal

abbrev pub invariant-loop-place : goal.invariant-loop-place
invariant-loop-place l = (cost : List ℕ) → Any (λ e. e ≡ cost) l.all ↔ Any (EndsInPair l.target l.at cost) (pick l.ends (take l.place-index l.places))
