use Rattle.std.proofs.Common.{ℕ, ◌↔◌, List, take, Any, All}
use Rattle.sv_word.specs.Ranges.{IsInhabited}
use Rattle.machine_core.specs.Moves.{Moves}
use Rattle.machine_core.specs.Places.{pick}
use Rattle.pre_image.specs.Leading.{Passes}
use Rattle.pre_image.proofs.pre.moves_of.Given as goal

abbrev pub invariant-loop-place : goal.invariant-loop-place
invariant-loop-place l = record {
  exact : (c : ℕ) (cost : List ℕ) (to : ℕ × ℕ) → Any (Moves c cost to) l.all ↔ Any (Passes l.target l.at c cost to) (pick l.edges (take l.place-index l.places));
  inhabited : All (λ m. IsInhabited m.on) l.all;
}
