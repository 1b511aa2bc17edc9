use Rattle.std.proofs.Common.{◌≡◌, ◌≤◌, ◌^◌, ◌↔◌, true, false, drop}
use Rattle.farkas_check.specs.Leaves.{leaf_rows}
use Rattle.farkas_check.specs.Closings.{Allowed, OfEquations}
use Rattle.farkas_check.proofs.leaf.Leaf.ascends.Given as goal

abbrev pub invariant-loop-row : goal.invariant-loop-row
invariant-loop-row l = record {
  bound : l.next ≤ 2 ^ 32;
  equations : l.equations_alone ≡ true → OfEquations 0 (leaf_rows l.self) l.self.multipliers.now ↔ OfEquations l.next (leaf_rows l.self) (drop l.row-index l.row-items);
  allowed : l.equations_alone ≡ false → Allowed 0 (leaf_rows l.self) l.self.multipliers.now ↔ Allowed l.next (leaf_rows l.self) (drop l.row-index l.row-items);
}
