-- One machine in place of another with the same words.
use Rattle.std.proofs.Common.{◌≡◌, Bool, arith}
use Rattle.machine_core.specs.declared.graph.Graph.{Graph}
use Rattle.regex_machine.specs.Reversed.{ReadsSameWithin}
use Rattle.flat_cubes.specs.declared.variable.Own.{Own}
use Rattle.part_machines.specs.Parts.{IsOfPart}

pub same-itself : (m : Graph) → m.registers ≡ 0 → ReadsSameWithin m m.states m
same-itself m plain = (record { plain = plain; words = λ w. (λ r. r, λ r. r) }, omega arith)

pub same-part : (part : Own × Bool) (m n : Graph) → IsOfPart part m → ReadsSameWithin m m.states n → IsOfPart part n
same-part part m n h same = record {
  reads = record { plain = same.0.plain; words = λ w. (λ r. (h.reads.words w).0 ((same.0.words w).0 r), λ r. (same.0.words w).1 ((h.reads.words w).1 r)) };
  few = let fewer = same.1 in let few = h.few in omega (arith, fewer, few);
}
