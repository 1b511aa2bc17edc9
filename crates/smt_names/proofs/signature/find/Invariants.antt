use Rattle.std.proofs.Common.{◌≡◌, drop}
use Rattle.std.specs.Map.{lookup}
use Rattle.smt_names.specs.Signature.{same_name}
use Rattle.smt_names.proofs.signature.find.Given as goal

abbrev pub invariant-loop-row : goal.invariant-loop-row
invariant-loop-row g l = lookup (λ n. same_name l.name n.now) l.table ≡ lookup (λ n. same_name l.name n.now) (drop l.row-index l.table)
