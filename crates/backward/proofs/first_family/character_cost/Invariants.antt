use Rattle.std.proofs.Common.{◌≡◌, nat_eq, cond, map, take}
use Rattle.backward.proofs.first_family.character_cost.Given as goal

abbrev pub invariant-loop-register : goal.invariant-loop-register
invariant-loop-register l = l.cost ≡ map (λ z. cond (nat_eq z l.v) 1 0) (take l.register-index l.registers)
