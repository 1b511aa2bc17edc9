use Rattle.std.proofs.Common.{◌≡◌, ◌+◌, ◌-◌, subst, arith}
use Rattle.regex_machine.specs.Reversed.{ReadsOthersWithin}
use Rattle.regex_machine.proofs.ReversedLemmas.{others-turned}
use Rattle.regex_machine.proofs.complements.from_end.Goals as goal

pub returns-in_ok-back-in-Ok : goal.returns-in_ok-back-in-Ok
returns-in_ok-back-in-Ok c =
    let one : c.args.limit - 1 + 1 ≡ c.args.limit = omega arith in
    subst (λ n. ReadsOthersWithin c.args.part.now n c.in_ok-back-in-Ok.back) one
    (others-turned c.args.part.now c.args.turned.now c.in-Ok.others c.in_ok-back-in-Ok.back (c.args.limit - 1) c.requires c.in-Ok.ensures.0 c.in-Ok.ensures.2 c.in_ok-back-in-Ok.ensures)
