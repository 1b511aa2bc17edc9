use Rattle.std.proofs.Common.{◌≡◌, ◌+◌, ◌-◌, subst, arith}
use Rattle.regex_machine.specs.Reversed.{ReadsFirstOnlyWithin}
use Rattle.regex_machine.proofs.ReversedLemmas.{reversed-plain, first-only-turned}
use Rattle.regex_machine.proofs.differences.from_end.Goals as goal

pub difference-requires : goal.difference-requires
difference-requires c = reversed-plain c.args.parts.now c.args.turned.now c.requires

pub returns-in_ok-back-in-Ok : goal.returns-in_ok-back-in-Ok
returns-in_ok-back-in-Ok c =
    let one : c.args.limit - 1 + 1 ≡ c.args.limit = omega arith in
    subst (λ n. ReadsFirstOnlyWithin c.args.parts.now n c.in_ok-back-in-Ok.back) one
    (first-only-turned c.args.parts.now c.args.turned.now c.in-Ok.machine c.in_ok-back-in-Ok.back (c.args.limit - 1) c.requires c.in-Ok.ensures.0 c.in-Ok.ensures.2 c.in_ok-back-in-Ok.ensures)
