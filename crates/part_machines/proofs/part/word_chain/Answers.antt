use Rattle.std.proofs.Common.{◌+◌, length, subst, ◌∙◌, if◌then◌else◌}
use Rattle.part_machines.specs.Chains.{follows}
use Rattle.part_machines.specs.Parts.{Decides}
use Rattle.part_machines.proofs.part.word_chain.Goals as goal

pub returns-clause-machine : goal.returns-clause-machine
returns-clause-machine c =
    subst (λ l. Decides (follows c.args.longer l) c.args.holds (length l + (if c.args.holds then 1 else 2)) c.in_ok-chain.field-0) (c.as_slice.ensures ∙ c.in_ok-ranges.ensures.ranges) c.in_ok-chain.ensures
