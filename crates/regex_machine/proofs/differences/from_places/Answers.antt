use Rattle.regex_machine.proofs.ReversedLemmas.{reversed-plain, none-turned, none-within}
use Rattle.regex_machine.proofs.differences.from_places.Goals as goal

pub none_in_first_only-requires : goal.none_in_first_only-requires
none_in_first_only-requires c = reversed-plain c.args.parts.now c.args.turned.now c.requires.turned

pub returns-then-branch : goal.returns-then-branch
returns-then-branch c =
    none-within c.args.parts.now c.in_ok-nothing.field-0 c.args.most (none-turned c.args.parts.now c.args.turned.now c.requires.turned (c.in_ok-none_in_first_only.ensures c.if-branch.true))
    c.in_ok-nothing.ensures.reads c.in_ok-nothing.ensures.states c.requires.most

pub returns-then-branch-2 : goal.returns-then-branch-2
returns-then-branch-2 c =
    none-within c.args.parts.now c.in_ok-nothing-2.field-0 c.args.most (c.in_ok-none_in_first_only-2.ensures c.if-branch-2.true) c.in_ok-nothing-2.ensures.reads c.in_ok-nothing-2.ensures.states c.requires.most
