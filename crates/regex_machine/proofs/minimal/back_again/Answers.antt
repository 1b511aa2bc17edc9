use Rattle.std.specs.Prelude.{IfSome}
use Rattle.std.proofs.Common.{Option, subst}
use Rattle.machine_core.specs.declared.graph.Graph.{Graph}
use Rattle.regex_machine.specs.Reversed.{ReadsBackWithin}
use Rattle.regex_machine.proofs.ReversedLemmas.{back-twice}
use Rattle.regex_machine.proofs.minimal.back_again.Goals as goal

pub returns-in-Some : goal.returns-in-Some
returns-in-Some c =
    back-twice c.args.part.now c.args.back.now c.in-Some.machine c.args.limit c.requires
    (subst (λ (o : Option Graph). IfSome o (ReadsBackWithin c.args.back.now c.args.limit)) c.in-Some.is c.in_ok-machine.ensures)
