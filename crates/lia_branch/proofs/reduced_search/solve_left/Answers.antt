use Rattle.std.proofs.Common.{IfSome, subst}
use Rattle.lia_quick.specs.Finds.{IsQuickAnswer}
use Rattle.lia_branch.proofs.reduced_search.solve_left.Goals as goal

pub returns-in-Some-Point : goal.returns-in-Some-Point
returns-in-Some-Point g c =
    let found = subst (λ o. IfSome o (IsQuickAnswer c.args.system.now)) c.in-Some-Point.is c.in_ok-point.ensures in
    c.joining_point.ensures.found c.args.system.now c.requires.searchable c.requires.cutter (subst (IsQuickAnswer c.args.system.now) c.in-Some-Point.field-0-is found)
