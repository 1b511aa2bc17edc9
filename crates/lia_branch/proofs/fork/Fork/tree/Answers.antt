use Rattle.std.proofs.Common.{rules, FitsSigned, refl}
use Rattle.std.specs.Int.{w128}
use Rattle.std.proofs.lemmas.Int.{to_z-of_z}
use Rattle.lia_branch.proofs.fork.Fork.tree.Goals as goal

pub returns-in-Unknown : goal.returns-in-Unknown
returns-in-Unknown c =
    let fits : FitsSigned w128 c.in-Unknown.at = search rules in
    rw (to_z-of_z w128 c.in-Unknown.at fits, c.in-Unknown.is, c.in_ok-first.ensures, c.in_ok-second.ensures) refl

pub returns-in-Set : goal.returns-in-Set
returns-in-Set c = rw (c.in-Set.is, c.in_ok-first.ensures, c.in_ok-second.ensures) refl
