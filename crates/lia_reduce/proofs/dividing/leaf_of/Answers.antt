use Rattle.std.proofs.Common.{rules}
use Rattle.std.specs.Int.{w128}
use Rattle.std.proofs.lemmas.Int.{to_z-of_z}
use mir.Val.{SFits}
use Rattle.farkas_check.specs.Systems.{rows_of}
use Rattle.farkas_check.specs.NodeLaws.{divisor_closed}
use Rattle.lia_reduce.proofs.dividing.leaf_of.Goals as goal

pub returns-in-Closes : goal.returns-in-Closes
returns-in-Closes c =
    let fd : SFits w128 c.args.divisor = search rules in
    let told = rw (c.in-Closes.is, to_z-of_z w128 _ fd, c.as_slice.ensures, c.as_slice-2.ensures) at c.in_ok-test_divisor.ensures in
    rw (to_z-of_z w128 _ fd) (divisor_closed c.args.system.now.nets (rows_of c.args.system.now) c.in-Some.multipliers c.args.divisor told)
