use Rattle.std.proofs.Common.{◌≡◌, drop}
use Rattle.farkas_check.specs.Closings.{contains_number}
use Rattle.farkas_check.proofs.branch.contains.Given as goal

abbrev pub invariant-loop-member : goal.invariant-loop-member
invariant-loop-member l = contains_number l.state (drop l.member-index l.set) ≡ contains_number l.state l.set
