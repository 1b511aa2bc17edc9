use Rattle.std.proofs.Common.{◌<◌, length, take}
use Rattle.regex_machine.specs.Joined.{AreMade}
use Rattle.regex_machine.specs.Parts.{AddsParts}
use Rattle.regex_machine.specs.declared.kind.JoinKind.TheVariants.{All}
use Rattle.regex_machine.specs.Onwards.{AreBegun}
use Rattle.regex_machine.proofs.WeaveLemmas.{IsWritten, IsChosen}
use Rattle.regex_machine.proofs.building.+make.Given as goal

abbrev pub invariant-make_all-loop-r : goal.invariant-make_all-loop-r
invariant-make_all-loop-r l = AreMade (take l.r-index l.rs) l.parts

abbrev pub invariant-add_parts-loop-r : goal.invariant-add_parts-loop-r
invariant-add_parts-loop-r l = AddsParts All (take l.r-index l.rs) l.initial.parts l.parts

abbrev pub invariant-before_each-loop-at : goal.invariant-before_each-loop-at
invariant-before_each-loop-at l = record {
  room : l.at < length l.rs;
  written : AreBegun l.fn.states l.fn.rest → IsWritten l.rs l.fn.states l.fn.rest l.at l.states l.rest l.front;
}

abbrev pub decreases-before_each-loop-at : goal.decreases-before_each-loop-at
decreases-before_each-loop-at l = l.at

abbrev pub invariant-before_one-loop-r : goal.invariant-before_one-loop-r
invariant-before_one-loop-r l = AreBegun l.fn.states l.fn.rest → IsChosen l.rs l.fn.states l.fn.rest l.r-index l.states l.rest l.moves l.may_end
