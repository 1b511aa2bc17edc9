use Rattle.std.proofs.Common.{false, true}
use Rattle.trim_search.proofs.RestLemmas.{too-old, too-new, read-mark}
use Rattle.trim_search.proofs.rests.mark.Goals as goal

pub returns-then-as_slice-state : goal.returns-then-as_slice-state
returns-then-as_slice-state c =
    too-old c.args.marks.now c.args.found.now c.args.state c.requires.listed
    (read-mark c.args.marks.now c.as_slice.result.now c.args.state true c.as_slice.ensures c.requires.state c.if-as_slice-state.true)

pub returns : goal.returns
returns c =
    rw (c.set.ensures, c.in_ok-push.ensures.ok) (too-new c.args.marks.now c.args.found.now c.args.state c.requires.listed
    (read-mark c.args.marks.now c.as_slice.result.now c.args.state false c.as_slice.ensures c.requires.state c.if-as_slice-state.false) c.requires.state)
