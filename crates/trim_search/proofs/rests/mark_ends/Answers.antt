use Rattle.std.proofs.Common.{◌≡◌, ◌+◌, take, Any, refl, subst, sym}
use Rattle.std.proofs.lemmas.List.{take_all}
use Rattle.sv_list.specs.Lists.{Any-none, slice_get-read}
use Rattle.trim_search.specs.Incoming.{AreMarkedToo}
use Rattle.trim_search.proofs.RestLemmas.{too-none, too-then, ends-more}
use Rattle.trim_search.proofs.rests.mark_ends.Goals as goal

pub loop-end-init : goal.loop-end-init
loop-end-init c = too-none (λ s. Any (λ e. e.at ≡ s) (take 0 c.args.ends.now)) c.args.marks.now c.args.found.now c.requires.listed (λ s a. Any-none (λ e. e.at ≡ s) a)

pub mark-requires-clause-state : goal.mark-requires-clause-state
mark-requires-clause-state c = rw c.loop-end.invariant.size (c.requires.at c.end-item.result (c.loop-end.end-index, c.loop-end-test.true, sym c.end-item.is))

pub mark-requires-clause-listed : goal.mark-requires-clause-listed
mark-requires-clause-listed c = c.loop-end.invariant.listed

pub loop-end-preserved : goal.loop-end-preserved
loop-end-preserved c =
    let e = c.end-item.result in
    too-then (λ s. Any (λ x. x.at ≡ s) (take c.loop-end.end-index c.args.ends.now)) (λ s. e.at ≡ s) (λ s. Any (λ x. x.at ≡ s) (take (c.loop-end.end-index + 1) c.args.ends.now))
    c.args.marks.now c.loop-end.marks c.mark.new.marks c.args.found.now c.loop-end.found c.mark.new.found c.loop-end.invariant c.in_ok-mark.ensures
    (ends-more c.args.ends.now c.loop-end.end-index e c.loop-end-test.true (slice_get-read c.args.ends.now c.args.ends.now c.loop-end.end-index e c.loop-end-test.true refl c.end-item.is))

pub returns : goal.returns
returns c =
    subst (λ l. AreMarkedToo (λ s. Any (λ x. x.at ≡ s) l) c.args.marks.now c.args.found.now c.loop-end.marks c.loop-end.found)
    (take_all c.loop-end.end-index c.args.ends.now c.loop-end-test.false) c.loop-end.invariant
