use Rattle.std.proofs.Common.{ap, arith, map, ◌∙◌}
use Rattle.std.proofs.lemmas.List.{take_all}
use Rattle.term_weight.specs.Bodies.{body_sort}
use Rattle.term_draft.specs.Drafts.{at_place, at_places}
use Rattle.term_draft.proofs.Drafting.{mapped-more}
use Rattle.term_draft.proofs.draft.TermDraft.sorts.Goals as goal

pub loop-place-preserved : goal.loop-place-preserved
loop-place-preserved c =
    mapped-more body_sort (at_place c.args.self.now) c.args.places.now c.loop-place.place-index 0 c.loop-place.all c.push.new.self c.sort.result c.loop-place-test.true c.loop-place.invariant c.sort.ensures c.in_ok-push.ensures.ok

pub returns : goal.returns
returns c = c.loop-place.invariant ∙ ap (λ ps. map body_sort (at_places c.args.self.now ps)) (take_all c.loop-place.place-index c.args.places.now (omega arith))
