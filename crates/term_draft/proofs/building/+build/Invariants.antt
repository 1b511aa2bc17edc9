use Rattle.std.proofs.Common.{◌≡◌, ◌+◌, map, take}
use Rattle.term_weight.specs.Bodies.{put_in}
use Rattle.term_draft.specs.Drafts.{at_places, senses, term_found}
use Rattle.term_draft.proofs.Builds.{cost, node_cost, size, sizes}
use Rattle.term_draft.proofs.building.+build.Given as goal

-- what is left: the parts, and what stands at hand
abbrev pub decreases-build : goal.decreases-build
decreases-build l = cost l.parts.now

abbrev pub decreases-build_node : goal.decreases-build_node
decreases-build_node l = cost l.before.now + node_cost l.node.now

abbrev pub decreases-build_applied : goal.decreases-build_applied
decreases-build_applied l = cost l.before.now + 2

abbrev pub decreases-build_related : goal.decreases-build_related
decreases-build_related l = cost l.before.now + 2

abbrev pub decreases-build_called : goal.decreases-build_called
decreases-build_called l = cost l.before.now + (1 + size l.term.now)

abbrev pub decreases-build_all : goal.decreases-build_all
decreases-build_all l = cost l.parts.now + 1

abbrev pub decreases-put_in : goal.decreases-put_in
decreases-put_in l = cost l.parts.now + size l.term.now

abbrev pub decreases-put_in_constant : goal.decreases-put_in_constant
decreases-put_in_constant l = cost l.parts.now + 1

abbrev pub decreases-put_in_applied : goal.decreases-put_in_applied
decreases-put_in_applied l = cost l.parts.now + sizes l.terms.now

abbrev pub decreases-put_in_member : goal.decreases-put_in_member
decreases-put_in_member l = cost l.parts.now + (1 + size l.word.now)

abbrev pub decreases-put_in_related : goal.decreases-put_in_related
decreases-put_in_related l = cost l.parts.now + (1 + (size l.read.now + size l.written.now))

abbrev pub invariant-build_all-loop-place : goal.invariant-build_all-loop-place
invariant-build_all-loop-place l = l.all ≡ at_places (senses l.parts) (take l.place-index l.places)

abbrev pub invariant-put_in_applied-loop-term : goal.invariant-put_in_applied-loop-term
invariant-put_in_applied-loop-term l = l.all ≡ map (put_in (term_found (senses l.parts) l.index l.arguments)) (take l.term-index l.terms)
