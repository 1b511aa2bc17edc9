use Rattle.box_search.proofs.retracing.follow.Goals as goal

pub loop-place-preserved : goal.loop-place-preserved
loop-place-preserved c = c.in_ok-go_on.ensures c.if-not-branch.false

pub end-requires : goal.end-requires
end-requires c = c.loop-place.invariant

pub returns : goal.returns
returns c = c.end.ensures
