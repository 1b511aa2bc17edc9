use Rattle.std.proofs.Common.{◌≡◌, take, Any}
use Rattle.trim_search.specs.Incoming.{AreMarkedToo}
use Rattle.trim_search.proofs.rests.mark_ends.Given as goal

abbrev pub invariant-loop-end : goal.invariant-loop-end
invariant-loop-end l = AreMarkedToo (λ s. Any (λ e. e.at ≡ s) (take l.end-index l.ends)) l.initial.marks l.initial.found l.marks l.found
