use Rattle.std.proofs.Common.{ℕ, ap, ◌∙◌}
use Rattle.std.proofs.lemmas.List.{take_all}
use Rattle.std.proofs.lemmas.List.Elements.{Contains-get_or}
use Rattle.machine_core.specs.Edges.{from_of}
use Rattle.machine_core.specs.Places.{places}
use Rattle.subset_machine.specs.Legs.{places_from_some}
use Rattle.subset_machine.proofs.HitLemmas.{joined-more}
use Rattle.subset_machine.proofs.leaving.places_of.Goals as goal

pub edges_from-requires : goal.edges_from-requires
edges_from-requires c = c.requires _ (Contains-get_or c.args.list.now c.loop-s.s-index 0 c.loop-s-test.true)

pub loop-s-preserved : goal.loop-s-preserved
loop-s-preserved c =
    joined-more (λ (s : ℕ). places from_of s c.args.machine.now.edges) c.args.list.now c.loop-s.s-index 0 c.loop-s.places.items c.edges_from.result.now c.extend_from_slice.new.self.items c.loop-s-test.true c.loop-s.invariant
    c.edges_from.ensures c.in_ok-extend_from_slice.ensures.items

pub returns : goal.returns
returns c = c.loop-s.invariant ∙ ap (places_from_some c.args.machine.now.edges) (take_all c.loop-s.s-index c.args.list.now c.loop-s-test.false)
