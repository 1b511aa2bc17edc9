use Rattle.std.proofs.Common.{refl, ◌∙◌}
use Rattle.trim_search.proofs.NumberLemmas.{index-add}
use Rattle.trim_search.proofs.numbering.OrderedStatesStateNumbering.add.Goals as goal

pub invariant_of-self-2 : goal.invariant_of-self-2
invariant_of-self-2 g c =
    rw (c.push_reserved.ensures.items, c.reserve.ensures.items) (index-add g.S.Ord.cmp g.met.S.Ord.total g.met.S.State.same c.self.inside.names.items c.self.inside.index c.insert.new.self c.args.state c.self.invariant
    (rw c.self.view_is c.requires.new)
    (λ q. c.in_ok-insert.ensures.updates.0 q ∙ rw (c.in_ok-key.ensures, c.len-number.ensures, c.self.inside.names.ok.0) refl))
