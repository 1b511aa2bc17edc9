use Rattle.std.proofs.Common.{◌≡◌, ◌<◌, ◌∙◌, length, slice_set, Some, refl, subst}
use Rattle.box_search.specs.Places.{place_of}
use Rattle.box_search.proofs.TableLemmas.{index-kept, index-more, index-place, index-other, layer-itself}
use Rattle.box_search.proofs.layer_table.LayerTableStateNumberingLayer.add.Goals as goal

pub invariant_of-self-in_default : goal.invariant_of-self-in_default
invariant_of-self-in_default c =
    let place = c.self.inside.places in
    rw (c.push_reserved.ensures.items, c.reserve.ensures.items)
    (index-other place.uppers place.states place.machines c.self.inside.names.items c.args.layer (rw c.self.view_is c.requires.new) c.self.inside.table c.self.inside.others c.insert_copy.new.others
    c.self.invariant c.in_default.ensures (layer-itself c.args.layer)
    (λ q. c.in_ok-insert_copy.ensures.ok.0 q ∙ rw (c.len-number.ensures, c.self.inside.names.ok.0) refl))

pub invariant_of-self-in_err-widen : goal.invariant_of-self-in_err-widen
invariant_of-self-in_err-widen c =
    let place = c.self.inside.places in
    rw c.reserve.ensures.items
    (index-more place.uppers place.states place.machines c.self.inside.names.items c.self.inside.table c.widen.new.table c.self.inside.others c.self.invariant c.widen.ensures.kept c.widen.ensures.found)

pub invariant_of-self-2 : goal.invariant_of-self-2
invariant_of-self-2 c =
    let place = c.self.inside.places in
    let p = c.in-Some.ensures in
    let at : c.set.new.self ≡ slice_set c.widen.new.table (place_of place.uppers place.states c.args.layer) (Some (length c.self.inside.names.items)) =
    c.set.ensures ∙ rw (p.1, c.len-number.ensures, c.self.inside.names.ok.0) refl in
    let longer = index-more place.uppers place.states place.machines c.self.inside.names.items c.self.inside.table c.widen.new.table c.self.inside.others c.self.invariant c.widen.ensures.kept c.widen.ensures.found in
    rw (c.push_reserved-2.ensures.items, c.reserve.ensures.items, at)
    (index-place place.uppers place.states place.machines c.self.inside.names.items c.args.layer (rw c.self.view_is c.requires.new) c.widen.new.table c.self.inside.others longer p.0
    (subst (λ n. n < length c.widen.new.table) p.1 c.in_ok-widen.ensures.ok))

pub invariant_of-self : goal.invariant_of-self
invariant_of-self c = rw c.reserve.ensures.items c.self.invariant

pub invariant_of-self-in_err-insert_copy : goal.invariant_of-self-in_err-insert_copy
invariant_of-self-in_err-insert_copy c =
    let place = c.self.inside.places in
    rw c.reserve.ensures.items
    (index-kept place.uppers place.states place.machines c.self.inside.names.items c.self.inside.table c.self.inside.others c.insert_copy.new.others c.in_err-insert_copy.ensures.err c.self.invariant)
