use Rattle.std.proofs.Common.{◌≡◌, Some, slice_get, sym, subst}
use Rattle.std.specs.BTreeMap.{get}
use Rattle.box_search.specs.Places.{layer_cmp}
use Rattle.box_search.proofs.TableLemmas.{find-table, find-other}
use Rattle.box_search.proofs.layer_table.LayerTableStateNumberingLayer.find.Goals as goal

pub returns-in_default : goal.returns-in_default
returns-in_default c =
    let place = c.self.inside.places in
    let found = c.get.ensures.value in
    let copied = c.copied.ensures in
    let e : get layer_cmp c.self.inside.others c.args.layer.now ≡ c.copied.result = cc in
    rw (← c.self.view_is) (find-other place.uppers place.states place.machines c.self.inside.names.items c.self.inside.table c.self.inside.others c.args.layer.now c.self.invariant c.in_default.ensures c.copied.result e)

pub returns-in-Some-get : goal.returns-in-Some-get
returns-in-Some-get c =
    let place = c.self.inside.places in
    let p = c.in-Some.ensures in
    let e = subst (λ n. slice_get c.self.inside.table n ≡ Some c.in-Some-get.number.now) p.1 (sym c.in-Some-get.ensures.value) in
    rw (← c.self.view_is) (find-table place.uppers place.states place.machines c.self.inside.names.items c.self.inside.table c.self.inside.others c.args.layer.now c.self.invariant p.0 c.in-Some-get.number.now e)
