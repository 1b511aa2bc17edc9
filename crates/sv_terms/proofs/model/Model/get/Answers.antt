use Rattle.std.proofs.Common.{◌≡◌, ◌∙◌, sym, Some, None, arith}
use Rattle.std.specs.Map.{keys_of}
use Rattle.sv_list.specs.Lists.{stands-at}
use Rattle.sv_terms.specs.Places.{place_of}
use Rattle.sv_terms.proofs.Placing.{place-within, lookup-at, lookup-none}
use Rattle.sv_terms.proofs.model.Model.get.Goals as goal

pub index-requires : goal.index-requires
index-requires c =
    let lt = place-within c.self.inside.entries.items c.args.name.now c.in-Some.place.now (sym (c.self.invariant.placed c.args.name.now) ∙ sym c.in-Some.ensures.value) in
    omega (arith, lt, c.self.inside.entries.ok.0)

pub returns-in-Some : goal.returns-in-Some
returns-in-Some c =
    let es = c.self.inside.entries.items in
    let at : place_of (keys_of es) c.args.name.now ≡ Some c.in-Some.place.now = sym (c.self.invariant.placed c.args.name.now) ∙ sym c.in-Some.ensures.value in
    let entry = stands-at es c.in-Some.place.now c.index.result.now (place-within es c.args.name.now c.in-Some.place.now at) c.index.ensures in
    rw (← c.self.view_is) (sym (lookup-at es c.args.name.now c.in-Some.place.now c.index.result.now at entry))

pub returns-in-None : goal.returns-in-None
returns-in-None c =
    let none : place_of (keys_of c.self.inside.entries.items) c.args.name.now ≡ None = sym (c.self.invariant.placed c.args.name.now) ∙ sym c.in-None.ensures.value in
    rw (← c.self.view_is) (sym (lookup-none c.self.inside.entries.items c.args.name.now none))
