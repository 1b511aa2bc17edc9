use Rattle.std.proofs.Common.{◌≡◌, ◌∙◌, sym, Some, None, arith}
use Rattle.std.specs.Map.{keys_of}
use Rattle.sv_terms.specs.Places.{place_of}
use Rattle.sv_terms.proofs.Placing.{place-within, insert-at, insert-new, keys-set, index-push}
use Rattle.sv_terms.proofs.model.Model.set.Goals as goal

pub index_mut-requires : goal.index_mut-requires
index_mut-requires c =
    let lt = place-within c.self.inside.entries.items c.args.name c.in-Some.place.now (sym (c.self.invariant.placed c.args.name) ∙ sym c.in-Some.ensures.value) in
    omega (arith, lt, c.self.inside.entries.ok.0)

pub invariant_of-self : goal.invariant_of-self
invariant_of-self c =
    let at : place_of (keys_of c.self.inside.entries.items) c.args.name ≡ Some c.in-Some.place.now = sym (c.self.invariant.placed c.args.name) ∙ sym c.in-Some.ensures.value in
    rw (keys-set c.self.inside.entries.items c.args.name c.args.value c.in-Some.place.now at) c.self.invariant

pub invariant_of-self-in-None : goal.invariant_of-self-in-None
invariant_of-self-in-None c =
    let es = c.self.inside.entries.items in
    let none : place_of (keys_of es) c.args.name ≡ None = sym (c.self.invariant.placed c.args.name) ∙ sym c.in-None.ensures.value in
    rw (c.push_reserved.ensures.items, c.add_place.ensures.kept) (index-push es c.self.inside.places c.add_place.new.places c.args.name c.args.value c.self.invariant none c.in_ok-add_place-in-None.ensures.ok.0)

pub returns-in-Some-clause-ok : goal.returns-in-Some-clause-ok
returns-in-Some-clause-ok c =
    let at : place_of (keys_of c.self.inside.entries.items) c.args.name ≡ Some c.in-Some.place.now = sym (c.self.invariant.placed c.args.name) ∙ sym c.in-Some.ensures.value in
    rw (← c.self.view_is) (sym (insert-at c.self.inside.entries.items c.args.name c.args.value c.in-Some.place.now at))

pub returns-in_ok-add_place-in-None-clause-ok : goal.returns-in_ok-add_place-in-None-clause-ok
returns-in_ok-add_place-in-None-clause-ok c =
    let es = c.self.inside.entries.items in
    let none : place_of (keys_of es) c.args.name ≡ None = sym (c.self.invariant.placed c.args.name) ∙ sym c.in-None.ensures.value in
    rw (c.push_reserved.ensures.items, c.add_place.ensures.kept, ← c.self.view_is) (sym (insert-new es c.args.name c.args.value none))
