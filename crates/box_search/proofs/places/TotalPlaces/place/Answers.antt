use Rattle.std.proofs.Common.{◌≡◌, ◌+◌, ◌*◌, refl, ◌∙◌, arith}
use Rattle.box_search.specs.Places.{HasPlace, place_of}
use Rattle.box_search.proofs.PlaceLemmas.{place-small}
use Rattle.box_search.proofs.places.TotalPlaces.place.Goals as goal

pub digits-row-requires : goal.digits-row-requires
digits-row-requires c =
    let state = c.from-state.ensures in
    let less = c.if-state-self.false in
    let machine = c.if-layer-self.false in
    let totals = rw (c.as_slice.ensures, c.as_slice-2.ensures) at c.in-Some.ensures in
    let h : HasPlace c.args.self.now.uppers c.args.self.now.states c.args.self.now.machines c.args.layer.now = record { totals = totals.0; state = omega arith; machine = omega arith } in
    let small = place-small c.args.self.now.uppers c.args.self.now.states c.args.self.now.machines c.args.self.now.points c.args.layer.now c.args.self.now.counted c.args.self.now.few h in
    let row = small.0 in
    omega arith

pub digits-requires : goal.digits-requires
digits-requires c =
    let state = c.from-state.ensures in
    let less = c.if-state-self.false in
    let machine = c.if-layer-self.false in
    let totals = rw (c.as_slice.ensures, c.as_slice-2.ensures) at c.in-Some.ensures in
    let h : HasPlace c.args.self.now.uppers c.args.self.now.states c.args.self.now.machines c.args.layer.now = record { totals = totals.0; state = omega arith; machine = omega arith } in
    let small = place-small c.args.self.now.uppers c.args.self.now.states c.args.self.now.machines c.args.self.now.points c.args.layer.now c.args.self.now.counted c.args.self.now.few h in
    let same : c.in-Some.totals + c.args.self.now.points * c.digits-row.result ≡ place_of c.args.self.now.uppers c.args.self.now.states c.args.layer.now =
    rw (totals.1, c.args.self.now.counted, c.digits-row.ensures, c.from-state.ensures) refl in
    let place = small.1 in
    omega arith

pub returns : goal.returns
returns c =
    let state = c.from-state.ensures in
    let less = c.if-state-self.false in
    let machine = c.if-layer-self.false in
    let totals = rw (c.as_slice.ensures, c.as_slice-2.ensures) at c.in-Some.ensures in
    let h : HasPlace c.args.self.now.uppers c.args.self.now.states c.args.self.now.machines c.args.layer.now = record { totals = totals.0; state = omega arith; machine = omega arith } in
    let small = place-small c.args.self.now.uppers c.args.self.now.states c.args.self.now.machines c.args.self.now.points c.args.layer.now c.args.self.now.counted c.args.self.now.few h in
    let same : c.in-Some.totals + c.args.self.now.points * c.digits-row.result ≡ place_of c.args.self.now.uppers c.args.self.now.states c.args.layer.now =
    rw (totals.1, c.args.self.now.counted, c.digits-row.ensures, c.from-state.ensures) refl in
    let is = c.digits.ensures ∙ same in
    let place = small.1 in
    (h, is, omega arith)
