use Rattle.std.proofs.Common.{◌≡◌, ◌∙◌, pos, ◌++◌, map, false, true, All, ap, sym, subst}
use Rattle.search_hits.specs.Regions.{AreWithin, whole_side}
use Rattle.search_hits.specs.Boxes.{IsSide, IsPointFound, point_side}
use Rattle.box_layers.specs.Layers.{AreGood}
use Rattle.box_layers.proofs.SideLemmas.{known-box, known-some, known-none, good-integers}
use Rattle.box_layers.proofs.layers.Layers.numbers.Goals as goal

pub returns-then-not-have_numbers : goal.returns-then-not-have_numbers
returns-then-not-have_numbers c = λ good.
    let yes : c.have_numbers.result ≡ true = c.have_numbers.ensures.1 (subst (All IsSide) (sym c.as_slice-2.ensures) (good-integers c.args.self.now.rows.now c.args.self.now.region.now c.args.totals.now good)) in
    let none : c.have_numbers.result ≡ false = c.if-not-have_numbers.true in
    cc

pub find-requires : goal.find-requires
find-requires c =
    let some = subst (All IsSide) c.as_slice-2.ensures (c.have_numbers.ensures.0 c.if-not-have_numbers.false) in
    let within = subst (λ l. AreWithin (map whole_side l) (map pos c.args.totals.now)) c.as_slice.ensures (c.are_within.ensures.0 c.if-not-are_within.false) in
    let e : c.as_slice-4.result.now ≡ c.args.self.now.region.now.integers ++ map point_side c.args.totals.now = c.as_slice-4.ensures ∙ c.in_ok-sides.ensures ∙ ap (λ l. l ++ map point_side c.args.totals.now) c.as_slice-3.ensures in
    known-box c.args.self.now.rows.now c.args.self.now.region.now c.args.totals.now c.args.self.now.integers c.as_slice-4.result.now e c.requires c.args.self.now.integer_sides some within c.args.self.now.unknowns c.args.self.now.fits

pub front-requires : goal.front-requires
front-requires c =
    let e : c.as_slice-4.result.now ≡ c.args.self.now.region.now.integers ++ map point_side c.args.totals.now = c.as_slice-4.ensures ∙ c.in_ok-sides.ensures ∙ ap (λ l. l ++ map point_side c.args.totals.now) c.as_slice-3.ensures in
    let found = subst (IsPointFound c.args.self.now.rows.now c.as_slice-4.result.now) c.in-Some.is c.in_ok-point.ensures in
    (known-some c.args.self.now.rows.now c.args.self.now.region.now c.args.totals.now c.args.self.now.integers c.as_slice-4.result.now c.in-Some.point e c.args.self.now.integer_sides found).1

pub returns-in-Some : goal.returns-in-Some
returns-in-Some c =
    let within = subst (λ l. AreWithin (map whole_side l) (map pos c.args.totals.now)) c.as_slice.ensures (c.are_within.ensures.0 c.if-not-are_within.false) in
    let e : c.as_slice-4.result.now ≡ c.args.self.now.region.now.integers ++ map point_side c.args.totals.now = c.as_slice-4.ensures ∙ c.in_ok-sides.ensures ∙ ap (λ l. l ++ map point_side c.args.totals.now) c.as_slice-3.ensures in
    let found = subst (IsPointFound c.args.self.now.rows.now c.as_slice-4.result.now) c.in-Some.is c.in_ok-point.ensures in
    (within, subst (AreGood c.args.self.now.rows.now c.args.self.now.region.now c.args.totals.now) (sym c.front.ensures) (known-some c.args.self.now.rows.now c.args.self.now.region.now c.args.totals.now c.args.self.now.integers c.as_slice-4.result.now c.in-Some.point e c.args.self.now.integer_sides found).0)

pub returns : goal.returns
returns c =
    let e : c.as_slice-4.result.now ≡ c.args.self.now.region.now.integers ++ map point_side c.args.totals.now = c.as_slice-4.ensures ∙ c.in_ok-sides.ensures ∙ ap (λ l. l ++ map point_side c.args.totals.now) c.as_slice-3.ensures in
    known-none c.args.self.now.rows.now c.args.self.now.region.now c.args.totals.now c.as_slice-4.result.now e (subst (IsPointFound c.args.self.now.rows.now c.as_slice-4.result.now) c.in-None.is c.in_ok-point.ensures)
