use Rattle.std.proofs.Common.{◌≡◌, ◌∙◌, true, false}
use Rattle.search_hits.specs.Regions.{sides_of}
use Rattle.box_layers.proofs.SideLemmas.{some-none, good-sides, not-some}
use Rattle.box_layers.proofs.layers.Layers.has_point.Goals as goal

pub returns-then-not-have_numbers : goal.returns-then-not-have_numbers
returns-then-not-have_numbers c = λ e totals good.
    let same : c.as_slice.result.now ≡ sides_of c.args.self.now.region.now = c.as_slice.ensures ∙ c.in_ok-sides.ensures in
    let some : c.have_numbers.result ≡ true = c.have_numbers.ensures.1 (good-sides c.args.self.now.rows.now c.args.self.now.region.now totals c.as_slice.result.now same good) in
    let none : c.have_numbers.result ≡ false = c.if-not-have_numbers.true in
    cc

pub returns : goal.returns
returns c = λ e totals good.
    let same : c.as_slice-2.result.now ≡ sides_of c.args.self.now.region.now = c.as_slice-2.ensures ∙ c.in_ok-sides.ensures in
    some-none c.args.self.now.rows.now c.args.self.now.region.now totals c.as_slice-2.result.now same
    (not-some c.args.self.now.rows.now c.as_slice-2.result.now c.in_ok-point.point (cc) c.in_ok-point.ensures) good
