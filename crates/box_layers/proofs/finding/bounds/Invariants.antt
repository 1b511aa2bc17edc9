use Rattle.std.proofs.Common.{◌≡◌, ℕ, ℤ, ◌+◌, ◌+ℤ◌, ◌≤ℤ◌, ◌<◌, ◌^◌, All, drop, unsigned_abs}
use Rattle.sv_linear.specs.Terms.{terms_value}
use Rattle.sv_linear.specs.Rows.{terms_weight}
use Rattle.search_hits.specs.Regions.{amounts}
use Rattle.search_hits.specs.Boxes.{AreAt, HoldsOne}
use Rattle.box_layers.proofs.finding.bounds.Given as goal

abbrev pub invariant-loop-unknown : goal.invariant-loop-unknown
invariant-loop-unknown l = record {
  least_fits : unsigned_abs l.least + terms_weight (amounts l.sides) (drop l.unknown-index l.unknown-items) < 2 ^ 127;
  greatest_fits : unsigned_abs l.greatest + terms_weight (amounts l.sides) (drop l.unknown-index l.unknown-items) < 2 ^ 127;
  between : (x : ℕ → ℤ) → AreAt l.sides x → ((l.least +ℤ terms_value x (drop l.unknown-index l.unknown-items)) ≤ℤ (terms_value x l.form.coefficients +ℤ l.form.constant))
      × ((terms_value x l.form.coefficients +ℤ l.form.constant) ≤ℤ (l.greatest +ℤ terms_value x (drop l.unknown-index l.unknown-items)));
  point : All HoldsOne l.sides → l.least ≡ l.greatest;
}
