use Rattle.std.proofs.Common.{◌≡◌, ◌↔◌, ◌∷◌, [], false, IsTrue}
use Rattle.std.proofs.lemmas.Result.{IfOk-weaker}
use Rattle.box_layers.specs.Layers.{AreGoodTotals}
use Rattle.total_marks.specs.Marks.{HasBit}
use Rattle.box_search.proofs.totals.is_good.Goals as goal

pub returns : goal.returns
returns c =
    let layers = c.args.layers.now in
    IfOk-weaker c.has_numbers.result (λ good. IsTrue good ↔ AreGoodTotals layers.rows.now layers.region.now (c.args.total ∷ []))
    (λ good. good ≡ false → HasBit c.args.words.now c.args.total → AreGoodTotals layers.rows.now layers.region.now (c.args.total ∷ []) → ⊥)
    (λ good known none bit totals. (let yes : IsTrue good = known.1 totals in cc)) c.has_numbers.ensures
