-- The runs that a run of all machines is cut into are a hit with numbers that meet the rows with what they cost.
use Rattle.std.proofs.Common.{◌≡◌, ℕ, ℤ, pos, List, [], ◌∷◌, length, map, Option, Some, None, false, refl, ◌∙◌, arith}
use Rattle.std.specs.Option.{IsSome}
use Rattle.std.specs.Prelude.{MatchOption}
use Rattle.machine_core.specs.declared.graph.Graph.{Graph}
use Rattle.machine_core.specs.declared.run.Run.{Run}
use Rattle.sv_linear.specs.declared.row.Row.{Row}
use Rattle.search_hits.specs.declared.region.Region.{Region}
use Rattle.search_hits.specs.Hits.{runs_total}
use Rattle.search_hits.specs.Regions.{AreWithin, whole_side, IsHitWithin}
use Rattle.box_layers.specs.declared.layer.Layer.{Layer}
use Rattle.box_layers.specs.Layers.{AreGood, AreGoodTotals}
use Rattle.box_layers.specs.Cuts.{IsCutInto}

within-length : (ss : List (ℤ × ℤ)) (xs : List ℤ) → AreWithin ss xs → length xs ≡ length ss
within-length [] [] h = refl
within-length [] (x ∷ xs) h = absurd h
within-length (s ∷ ss) [] h = absurd h
within-length (s ∷ ss) (x ∷ xs) h = let e = within-length ss xs h.1 in omega arith

-- a search for numbers that answers some where there are some
pub good-some : (rows : List Row) (region : Region) (totals : List ℕ) (o : Option (List ℤ)) → MatchOption o (AreGoodTotals rows region totals → ⊥) (λ numbers. AreWithin (map whole_side region.registers) (map pos totals) × AreGood rows region totals numbers) → AreGoodTotals rows region totals → IsSome o
good-some rows region totals None h good = absurd (h good)
good-some rows region totals (Some numbers) h good = refl

-- runs that cost what is spent in all, and numbers that meet the rows with it
pub good-hit : (machines : List Graph) (integers : ℕ) (rows : List Row) (region : Region) (run : Run Layer) (runs : List (Run ℕ)) (stop : Layer) (numbers : List ℤ) → region.empty ≡ false → length region.integers ≡ integers
    → IsCutInto machines (length region.registers) run runs → runs_total (length region.registers) runs ≡ stop.spent → AreWithin (map whole_side region.registers) (map pos stop.spent) → AreGood rows region stop.spent numbers
    → IsHitWithin machines integers rows region runs numbers
good-hit machines integers rows region run runs stop numbers some count cut total within good = record {
  hit = record {
    each = cut.each;
    meets = record { count = within-length region.integers numbers good.within ∙ count; each = rw total good.meets };
  };
  within = record { not_empty = some; numbers = good.within; registers = rw total within };
}
