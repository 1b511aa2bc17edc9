use Rattle.std.proofs.Common.{◌≡◌, subst, IsTrue, ◌∙◌, ℤ, to_z, of_z, w64, SFits, rules}
use Rattle.std.proofs.lemmas.Int.{to_z-of_z}
use Rattle.std.specs.Prelude.{◌↔◌}
use Rattle.std.specs.List.{AllByRecursion}
use Rattle.sv_linear.specs.Rows.{RowFits}
use Rattle.cube_region.specs.Regions.{near_amount}
use Rattle.cube_region.proofs.NearWorks.{owed-by, owed-not}
use Rattle.cube_region.proofs.near.is_near_owed.Goals as goal

kept : (z : ℤ) → SFits w64 z → to_z w64 (of_z w64 z) ≡ z
kept z h = to_z-of_z w64 z h

pub returns-then-is_little : goal.returns-then-is_little
returns-then-is_little c =
    owed-by c.args.flat.now c.args.side c.near_work-work.result (to_z w64 (of_z w64 c.args.numbers.now.reach)) (c.near_work-work.ensures c.args.flat.now c.requires.numbers c.requires.count) (kept c.args.numbers.now.reach (search rules) ∙ c.requires.numbers.reach) c.all_fit.result (c.is_little.ensures.0 c.if-is_little.true)
    (subst (λ rs. IsTrue c.all_fit.result ↔ AllByRecursion (RowFits (near_amount c.args.flat.now c.args.side)) rs) c.as_slice.ensures c.all_fit.ensures)

pub returns-else-is_little : goal.returns-else-is_little
returns-else-is_little c =
    owed-not c.args.flat.now c.args.side c.near_work-work.result (to_z w64 (of_z w64 c.args.numbers.now.reach)) (c.near_work-work.ensures c.args.flat.now c.requires.numbers c.requires.count) (kept c.args.numbers.now.reach (search rules) ∙ c.requires.numbers.reach) c.is_little.result c.if-is_little.false c.is_little.ensures
