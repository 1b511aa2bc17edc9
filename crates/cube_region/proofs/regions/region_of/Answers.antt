use Rattle.std.proofs.Common.{sym, subst}
use Rattle.std.proofs.lemmas.Result.{IfOk-weaker}
use Rattle.cube_region.specs.Regions.{IsRegionFor}
use Rattle.cube_region.proofs.BoxSides.{box-region}
use Rattle.cube_region.proofs.NearSides.{near-region}
use Rattle.cube_region.proofs.regions.region_of.Goals as goal

pub returns-then-numbers : goal.returns-then-numbers
returns-then-numbers c = IfOk-weaker c.box_of.result _ _ (λ region is. subst (IsRegionFor c.args.flat.now) (sym is) (box-region c.args.flat.now (c.requires.numbers.small.0 c.if-numbers.true))) c.box_of.ensures

pub returns : goal.returns
returns c =
    IfOk-weaker c.near_region.result _ _ (λ region near.
    near-region c.args.flat.now region c.requires.straight (λ small. (let t = c.requires.numbers.small.1 small in let f = c.if-numbers.false in absurd (cc))) near) c.near_region.ensures
