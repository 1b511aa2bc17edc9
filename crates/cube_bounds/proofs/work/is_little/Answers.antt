use Rattle.std.proofs.Common.{◌≡◌, arith, rules, pos, to_z, of_z, w64, SFits}
use Rattle.std.proofs.lemmas.Int.{to_z_pos, to_z-of_z}
use Rattle.cube_bounds.proofs.Few.{little_is}
use Rattle.cube_bounds.proofs.work.is_little.Goals as goal

pub returns-then-work-le-MOST_WORK : goal.returns-then-work-le-MOST_WORK
returns-then-work-le-MOST_WORK c =
    let low = c.if-work-le-MOST_WORK.true in
    let z : to_z w64 c.args.work ≡ pos c.args.work = to_z_pos w64 c.args.work (omega arith) in
    let y : to_z w64 (of_z w64 c.args.limit) ≡ c.args.limit = (let h : SFits w64 c.args.limit = search rules in to_z-of_z w64 c.args.limit h) in
    little_is c.args.work (to_z w64 c.args.work) (to_z w64 (of_z w64 c.args.limit)) c.args.limit low z y
