use Rattle.std.proofs.Common.{◌≡◌, sym, ◌∙◌, to_z, of_z, w64, SFits, rules}
use Rattle.std.proofs.lemmas.Int.{to_z-of_z}
use Rattle.cube_bounds.specs.Sides.{points}
use Rattle.sv_terms.specs.declared.limits.TheConstants.{MOST_POINTS}
use Rattle.cube_bounds.proofs.Few.{counted, is_small_by, less_not, sides_long}
use Rattle.cube_bounds.proofs.smallness.is_small.Goals as goal
use Rattle.cube_bounds.proofs.smallness.is_small.Goals.{then-points-le-MOST_POINTS, else-points-le-MOST_POINTS}

pub rows_fit-requires-clause-long : goal.rows_fit-requires-clause-long
rows_fit-requires-clause-long c = sides_long c.args.flat.now c.args.box_sides.now c.requires.sides

pub returns-then-can_search : goal.returns-then-can_search
returns-then-can_search c =
    let k = counted (points c.args.flat.now) c.in-Some.points (sym c.in-Some.is ∙ c.requires.points) in
    elim c.if-points-le-MOST_POINTS.branch [
      | then-points-le-MOST_POINTS w ↦
          let y : to_z w64 (of_z w64 c.args.limit) ≡ c.args.limit = (let h : SFits w64 c.args.limit = search rules in to_z-of_z w64 c.args.limit h) in
          let s = w.can_search.ensures c.args.flat.now k.0 c.requires.states k.2 c.requires.sources (y ∙ c.requires.reach) in
          is_small_by c.args.flat.now k.0 c.in-Some.points c.rows_fit.result k.1 k.2 w.if-points-le-MOST_POINTS.true (s.0 (sym w.value-is ∙ c.if-can_search.true)) c.rows_fit.ensures
      | else-points-le-MOST_POINTS w ↦ absurd (less_not c.in-Some.points MOST_POINTS w.if-points-le-MOST_POINTS.false (sym w.value-is ∙ c.if-can_search.true))
    ]
