use Rattle.std.proofs.Common.{rules, pos, get_or, arith}
use Rattle.std.specs.Int.{w128}
use Rattle.std.proofs.lemmas.Int.{to_z-of_z}
use Rattle.std.proofs.lemmas.List.Edits.{map_over_more}
use Rattle.std.proofs.lemmas.Grind.{common_steps}
use mir.Val.{SFits}
use Rattle.sv_linear.specs.Quotients.{divided_term}
use Rattle.sv_linear.proofs.terms.divide_terms.Goals as goal

pub loop-term-preserved : goal.loop-term-preserved
loop-term-preserved c =
    let ft : SFits w128 (get_or c.loop-term.terms c.loop-term.term-index (0, pos 0)).1 = search rules in
    let fq : SFits w128 c.divide_number-term.result = search rules in
    let e = rw (to_z-of_z w128 _ ft) at c.divide_number-term.ensures in
    rw (to_z-of_z w128 _ fq, e)
    (map_over_more (divided_term c.args.by) c.args.terms.now c.loop-term.terms c.loop-term.term-index (get_or c.loop-term.terms c.loop-term.term-index (0, pos 0)) (omega arith) c.loop-term.invariant (grind (arith, common_steps)))
