use Rattle.std.proofs.Common.{◌≡◌, ◌+◌, ◌-◌, ◌++◌, ap, arith, drop, subst}
use Rattle.bool_cubes.specs.Arguments.{first_pairs, part_of}
use Rattle.bool_cubes.specs.Nodes.{IsPlanned}
use Rattle.bool_cubes.specs.Trees.{conjunction, equal}
use Rattle.bool_cubes.proofs.Plans.{longer_trans, turned_within, within_longer}
use Rattle.bool_cubes.proofs.Steps.{boolean_longer, pair_step, planned_as, same_got, side_left, side_right}
use Rattle.bool_cubes.proofs.planning.first_sides.Goals as goal

pub loop-j-preserved : goal.loop-j-preserved
loop-j-preserved c =
    let further = longer_trans c.loop-j.plan.nodes c.pair_sides.new.plan.nodes c.and.new.self.nodes c.in_ok-pair_sides.ensures.longer c.in_ok-all.ensures.longer in
    record {
      bound = omega arith;
      longer = longer_trans c.args.plan.now.nodes c.loop-j.plan.nodes c.and.new.self.nodes c.loop-j.invariant.longer further;
      within = c.in_ok-all.ensures.within;
      sides = boolean_longer c.loop-j.plan.nodes c.and.new.self.nodes c.args.terms.now c.args.sides.now further c.loop-j.invariant.sides;
      planned = λ t fs e s.
          pair_step c.args.plan.now.nodes c.loop-j.plan.nodes c.pair_sides.new.plan.nodes c.and.new.self.nodes c.loop-j.all c.in_ok-pair_sides.field-0 c.negation-next.result c.in_ok-all.all c.args.terms.now c.loop-j.j t c.index-terms-j.result fs
          (omega arith) (omega arith) c.index-terms-j.is (c.loop-j.invariant.planned t fs e s)
          (planned_as c.loop-j.plan.nodes c.pair_sides.new.plan.nodes c.in_ok-pair_sides.field-0 (equal (part_of c.index-terms-i.result) (part_of c.index-terms-j.result)) (equal (part_of t) (part_of c.index-terms-j.result)) c.in_ok-pair_sides.ensures (ap (λ x. equal (part_of x) (part_of c.index-terms-j.result)) (same_got c.args.terms.now c.args.i t c.index-terms-i.result c.requires.i e c.index-terms-i.is)))
          c.negation-next.ensures.holding c.negation-next.ensures.failing c.in_ok-all.ensures.formula;
    }

pub pair_sides-requires-clause-plan : goal.pair_sides-requires-clause-plan
pair_sides-requires-clause-plan c = c.loop-j.invariant.longer.plan

pub pair_sides-requires-clause-left : goal.pair_sides-requires-clause-left
pair_sides-requires-clause-left c = side_left c.loop-j.plan.nodes c.args.terms.now c.args.sides.now c.args.i c.index-terms-i.result c.loop-j.invariant.sides c.requires.i c.index-terms-i.is

pub pair_sides-requires-clause-right : goal.pair_sides-requires-clause-right
pair_sides-requires-clause-right c =
    side_right c.loop-j.plan.nodes c.args.terms.now c.args.sides.now c.args.i (c.loop-j.j - 1) c.index-terms-i.result c.index-terms-j.result c.loop-j.invariant.sides c.requires.i c.index-terms-i.is (omega arith) c.index-terms-j.is

pub and-requires-clause-plan : goal.and-requires-clause-plan
and-requires-clause-plan c = c.in_ok-pair_sides.ensures.longer.plan

pub and-requires-clause-left : goal.and-requires-clause-left
and-requires-clause-left c =
    turned_within c.pair_sides.new.plan.nodes c.in_ok-pair_sides.field-0 c.negation-next.result (c.in_ok-pair_sides.ensures.stands.holding, c.in_ok-pair_sides.ensures.stands.failing) c.negation-next.ensures.holding c.negation-next.ensures.failing

pub and-requires-clause-right : goal.and-requires-clause-right
and-requires-clause-right c = within_longer c.loop-j.plan.nodes c.pair_sides.new.plan.nodes c.loop-j.all c.in_ok-pair_sides.ensures.longer c.loop-j.invariant.within

pub returns-clause-formula : goal.returns-clause-formula
returns-clause-formula c t fs e s =
    let end : c.loop-j.j ≡ c.args.i + 1 = omega arith in
    subst (λ n. IsPlanned c.args.plan.now.nodes c.loop-j.plan.nodes c.loop-j.all (conjunction (first_pairs t (drop n c.args.terms.now) ++ fs))) end (c.loop-j.invariant.planned t fs e s)
