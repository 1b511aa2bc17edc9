use Rattle.cube_draft.proofs.Stated.{applied_not, applied_one, applied_two, applied_two_fits}
use Rattle.cube_draft.proofs.meeting.DraftBuilder.add_applied.Goals as goal

pub add_double-requires-clause-fitting : goal.add_double-requires-clause-fitting
add_double-requires-clause-fitting c = applied_two_fits c.args.op c.args.terms.now c.index-terms-0-then-terms-eq2.result c.index-terms-1.result c.if-terms-eq2.true c.index-terms-0-then-terms-eq2.is c.index-terms-1.is c.requires.fitting

pub returns-then-terms-eq1 : goal.returns-then-terms-eq1
returns-then-terms-eq1 c = applied_one c.args.self.now c.add_single.new.self c.args.op c.args.terms.now c.index-terms-0.result c.args.positive c.add_single.result c.if-terms-eq1.true c.index-terms-0.is c.add_single.ensures

pub returns-then-terms-eq2 : goal.returns-then-terms-eq2
returns-then-terms-eq2 c =
    applied_two c.args.self.now c.add_double.new.self c.args.op c.args.terms.now c.index-terms-0-then-terms-eq2.result c.index-terms-1.result c.args.positive c.add_double.result c.if-terms-eq2.true c.index-terms-0-then-terms-eq2.is c.index-terms-1.is c.add_double.ensures

pub returns : goal.returns
returns c = applied_not c.args.self.now c.args.op c.args.terms.now c.args.positive c.if-terms-eq1.false c.if-terms-eq2.false
