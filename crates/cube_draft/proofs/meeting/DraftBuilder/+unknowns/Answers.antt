use Rattle.std.proofs.Common.{List, arith, subst}
use Rattle.sv_terms.specs.declared.term.Term.{Term}
use Rattle.literal_forms.specs.Shapes.{apply}
use Rattle.cube_draft.specs.Gathered.{IsCounted}
use Rattle.cube_draft.proofs.Forms.{seen_all}
use Rattle.cube_draft.proofs.Quantities.{applied_is, constant_is, counted_all, counted_none, counted_step, leaf_is, others_counted, several_counted, single_counted}
use Rattle.cube_draft.proofs.meeting.DraftBuilder.+unknowns.Goals as goal

pub count-returns-in_ok-count_integer-in-Constant : goal.count-returns-in_ok-count_integer-in-Constant
count-returns-in_ok-count_integer-in-Constant t c = constant_is c.args.self.now c.count_integer.new.self c.args.term.now c.in-Constant.name c.in-Constant.field-1 c.in-Constant.is c.in_ok-count_integer-in-Constant.ensures

pub count_all-loop-i-preserved : goal.count_all-loop-i-preserved
count_all-loop-i-preserved t c = counted_step c.args.self.now c.loop-i.self c.count.new.self c.args.terms.now c.loop-i.i c.index-terms-i.result (omega arith) c.index-terms-i.is c.loop-i.invariant c.in_ok-count.ensures

pub count_applied-returns-in_ok-count_all-in-Length : goal.count_applied-returns-in_ok-count_all-in-Length
count_applied-returns-in_ok-count_all-in-Length t c = several_counted c.args.self.now c.count_all.new.self c.args.op c.joining_of.result c.args.terms.now c.joining_of.ensures c.in-Length.is c.if-terms-eq1.false c.in_ok-count_all-in-Length.ensures

pub count_applied-returns-in_ok-count_all-in_default : goal.count_applied-returns-in_ok-count_all-in_default
count_applied-returns-in_ok-count_all-in_default t c = others_counted c.args.self.now c.count_all-in_default.new.self c.args.op c.joining_of.result c.args.terms.now c.joining_of.ensures c.in_default.not-Length c.in_ok-count_all-in_default.ensures

pub count-returns-in_ok-count_applied-in-Apply : goal.count-returns-in_ok-count_applied-in-Apply
count-returns-in_ok-count_applied-in-Apply t c =
    applied_is c.args.self.now c.count_applied.new.self c.args.term.now c.in-Apply.op c.in-Apply.terms c.in-Apply.is
    (subst (λ (us : List Term). IsCounted c.args.self.now c.count_applied.new.self (apply c.in-Apply.op (seen_all us))) c.as_slice.ensures c.in_ok-count_applied-in-Apply.ensures)

pub count-returns-in_default : goal.count-returns-in_default
count-returns-in_default t c = leaf_is c.args.self.now c.args.term.now c.in_default.not-Constant c.in_default.not-Apply

pub count_applied-returns-in_ok-count_length-in-Length : goal.count_applied-returns-in_ok-count_length-in-Length
count_applied-returns-in_ok-count_length-in-Length t c =
    single_counted c.args.self.now c.count_length.new.self c.args.op c.joining_of.result c.args.terms.now c.index-terms-0.result c.joining_of.ensures c.in-Length.is c.if-terms-eq1.true c.index-terms-0.is c.in_ok-count_length-in-Length.ensures

pub count_all-loop-i-init : goal.count_all-loop-i-init
count_all-loop-i-init t c = counted_none c.args.self.now

pub count_all-returns : goal.count_all-returns
count_all-returns t c = counted_all c.args.self.now c.loop-i.self c.args.terms.now c.loop-i.i (omega arith) c.loop-i.invariant
