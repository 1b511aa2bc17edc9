use Rattle.std.proofs.Common.{Err, Ok, inl, inr, arith, rules, subst, sym, ◌≡◌, ◌∙◌, ◌++◌, length, get_or}
use Rattle.std.proofs.lemmas.Bool.Decides.{Decides-eqb}
use Rattle.std.proofs.lemmas.Int.{to_z-of_z}
use Rattle.std.specs.Int.{w128}
use mir.Val.{SFits}
use Rattle.literal_forms.specs.Formed.{linears_of, steps_of}
use Rattle.literal_forms.specs.Linear.{integer, joined_of, joined_steps, linear, of_number, other, steps}
use Rattle.literal_forms.specs.Numbered.{IsFormOrPast, IsNumbered}
use Rattle.literal_forms.specs.Shapes.{seen}
use Rattle.literal_forms.specs.declared.roles.Joint.TheVariants as joint
use Rattle.literal_forms.proofs.Combined.{all_combined, argument_past, at_any, constant_read, err_made, first_combined, joined_as, joined_read, joint_err, length_other, length_read, member_read, next_combined, none_joined, number_read, one_negated, one_product, one_sum, opaque_read, related_read, text_read, truth_read, unknown_more, whole_read}
use Rattle.literal_forms.proofs.Numbers.{more_trans, none_more}
use Rattle.literal_forms.proofs.forms.+forms.Goals as goal

pub joined_form-returns-then-is_empty-clause-form : goal.joined_form-returns-then-is_empty-clause-form
joined_form-returns-then-is_empty-clause-form t c = none_joined c.args.unknowns.now.codes c.args.joint c.args.terms.now c.number.result ((Decides-eqb (length c.args.terms.now) 0).0 (sym c.is_empty.ensures ∙ c.if-is_empty.true)) (c.number.ensures c.args.unknowns.now.codes)

pub joined_form-returns-then-terms-eq1-clause-form : goal.joined_form-returns-then-terms-eq1-clause-form
joined_form-returns-then-terms-eq1-clause-form t c = c.single_form.ensures.form

pub joined_form-returns-then-terms-eq1-clause-more : goal.joined_form-returns-then-terms-eq1-clause-more
joined_form-returns-then-terms-eq1-clause-more t c = c.single_form.ensures.more

pub joined_form-returns-clause-form : goal.joined_form-returns-clause-form
joined_form-returns-clause-form t c = c.several_form.ensures.form

pub joined_form-returns-clause-more : goal.joined_form-returns-clause-more
joined_form-returns-clause-more t c = c.several_form.ensures.more

pub several_form-returns-in_err-all-clause-form : goal.several_form-returns-in_err-all-clause-form
several_form-returns-in_err-all-clause-form t c =
    let two = c.requires.several in
    let e : c.from_residual.result ≡ Err c.in_err-all.field-0.0 = search rules in
    subst (IsFormOrPast c.term_form.new.unknowns.codes (joined_of c.args.joint (linears_of c.args.terms.now)) (steps_of c.args.terms.now ++ joined_steps c.args.joint (linears_of c.args.terms.now))) (sym e)
    (err_made c.term_form.new.unknowns.codes c.term_form.new.unknowns.codes (linear (seen c.index-terms-0.result)) (joined_of c.args.joint (linears_of c.args.terms.now)) (steps (seen c.index-terms-0.result)) (steps_of c.args.terms.now ++ joined_steps c.args.joint (linears_of c.args.terms.now)) c.in_err-all.field-0.0 (λ l r h. argument_past c.args.terms.now 0 c.index-terms-0.result (joined_steps c.args.joint (linears_of c.args.terms.now)) l r (omega arith) c.index-terms-0.is h) c.in_err-all.ensures.form)

pub several_form-loop-i-init : goal.several_form-loop-i-init
several_form-loop-i-init t c = record {
  more = c.in_ok-all.ensures.more;
  all = let two = c.requires.several in first_combined c.term_form.new.unknowns.codes c.args.joint c.args.terms.now c.index-terms-0.result c.in_ok-all.all (omega arith) c.index-terms-0.is c.in_ok-all.ensures.form.0 c.in_ok-all.ensures.form.1;
}

pub several_form-returns-in_err-next-clause-form : goal.several_form-returns-in_err-next-clause-form
several_form-returns-in_err-next-clause-form t c =
    let e : c.from_residual-in_err-next.result ≡ Err c.in_err-next.field-0.0 = search rules in
    subst (IsFormOrPast c.term_form-in-loop-i.new.unknowns.codes (joined_of c.args.joint (linears_of c.args.terms.now)) (steps_of c.args.terms.now ++ joined_steps c.args.joint (linears_of c.args.terms.now))) (sym e)
    (err_made c.term_form-in-loop-i.new.unknowns.codes c.term_form-in-loop-i.new.unknowns.codes (linear (seen c.index-terms-i.result)) (joined_of c.args.joint (linears_of c.args.terms.now)) (steps (seen c.index-terms-i.result)) (steps_of c.args.terms.now ++ joined_steps c.args.joint (linears_of c.args.terms.now)) c.in_err-next.field-0.0 (λ l r h. argument_past c.args.terms.now c.loop-i.i c.index-terms-i.result (joined_steps c.args.joint (linears_of c.args.terms.now)) l r (omega arith) c.index-terms-i.is h) c.in_err-next.ensures.form)

pub several_form-returns-in_err-all-2-clause-form : goal.several_form-returns-in_err-all-2-clause-form
several_form-returns-in_err-all-2-clause-form t c =
    let e : c.from_residual-in_err-all-2.result ≡ Err c.in_err-all-2.field-0.0 = search rules in
    subst (IsFormOrPast c.term_form-in-loop-i.new.unknowns.codes (joined_of c.args.joint (linears_of c.args.terms.now)) (steps_of c.args.terms.now ++ joined_steps c.args.joint (linears_of c.args.terms.now))) (sym e)
    (joint_err c.loop-i.unknowns.codes c.term_form-in-loop-i.new.unknowns.codes c.args.joint c.args.terms.now c.loop-i.i c.index-terms-i.result c.loop-i.all c.in_ok-next.next c.in_err-all-2.field-0.0 (omega arith) (omega arith) c.requires.several c.index-terms-i.is c.in_ok-next.ensures.more c.loop-i.invariant.all c.in_ok-next.ensures.form.1 c.in_err-all-2.ensures)

pub several_form-loop-i-preserved : goal.several_form-loop-i-preserved
several_form-loop-i-preserved t c = record {
  more = more_trans c.args.unknowns.now.codes c.loop-i.unknowns.codes c.term_form-in-loop-i.new.unknowns.codes c.loop-i.invariant.more c.in_ok-next.ensures.more;
  all =
      next_combined c.loop-i.unknowns.codes c.term_form-in-loop-i.new.unknowns.codes c.args.joint c.args.terms.now c.loop-i.i c.index-terms-i.result c.loop-i.all c.in_ok-next.next c.in_ok-all-2.all (omega arith) (omega arith) c.index-terms-i.is c.in_ok-next.ensures.more c.loop-i.invariant.all
      c.in_ok-next.ensures.form.0 c.in_ok-next.ensures.form.1 c.in_ok-all-2.ensures;
}

pub several_form-returns-clause-form : goal.several_form-returns-clause-form
several_form-returns-clause-form t c = all_combined c.loop-i.unknowns.codes c.args.joint c.args.terms.now c.loop-i.i c.loop-i.all c.requires.several (omega arith) c.loop-i.invariant.all

pub single_form-returns-in_err-form-clause-form : goal.single_form-returns-in_err-form-clause-form
single_form-returns-in_err-form-clause-form t c =
    let one = c.requires.single in
    let e : c.from_residual.result ≡ Err c.in_err-form.field-0.0 = search rules in
    subst (IsFormOrPast c.term_form.new.unknowns.codes (joined_of c.args.joint (linears_of c.args.terms.now)) (steps_of c.args.terms.now ++ joined_steps c.args.joint (linears_of c.args.terms.now))) (sym e)
    (err_made c.term_form.new.unknowns.codes c.term_form.new.unknowns.codes (linear (seen c.index-terms-0.result)) (joined_of c.args.joint (linears_of c.args.terms.now)) (steps (seen c.index-terms-0.result)) (steps_of c.args.terms.now ++ joined_steps c.args.joint (linears_of c.args.terms.now)) c.in_err-form.field-0.0 (λ l r h. argument_past c.args.terms.now 0 c.index-terms-0.result (joined_steps c.args.joint (linears_of c.args.terms.now)) l r (omega arith) c.index-terms-0.is h) c.in_err-form.ensures.form)

pub single_form-returns-in-Sum-clause-form : goal.single_form-returns-in-Sum-clause-form
single_form-returns-in-Sum-clause-form t c =
    joined_as c.term_form.new.unknowns.codes c.args.terms.now (Ok c.in_ok-form.form) c.args.joint joint.Sum c.in-Sum.is (one_sum c.term_form.new.unknowns.codes c.args.terms.now c.index-terms-0.result c.in_ok-form.form c.requires.single c.index-terms-0.is c.in_ok-form.ensures.form.0 c.in_ok-form.ensures.form.1)

pub single_form-returns-in-Difference-clause-form : goal.single_form-returns-in-Difference-clause-form
single_form-returns-in-Difference-clause-form t c =
    joined_as c.term_form.new.unknowns.codes c.args.terms.now c.scale.result c.args.joint joint.Difference c.in-Difference.is
    (one_negated c.term_form.new.unknowns.codes c.args.terms.now c.index-terms-0.result c.in_ok-form.form c.scale.result c.requires.single c.index-terms-0.is c.in_ok-form.ensures.more.numbered c.in_ok-form.ensures.form.0 c.in_ok-form.ensures.form.1 c.scale.ensures)

pub single_form-returns-in-Difference-clause-more : goal.single_form-returns-in-Difference-clause-more
single_form-returns-in-Difference-clause-more t c = at_any c.scale.result _ c.in_ok-form.ensures.more

pub single_form-returns-in-Product-clause-form : goal.single_form-returns-in-Product-clause-form
single_form-returns-in-Product-clause-form t c =
    joined_as c.term_form.new.unknowns.codes c.args.terms.now (Ok c.in_ok-form.form) c.args.joint joint.Product c.in-Product.is (one_product c.term_form.new.unknowns.codes c.args.terms.now c.index-terms-0.result c.in_ok-form.form c.requires.single c.index-terms-0.is c.in_ok-form.ensures.form.0 c.in_ok-form.ensures.form.1)

pub term_form-returns-in-Number-clause-form : goal.term_form-returns-in-Number-clause-form
term_form-returns-in-Number-clause-form t c =
    let f : SFits w128 c.in-Number.n = search rules in
    number_read c.args.unknowns.now.codes c.args.term.now c.in-Number.n c.number.result c.in-Number.is (subst (λ z. IsNumbered c.args.unknowns.now.codes (of_number z) c.number.result) (to_z-of_z w128 c.in-Number.n f) (c.number.ensures c.args.unknowns.now.codes))

pub term_form-returns-in-Joined-clause-form : goal.term_form-returns-in-Joined-clause-form
term_form-returns-in-Joined-clause-form t c =
    joined_read c.joined_form.new.unknowns.codes c.args.term.now c.in-Apply.op c.in-Apply.terms c.read.result c.in-Joined.joint c.joined_form.result c.in-Apply.is c.read.ensures c.in-Joined.is
    (subst (λ us. IsFormOrPast c.joined_form.new.unknowns.codes (joined_of c.in-Joined.joint (linears_of us)) (steps_of us ++ joined_steps c.in-Joined.joint (linears_of us)) c.joined_form.result) c.as_slice.ensures c.joined_form.ensures.form)

pub term_form-returns-in-Joined-clause-more : goal.term_form-returns-in-Joined-clause-more
term_form-returns-in-Joined-clause-more t c = c.joined_form.ensures.more

pub term_form-returns-then-len-eq1-clause-form : goal.term_form-returns-then-len-eq1-clause-form
term_form-returns-then-len-eq1-clause-form t c =
    length_read c.length_form.new.unknowns.codes c.args.term.now c.in-Apply.op c.in-Apply.terms c.read.result c.index-as_slice-0.result c.length_form.result c.in-Apply.is c.read.ensures c.in-Length.is (sym c.len.ensures ∙ c.if-len-eq1.true)
    (subst (λ us. c.index-as_slice-0.result ≡ get_or us 0 c.index-as_slice-0.result) c.as_slice-then-len-eq1.ensures c.index-as_slice-0.is) c.length_form.ensures.form

pub term_form-returns-then-len-eq1-clause-more : goal.term_form-returns-then-len-eq1-clause-more
term_form-returns-then-len-eq1-clause-more t c = c.length_form.ensures.more

pub term_form-returns-in_ok-whole_form-in-Length-clause-form : goal.term_form-returns-in_ok-whole_form-in-Length-clause-form
term_form-returns-in_ok-whole_form-in-Length-clause-form t c =
    length_other c.args.unknowns.now.codes c.whole_form.new.unknowns.codes c.args.term.now c.in-Apply.op c.in-Apply.terms c.read.result c.in_ok-whole_form-in-Length.field-0 c.in-Apply.is c.read.ensures c.in-Length.is (λ z. c.if-len-eq1.false (c.len.ensures ∙ z)) c.in_ok-whole_form-in-Length.ensures

pub term_form-returns-in_ok-integer_form-in-Constant-clause-form : goal.term_form-returns-in_ok-integer_form-in-Constant-clause-form
term_form-returns-in_ok-integer_form-in-Constant-clause-form t c = constant_read c.args.unknowns.now.codes c.integer_form.new.unknowns.codes c.args.term.now c.in-Constant.name c.in-Constant.field-1 c.in_ok-integer_form-in-Constant.field-0 c.in-Constant.is c.in_ok-integer_form-in-Constant.ensures

pub term_form-returns-in_ok-integer_form-in-Constant-clause-more : goal.term_form-returns-in_ok-integer_form-in-Constant-clause-more
term_form-returns-in_ok-integer_form-in-Constant-clause-more t c = unknown_more c.args.unknowns.now.codes c.integer_form.new.unknowns.codes (integer c.in-Constant.name) c.in_ok-integer_form-in-Constant.field-0 c.in_ok-integer_form-in-Constant.ensures

pub term_form-returns-in_ok-whole_form-in-Length-clause-more : goal.term_form-returns-in_ok-whole_form-in-Length-clause-more
term_form-returns-in_ok-whole_form-in-Length-clause-more t c = unknown_more c.args.unknowns.now.codes c.whole_form.new.unknowns.codes (other (seen c.args.term.now)) c.in_ok-whole_form-in-Length.field-0 c.in_ok-whole_form-in-Length.ensures

pub term_form-returns-in_ok-whole_form-in-Whole-clause-form : goal.term_form-returns-in_ok-whole_form-in-Whole-clause-form
term_form-returns-in_ok-whole_form-in-Whole-clause-form t c = whole_read c.args.unknowns.now.codes c.whole_form-in-Whole.new.unknowns.codes c.args.term.now c.in-Apply.op c.in-Apply.terms c.read.result c.in_ok-whole_form-in-Whole.field-0 c.in-Apply.is c.read.ensures c.in-Whole.is c.in_ok-whole_form-in-Whole.ensures

pub term_form-returns-in_ok-whole_form-in-Whole-clause-more : goal.term_form-returns-in_ok-whole_form-in-Whole-clause-more
term_form-returns-in_ok-whole_form-in-Whole-clause-more t c = unknown_more c.args.unknowns.now.codes c.whole_form-in-Whole.new.unknowns.codes (other (seen c.args.term.now)) c.in_ok-whole_form-in-Whole.field-0 c.in_ok-whole_form-in-Whole.ensures

pub term_form-returns-in_ok-whole_form-in-Truth-clause-form : goal.term_form-returns-in_ok-whole_form-in-Truth-clause-form
term_form-returns-in_ok-whole_form-in-Truth-clause-form t c = elim c.in-Truth.is [
  | inl h ↦ truth_read c.args.unknowns.now.codes c.whole_form-in-Truth.new.unknowns.codes c.args.term.now h.0 c.in_ok-whole_form-in-Truth.field-0 h.1 c.in_ok-whole_form-in-Truth.ensures
  | inr k ↦ elim k [
    | inl h ↦ text_read c.args.unknowns.now.codes c.whole_form-in-Truth.new.unknowns.codes c.args.term.now h.0 c.in_ok-whole_form-in-Truth.field-0 h.1 c.in_ok-whole_form-in-Truth.ensures
    | inr k ↦ elim k [
      | inl h ↦ member_read c.args.unknowns.now.codes c.whole_form-in-Truth.new.unknowns.codes c.args.term.now h.0 h.1 c.in_ok-whole_form-in-Truth.field-0 h.2 c.in_ok-whole_form-in-Truth.ensures
      | inr h ↦ related_read c.args.unknowns.now.codes c.whole_form-in-Truth.new.unknowns.codes c.args.term.now h.1 h.2 h.0 c.in_ok-whole_form-in-Truth.field-0 h.3 c.in_ok-whole_form-in-Truth.ensures
    ]
  ]
]

pub term_form-returns-in_ok-whole_form-in-Truth-clause-more : goal.term_form-returns-in_ok-whole_form-in-Truth-clause-more
term_form-returns-in_ok-whole_form-in-Truth-clause-more t c = unknown_more c.args.unknowns.now.codes c.whole_form-in-Truth.new.unknowns.codes (other (seen c.args.term.now)) c.in_ok-whole_form-in-Truth.field-0 c.in_ok-whole_form-in-Truth.ensures

pub term_form-returns-in_ok-whole_form-in-Opaque-clause-form : goal.term_form-returns-in_ok-whole_form-in-Opaque-clause-form
term_form-returns-in_ok-whole_form-in-Opaque-clause-form t c = opaque_read c.args.unknowns.now.codes c.whole_form-in-Opaque.new.unknowns.codes c.args.term.now c.in-Opaque.field-0 c.in_ok-whole_form-in-Opaque.field-0 c.in-Opaque.is c.in_ok-whole_form-in-Opaque.ensures

pub term_form-returns-in_ok-whole_form-in-Opaque-clause-more : goal.term_form-returns-in_ok-whole_form-in-Opaque-clause-more
term_form-returns-in_ok-whole_form-in-Opaque-clause-more t c = unknown_more c.args.unknowns.now.codes c.whole_form-in-Opaque.new.unknowns.codes (other (seen c.args.term.now)) c.in_ok-whole_form-in-Opaque.field-0 c.in_ok-whole_form-in-Opaque.ensures

pub single_form-returns-in-Sum-clause-more : goal.single_form-returns-in-Sum-clause-more
single_form-returns-in-Sum-clause-more t c = c.in_ok-form.ensures.more

pub single_form-returns-in-Product-clause-more : goal.single_form-returns-in-Product-clause-more
single_form-returns-in-Product-clause-more t c = c.in_ok-form.ensures.more

pub several_form-returns-clause-more : goal.several_form-returns-clause-more
several_form-returns-clause-more t c = c.loop-i.invariant.more

pub term_form-returns-in-Number-clause-more : goal.term_form-returns-in-Number-clause-more
term_form-returns-in-Number-clause-more t c = none_more c.args.unknowns.now.codes c.requires

pub joined_form-returns-then-is_empty-clause-more : goal.joined_form-returns-then-is_empty-clause-more
joined_form-returns-then-is_empty-clause-more t c = none_more c.args.unknowns.now.codes c.requires
