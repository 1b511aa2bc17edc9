use Rattle.std.proofs.Common.{◌∙◌, ap, arith, refl, subst, sym}
use Rattle.std.proofs.lemmas.Result.{IfOk-weaker, on_ok_weaker}
use Rattle.literal_forms.specs.Linear.{pieces}
use Rattle.sv_terms.specs.declared.op.Op.TheVariants as any_op
use Rattle.cube_draft.specs.Gathered.{ArePieced}
use Rattle.cube_draft.specs.Kinds.{replaced_by}
use Rattle.cube_draft.specs.declared.meeting.DraftBuilder.{DraftBuilder}
use Rattle.cube_draft.specs.Strings.{replacer}
use Rattle.cube_draft.proofs.Forms.{seen_all}
use Rattle.cube_draft.proofs.Placing.{apply_no_name, apply_no_text, built_nothing, concat_is_known, concat_is_new, leaf_nothing, piece_concat, piece_leaf, piece_other, pieced_all, pieced_none, pieced_step, replaced_is_known, replaced_is_new, replaced_nothing, text_is_met}
use Rattle.cube_draft.proofs.meeting.DraftBuilder.+terms.Goals as goal

pub place-returns-in_ok-copy-in-Text-clause-met : goal.place-returns-in_ok-copy-in-Text-clause-met
place-returns-in_ok-copy-in-Text-clause-met t c = text_is_met c.args.self.now c.literal.new.self c.args.term.now c.in-Text.word c.in_ok-copy-in-Text.field-0 c.literal.result c.in-Text.is c.in_ok-copy-in-Text.ensures c.literal.ensures.met

pub place-returns-in-Constant-clause-met : goal.place-returns-in-Constant-clause-met
place-returns-in-Constant-clause-met t c = c.constant.ensures.met

pub place-returns-in-Concat-clause-met : goal.place-returns-in-Concat-clause-met
place-returns-in-Concat-clause-met t c = c.concat.ensures.met

pub place-returns-in-Replace-clause-met : goal.place-returns-in-Replace-clause-met
place-returns-in-Replace-clause-met t c = c.replace.ensures.met

pub place-returns-in-Nothing : goal.place-returns-in-Nothing
place-returns-in-Nothing t c = record {
  met = built_nothing c.args.self.now c.args.term.now c.in-Apply.op c.in-Apply.terms c.next_place.result c.in-Apply.is (sym c.build_of.ensures ∙ c.in-Nothing.is) c.next_place.ensures;
  numbers = IfOk-weaker c.next_place.result _ _ (λ _ _. refl) c.next_place.ensures;
}

pub place-returns-in_default : goal.place-returns-in_default
place-returns-in_default t c = record {
  met = leaf_nothing c.args.self.now c.args.term.now c.next_place-in_default.result c.in_default.not-Text c.in_default.not-Constant c.in_default.not-Apply c.next_place-in_default.ensures;
  numbers = IfOk-weaker c.next_place-in_default.result _ _ (λ _ _. refl) c.next_place-in_default.ensures;
}

pub replace-returns-in_default : goal.replace-returns-in_default
replace-returns-in_default t c = record {
  met = replaced_nothing c.args.self.now c.args.term.now c.args.occurrences c.args.terms.now c.next_place.result c.requires (sym c.in_default.ensures) c.next_place.ensures;
  numbers = IfOk-weaker c.next_place.result _ _ (λ _ _. refl) c.next_place.ensures;
}

pub replace-returns-in-Known-clause-met : goal.replace-returns-in-Known-clause-met
replace-returns-in-Known-clause-met t c = replaced_is_known c.args.self.now c.seek.new.self c.args.term.now c.args.occurrences c.args.terms.now _ c.in_ok-place.field-0 c.in-Known.place c.requires c.in-Some.ensures c.in_ok-place.ensures.sought c.in-Known.is

pub replace-returns-in_ok-define-in-New-clause-met : goal.replace-returns-in_ok-define-in-New-clause-met
replace-returns-in_ok-define-in-New-clause-met t c =
    replaced_is_new c.args.self.now c.seek.new.self c.place.new.self c.define.new.self c.args.term.now c.args.occurrences c.args.terms.now c.index-terms-0.result _ c.in_ok-by-in-New.by c.in_ok-place.field-0 c.in-New.place c.in_ok-inner-in-New.inner c.requires c.in-Some.ensures
    (c.in_ok-by-in-New.ensures ∙ (λ i. replaced_by c.args.occurrences (c.in-Some.pattern-is i).now (c.in-Some.replacement-is i).now c.in_ok-inner-in-New.inner)) c.index-terms-0.is c.in_ok-place.ensures.sought c.in-New.is c.in_ok-inner-in-New.ensures.met c.in_ok-define-in-New.ensures

pub piece-returns-in-Concat-clause-met : goal.piece-returns-in-Concat-clause-met
piece-returns-in-Concat-clause-met t c =
    on_ok_weaker c.pieces.result (λ pieced. piece_concat c.args.self.now c.pieces.new.self c.args.term.now c.in-Apply.op c.in-Apply.terms c.build_of.result c.args.places.now c.pieces.new.places c.in-Apply.is c.build_of.ensures c.in-Concat.is
    (subst (λ us. ArePieced c.args.self.now c.pieces.new.self (pieces (seen_all us)) c.args.places.now c.pieces.new.places) c.as_slice.ensures pieced)) c.pieces.ensures.met

pub piece-returns-in_ok-place-in_default-build_of : goal.piece-returns-in_ok-place-in_default-build_of
piece-returns-in_ok-place-in_default-build_of t c = record {
  met =
      on_ok_weaker c.push.result (piece_other c.args.self.now c.place.new.self c.args.term.now c.in-Apply.op c.in-Apply.terms c.build_of.result c.in_ok-place-in_default-build_of.field-0 c.args.places.now c.push.new.self c.in-Apply.is c.build_of.ensures c.in_default-build_of.not-Concat
      c.in_ok-place-in_default-build_of.ensures.met) c.push.ensures.ok;
  numbers = on_ok_weaker c.push.result (λ _. c.in_ok-place-in_default-build_of.ensures.numbers) c.push.ensures.ok;
}

pub concat-seek-requires-clause-text : goal.concat-seek-requires-clause-text
concat-seek-requires-clause-text t c = apply_no_text c.args.term.now any_op.Concat c.args.terms.now c.requires

pub concat-seek-requires-clause-name : goal.concat-seek-requires-clause-name
concat-seek-requires-clause-name t c = apply_no_name c.args.term.now any_op.Concat c.args.terms.now c.requires

pub concat-returns-in-Known-clause-met : goal.concat-returns-in-Known-clause-met
concat-returns-in-Known-clause-met t c = concat_is_known c.args.self.now c.seek.new.self c.args.term.now c.args.terms.now c.in_ok-place.field-0 c.in-Known.place c.requires c.in_ok-place.ensures.sought c.in-Known.is

pub concat-returns-in_ok-define-in-New-clause-met : goal.concat-returns-in_ok-define-in-New-clause-met
concat-returns-in_ok-define-in-New-clause-met t c =
    concat_is_new c.args.self.now c.seek.new.self c.pieces.new.self c.define.new.self c.args.term.now c.args.terms.now c.in_ok-place.field-0 c.in-New.place c.new-places.result c.pieces.new.places c.requires c.in_ok-place.ensures.sought c.in-New.is c.new-places.ensures
    c.in_ok-pieces-in-New.ensures.met c.in_ok-define-in-New.ensures

pub replace-seek-requires-clause-text : goal.replace-seek-requires-clause-text
replace-seek-requires-clause-text t c = apply_no_text c.args.term.now (replacer c.args.occurrences) c.args.terms.now c.requires

pub replace-seek-requires-clause-name : goal.replace-seek-requires-clause-name
replace-seek-requires-clause-name t c = apply_no_name c.args.term.now (replacer c.args.occurrences) c.args.terms.now c.requires

pub piece-returns-in_ok-place-in_default : goal.piece-returns-in_ok-place-in_default
piece-returns-in_ok-place-in_default t c = record {
  met =
      on_ok_weaker c.push-in_default.result (piece_leaf c.args.self.now c.place-in_default.new.self c.args.term.now c.in_ok-place-in_default.field-0 c.args.places.now c.push-in_default.new.self c.in_default.not-Apply c.in_ok-place-in_default.ensures.met) c.push-in_default.ensures.ok;
  numbers = on_ok_weaker c.push-in_default.result (λ _. c.in_ok-place-in_default.ensures.numbers) c.push-in_default.ensures.ok;
}

pub pieces-loop-i-preserved : goal.pieces-loop-i-preserved
pieces-loop-i-preserved t c = record {
  met =
      pieced_step c.args.self.now c.loop-i.self c.piece.new.self c.args.terms.now c.loop-i.i c.index-terms-i.result c.args.places.now c.loop-i.places c.piece.new.places (omega arith) c.index-terms-i.is c.loop-i.invariant.met
      c.in_ok-piece.ensures.met;
  numbers = c.in_ok-piece.ensures.numbers ∙ c.loop-i.invariant.numbers;
}

pub pieces-returns-clause-met : goal.pieces-returns-clause-met
pieces-returns-clause-met t c = pieced_all c.args.self.now c.loop-i.self c.args.terms.now c.loop-i.i c.args.places.now c.loop-i.places (omega arith) c.loop-i.invariant.met

pub place-constant-requires : goal.place-constant-requires
place-constant-requires t c = (c.in-Constant.field-1, c.in-Constant.is)

pub place-returns-in_ok-copy-in-Text-clause-numbers : goal.place-returns-in_ok-copy-in-Text-clause-numbers
place-returns-in_ok-copy-in-Text-clause-numbers t c = c.literal.ensures.numbers

pub place-returns-in-Constant-clause-numbers : goal.place-returns-in-Constant-clause-numbers
place-returns-in-Constant-clause-numbers t c = c.constant.ensures.numbers

pub place-returns-in-Concat-clause-numbers : goal.place-returns-in-Concat-clause-numbers
place-returns-in-Concat-clause-numbers t c = c.concat.ensures.numbers

pub place-returns-in-Replace-clause-numbers : goal.place-returns-in-Replace-clause-numbers
place-returns-in-Replace-clause-numbers t c = c.replace.ensures.numbers

pub concat-returns-in-Known-clause-numbers : goal.concat-returns-in-Known-clause-numbers
concat-returns-in-Known-clause-numbers t c = c.in_ok-place.ensures.numbers

pub concat-returns-in_ok-define-in-New-clause-numbers : goal.concat-returns-in_ok-define-in-New-clause-numbers
concat-returns-in_ok-define-in-New-clause-numbers t c = ap (λ (m : DraftBuilder). m.numbers) c.in_ok-define-in-New.ensures ∙ c.in_ok-pieces-in-New.ensures.numbers ∙ c.in_ok-place.ensures.numbers

pub replace-returns-in-Known-clause-numbers : goal.replace-returns-in-Known-clause-numbers
replace-returns-in-Known-clause-numbers t c = c.in_ok-place.ensures.numbers

pub replace-returns-in_ok-define-in-New-clause-numbers : goal.replace-returns-in_ok-define-in-New-clause-numbers
replace-returns-in_ok-define-in-New-clause-numbers t c = ap (λ (m : DraftBuilder). m.numbers) c.in_ok-define-in-New.ensures ∙ c.in_ok-inner-in-New.ensures.numbers ∙ c.in_ok-place.ensures.numbers

pub piece-returns-in-Concat-clause-numbers : goal.piece-returns-in-Concat-clause-numbers
piece-returns-in-Concat-clause-numbers t c = c.pieces.ensures.numbers

pub pieces-loop-i-init : goal.pieces-loop-i-init
pieces-loop-i-init t c = record { met = pieced_none c.args.self.now c.args.places.now; numbers = refl }

pub pieces-returns-clause-numbers : goal.pieces-returns-clause-numbers
pieces-returns-clause-numbers t c = c.loop-i.invariant.numbers
