use Rattle.std.proofs.Common.{rules, ◌≡◌, IfOk, length, sym, ap, ◌∙◌, ◌++◌, ◌∷◌, [], get_or, subst, ℕ, List, ◌+◌, ◌<◌, ◌≤◌, take, map, arith}
use Rattle.std.proofs.lemmas.List.{map_push, take_more}
use Rattle.std.proofs.lemmas.Result.{IfOk-weaker}
use Rattle.sv_terms.specs.declared.entry.Body.{Body}
use Rattle.sv_terms.specs.declared.term.Term.{Term}
use Rattle.sv_terms.specs.declared.term.Term.TheVariants as term
use Rattle.term_draft.specs.declared.draft.DraftPart.{DraftPart}
use Rattle.term_weight.specs.Bodies.{called, put_in, related}
use Rattle.term_draft.specs.Drafts.{at_place, at_places, sense, senses, term_found}
use Rattle.term_weight.specs.Sizes.{total}
use Rattle.term_weight.specs.Weights.{plain}
use Rattle.term_draft.proofs.Builds.{cost, node_cost, size, cost-before, size-of-one, one-more, put-as, same-put, put-Apply, put-Constant, put-InRe, put-Number, put-Opaque, put-Text, put-Truth}
use Rattle.term_draft.proofs.Calling.{put-index}
use Rattle.term_draft.proofs.Drafting.{sense-at, sense-past}
use Rattle.term_draft.proofs.building.+build.Goals as goal

pub build-build_node-requires : goal.build-build_node-requires
build-build_node-requires t c =
    let here : c.args.place < length c.args.parts.now = omega arith in
    let h : cost (take c.args.place c.args.parts.now) + node_cost c.index-parts-place.result.node < cost c.args.parts.now = subst (λ (p : DraftPart). cost (take c.args.place c.args.parts.now) + node_cost p.node < cost c.args.parts.now) (sym c.index-parts-place.is) (cost-before c.args.parts.now c.args.place c.index-parts-place.result here) in
    search rules

pub build_node-returns-in-Term : goal.build_node-returns-in-Term
build_node-returns-in-Term t c =
    let done = senses c.args.before.now in
    subst (λ (b : Body). IfOk c.build_called.result (λ x. x ≡ b))
    ((λ i. called c.in-Called.parameters.now (sym c.in-Term.is i) (at_places done (c.as_slice-in-Term.ensures i))) ∙ ap (sense done) (sym c.in-Called.is)) c.build_called.ensures

pub build_called-returns : goal.build_called-returns
build_called-returns t c = put-index c.args.parameters.now c.in_ok-index.index (senses c.args.before.now) c.args.places.now c.args.term.now c.in_ok-term.term c.in_ok-index.ensures c.in_ok-term.ensures

pub put_in_applied-put_in-requires : goal.put_in_applied-put_in-requires
put_in_applied-put_in-requires t c =
    let h : size c.term-item.result ≤ total (map size c.args.terms.now) = subst (λ (z : Term). size z ≤ total (map size c.args.terms.now)) (sym c.term-item.is) (size-of-one c.args.terms.now c.loop-term.term-index c.term-item.result c.loop-term-test.true) in
    search rules

pub put_in_applied-loop-term-preserved : goal.put_in_applied-loop-term-preserved
put_in_applied-loop-term-preserved t c = one-more (put_in (term_found (senses c.args.parts.now) c.args.index.now c.args.arguments.now)) c.args.terms.now c.loop-term.term-index c.term-item.result c.loop-term.all c.push.new.self c.in_ok-put_in.field-0 c.loop-term-test.true c.term-item.is c.loop-term.invariant c.in_ok-put_in.ensures c.in_ok-push.ensures.ok

pub build_applied-returns : goal.build_applied-returns
build_applied-returns t c = subst (λ (bs : List Body). IfOk c.apply.result (λ x. x ≡ plain c.args.sense bs)) c.in_ok-bodies.ensures c.apply.ensures

pub build_related-returns : goal.build_related-returns
build_related-returns t c = subst (λ (bs : List Body). IfOk c.relate.result (λ x. x ≡ related c.args.transducer.now bs)) c.in_ok-bodies.ensures c.relate.ensures

pub build-returns-then-place-parts : goal.build-returns-then-place-parts
build-returns-then-place-parts t c = c.opaque_body.ensures ∙ sym (sense-past c.args.parts.now c.args.place c.if-place-parts.true)

pub build-returns : goal.build-returns
build-returns t c = IfOk-weaker c.build_node.result _ _ (λ x h. h ∙ sym (sense-at c.args.parts.now c.args.place c.index-parts-place.result (omega arith))) c.build_node.ensures

pub build_node-returns-in-Leaf : goal.build_node-returns-in-Leaf
build_node-returns-in-Leaf t c = IfOk-weaker c.copy_body.result _ _ (λ x h. h ∙ sym (ap (sense (senses c.args.before.now)) c.in-Leaf.is)) c.copy_body.ensures

pub build_node-returns-in-Applied : goal.build_node-returns-in-Applied
build_node-returns-in-Applied t c =
    let done = senses c.args.before.now in
    IfOk-weaker c.build_applied.result _ _ (λ x h. h ∙ ap (λ (ps : List ℕ). plain c.in-Applied.sense (at_places done ps)) c.as_slice.ensures ∙ sym (ap (sense done) c.in-Applied.is)) c.build_applied.ensures

pub build_node-returns-in-Language : goal.build_node-returns-in-Language
build_node-returns-in-Language t c =
    let done = senses c.args.before.now in
    IfOk-weaker c.copy_language.result _ _ (λ x h. h ∙ sym (ap (λ (b : Body). called c.in-Called.parameters.now b (at_places done c.in-Called.places)) c.in-Language.is) ∙ sym (ap (sense done) c.in-Called.is)) c.copy_language.ensures

pub build_node-returns-in-Related : goal.build_node-returns-in-Related
build_node-returns-in-Related t c =
    let done = senses c.args.before.now in
    IfOk-weaker c.build_related.result _ _ (λ x h. h ∙ ap (λ (ps : List ℕ). related c.in-Related.transducer.now (at_places done ps)) c.as_slice-in-Related.ensures ∙ sym (ap (sense done) c.in-Related.is)) c.build_related.ensures

pub put_in_member-returns : goal.put_in_member-returns
put_in_member-returns t c = IfOk-weaker c.member.result _ _ (λ x h. h ∙ ap (λ (w : Term). term.InRe w c.args.regex.now) c.in_ok-word.ensures) c.member.ensures

pub build_all-loop-place-preserved : goal.build_all-loop-place-preserved
build_all-loop-place-preserved t c =
    let done = senses c.args.parts.now in
    let i = c.loop-place.place-index in
    c.in_ok-push.ensures.ok ∙ (λ j. c.loop-place.invariant j ++ c.in_ok-build.ensures j ∷ [])
    ∙ sym (map_push (at_place done) (take i c.args.places.now) (get_or c.args.places.now i 0)) ∙ ap (map (at_place done)) (sym (take_more c.args.places.now i 0 c.loop-place-test.true))

pub put_in-returns-in-Truth : goal.put_in-returns-in-Truth
put_in-returns-in-Truth t c = IfOk-weaker c.copy_term.result _ _ (λ x h. h ∙ same-put (term_found (senses c.args.parts.now) c.args.index.now c.args.arguments.now) c.args.term.now _ c.in-Truth.is (put-Truth (term_found (senses c.args.parts.now) c.args.index.now c.args.arguments.now) c.in-Truth.field-0)) c.copy_term.ensures

pub put_in-returns-in-Number : goal.put_in-returns-in-Number
put_in-returns-in-Number t c = IfOk-weaker c.copy_term-in-Number.result _ _ (λ x h. h ∙ same-put (term_found (senses c.args.parts.now) c.args.index.now c.args.arguments.now) c.args.term.now _ c.in-Number.is (put-Number (term_found (senses c.args.parts.now) c.args.index.now c.args.arguments.now) c.in-Number.field-0)) c.copy_term-in-Number.ensures

pub put_in-returns-in-Text : goal.put_in-returns-in-Text
put_in-returns-in-Text t c = IfOk-weaker c.copy_term-in-Text.result _ _ (λ x h. h ∙ same-put (term_found (senses c.args.parts.now) c.args.index.now c.args.arguments.now) c.args.term.now _ c.in-Text.is (put-Text (term_found (senses c.args.parts.now) c.args.index.now c.args.arguments.now) c.in-Text.field-0)) c.copy_term-in-Text.ensures

pub put_in-returns-in-Opaque : goal.put_in-returns-in-Opaque
put_in-returns-in-Opaque t c = IfOk-weaker c.copy_term-in-Opaque.result _ _ (λ x h. h ∙ same-put (term_found (senses c.args.parts.now) c.args.index.now c.args.arguments.now) c.args.term.now _ c.in-Opaque.is (put-Opaque (term_found (senses c.args.parts.now) c.args.index.now c.args.arguments.now) c.in-Opaque.field-0)) c.copy_term-in-Opaque.ensures

pub put_in-returns-in-Constant : goal.put_in-returns-in-Constant
put_in-returns-in-Constant t c = IfOk-weaker c.put_in_constant.result _ _ (λ x h. h ∙ put-as (term_found (senses c.args.parts.now) c.args.index.now c.args.arguments.now) c.args.term.now _ _ c.in-Constant.is (put-Constant (term_found (senses c.args.parts.now) c.args.index.now c.args.arguments.now) c.in-Constant.name c.in-Constant.sort)) c.put_in_constant.ensures

pub put_in-returns-in-Apply : goal.put_in-returns-in-Apply
put_in-returns-in-Apply t c =
    let found = term_found (senses c.args.parts.now) c.args.index.now c.args.arguments.now in
    IfOk-weaker c.put_in_applied.result (λ (x : Term). x ≡ term.Apply c.in-Apply.op (map (put_in found) c.as_slice.result.now)) (λ (x : Term). x ≡ put_in found c.args.term.now)
    (λ x h. h ∙ ap (λ (ts : List Term). term.Apply c.in-Apply.op (map (put_in found) ts)) c.as_slice.ensures ∙ put-as found c.args.term.now _ _ c.in-Apply.is (put-Apply found c.in-Apply.op c.in-Apply.terms)) c.put_in_applied.ensures

pub put_in-returns-in-InRe : goal.put_in-returns-in-InRe
put_in-returns-in-InRe t c =
    let found = term_found (senses c.args.parts.now) c.args.index.now c.args.arguments.now in
    IfOk-weaker c.put_in_member.result (λ (x : Term). x ≡ term.InRe (put_in found c.get.result.now) c.in-InRe.regex) (λ (x : Term). x ≡ put_in found c.args.term.now)
    (λ x h. h ∙ ap (λ (w : Term). term.InRe (put_in found w) c.in-InRe.regex) c.get.ensures ∙ put-as found c.args.term.now _ _ c.in-InRe.is (put-InRe found c.in-InRe.word c.in-InRe.regex)) c.put_in_member.ensures
