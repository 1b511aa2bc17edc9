use Rattle.std.proofs.Common.{sym, ap, ◌∙◌, map}
use Rattle.sv_terms.specs.declared.entry.Body.TheVariants as body
use Rattle.sv_terms.specs.declared.term.Term.TheVariants as term
use Rattle.term_weight.specs.Bodies.{body_sort, called, related}
use Rattle.term_draft.specs.Drafts.{at_places}
use Rattle.term_walk.specs.Heads.{kept}
use Rattle.term_walk.specs.Meant.{head_applied}
use Rattle.term_weight.specs.Ranks.{applied}
use Rattle.term_walk.proofs.Walking.{applied-so, ill-sorted}
use Rattle.term_walk.proofs.parts.apply.Goals as goal

pub returns-then-not-takes_sorts : goal.returns-then-not-takes_sorts
returns-then-not-takes_sorts c =
    let bs = at_places c.args.walk.now.draft c.args.places in
    let e = c.as_slice-2.ensures ∙ c.in_ok-sorts.ensures ∙ ap (λ ps. map body_sort (at_places c.args.walk.now.draft ps)) c.as_slice.ensures in
    ill-sorted (kept c.args.head) bs c.as_slice-2.result.now (sym c.takes_sorts.ensures ∙ c.if-not-takes_sorts.true) e

pub returns-in-Theory : goal.returns-in-Theory
returns-in-Theory c =
    let bs = at_places c.args.walk.now.draft c.args.places in
    let e = c.as_slice-2.ensures ∙ c.in_ok-sorts.ensures ∙ ap (λ ps. map body_sort (at_places c.args.walk.now.draft ps)) c.as_slice.ensures in
    applied-so (kept c.args.head) bs c.as_slice-2.result.now (applied c.in-Theory.function bs) c.args.walk.now c.apply_function.new.walk c.apply_function.result (sym c.takes_sorts.ensures ∙ c.if-not-takes_sorts.false) e (ap (λ h. head_applied (kept h) bs) c.in-Theory.is) c.apply_function.ensures

pub returns-in-Constant : goal.returns-in-Constant
returns-in-Constant c =
    let bs = at_places c.args.walk.now.draft c.args.places in
    let e = c.as_slice-2.ensures ∙ c.in_ok-sorts.ensures ∙ ap (λ ps. map body_sort (at_places c.args.walk.now.draft ps)) c.as_slice.ensures in
    applied-so (kept c.args.head) bs c.as_slice-2.result.now (body.Term (term.Constant c.in-Constant.name c.in-Constant.sort)) c.args.walk.now c.constant.new.walk c.constant.result (sym c.takes_sorts.ensures ∙ c.if-not-takes_sorts.false) e (ap (λ h. head_applied (kept h) bs) c.in-Constant.is) c.constant.ensures

pub returns-in-Macro : goal.returns-in-Macro
returns-in-Macro c =
    let bs = at_places c.args.walk.now.draft c.args.places in
    let e = c.as_slice-2.ensures ∙ c.in_ok-sorts.ensures ∙ ap (λ ps. map body_sort (at_places c.args.walk.now.draft ps)) c.as_slice.ensures in
    applied-so (kept c.args.head) bs c.as_slice-2.result.now (called c.in-Macro.defined.parameters.now c.in-Macro.defined.body.now bs) c.args.walk.now c.call.new.walk c.call.result (sym c.takes_sorts.ensures ∙ c.if-not-takes_sorts.false) e (ap (λ h. head_applied (kept h) bs) c.in-Macro.is) c.call.ensures

pub returns-in-Machine : goal.returns-in-Machine
returns-in-Machine c =
    let bs = at_places c.args.walk.now.draft c.args.places in
    let e = c.as_slice-2.ensures ∙ c.in_ok-sorts.ensures ∙ ap (λ ps. map body_sort (at_places c.args.walk.now.draft ps)) c.as_slice.ensures in
    applied-so (kept c.args.head) bs c.as_slice-2.result.now (related c.in-Machine.transducer.now bs) c.args.walk.now c.relate.new.walk c.relate.result (sym c.takes_sorts.ensures ∙ c.if-not-takes_sorts.false) e (ap (λ h. head_applied (kept h) bs) c.in-Machine.is) c.relate.ensures
