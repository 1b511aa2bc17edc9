use Rattle.std.proofs.Common.{sym, ap, subst, ◌∙◌, map}
use Rattle.sv_terms.specs.declared.entry.Body.{Body}
use Rattle.term_draft.specs.Drafts.{Adds, at_places}
use Rattle.term_weight.specs.Weights.{weight_of, opacity, plain_weight}
use Rattle.term_weight.specs.SettlingLaws.{opaque-so, plain-so, plain-weighs}
use Rattle.term_draft.proofs.draft.TermDraft.put_applied.Goals as goal

pub put-requires : goal.put-requires
put-requires c =
    let bs = at_places c.args.self.now c.args.places in
    let ws = c.as_slice-weights.ensures ∙ c.in_ok-weights.ensures ∙ ap (λ ps. map weight_of (at_places c.args.self.now ps)) c.as_slice.ensures in
    let e = ap (opacity c.args.function.gives c.args.function.sense) (sym ws) ∙ sym c.opacity.ensures ∙ c.in-None.is in
    c.plain_weight-weight.ensures ∙ ap (plain_weight c.args.function.sense) ws ∙ sym (plain-weighs c.args.function.gives c.args.function.sense bs e)

pub returns-in-Some : goal.returns-in-Some
returns-in-Some c =
    let bs = at_places c.args.self.now c.args.places in
    let ws = c.as_slice-weights.ensures ∙ c.in_ok-weights.ensures ∙ ap (λ ps. map weight_of (at_places c.args.self.now ps)) c.as_slice.ensures in
    let e = ap (opacity c.args.function.gives c.args.function.sense) (sym ws) ∙ sym c.opacity.ensures ∙ c.in-Some.is in
    subst (λ (b : Body). Adds b c.args.self.now c.put_opaque.new.self c.put_opaque.result) (sym (opaque-so c.args.function.gives c.args.function.sense bs c.in-Some.sort e)) c.put_opaque.ensures

pub returns-in-None : goal.returns-in-None
returns-in-None c =
    let bs = at_places c.args.self.now c.args.places in
    let ws = c.as_slice-weights.ensures ∙ c.in_ok-weights.ensures ∙ ap (λ ps. map weight_of (at_places c.args.self.now ps)) c.as_slice.ensures in
    let e = ap (opacity c.args.function.gives c.args.function.sense) (sym ws) ∙ sym c.opacity.ensures ∙ c.in-None.is in
    subst (λ (b : Body). Adds b c.args.self.now c.put.new.self c.put.result) (sym (plain-so c.args.function.gives c.args.function.sense bs e)) c.put.ensures
