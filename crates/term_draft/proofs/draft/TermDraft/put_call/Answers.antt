use Rattle.std.proofs.Common.{sym, ap, ◌∙◌, map}
use Rattle.term_draft.specs.Drafts.{at_places}
use Rattle.term_weight.specs.Weights.{weight_of, call_weight}
use Rattle.term_draft.proofs.Calling.{call-weighs}
use Rattle.term_draft.proofs.draft.TermDraft.put_call.Goals as goal

pub put-requires : goal.put-requires
put-requires c =
    let bs = at_places c.args.self.now c.args.places in
    let ps = c.args.defined.parameters.now in
    let ws = c.as_slice-2.ensures ∙ c.in_ok-weights.ensures ∙ ap (λ ps. map weight_of (at_places c.args.self.now ps)) c.as_slice.ensures in
    c.weight-weight.ensures ∙ c.args.defined.summarised.tells c.as_slice-2.result.now ∙ ap (λ ws. call_weight ps ws c.args.defined.body.now) ws ∙ sym (call-weighs ps c.args.defined.body.now bs)
