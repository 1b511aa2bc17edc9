use Rattle.std.proofs.Common.{◌≡◌, subst}
use Rattle.transducer_core.specs.Nodes.{AddsText}
use Rattle.transducer_core.proofs.OutputLemmas.{adds_told, end_told}
use Rattle.transducer_core.proofs.output_words.add_end.Goals as goal

pub returns : goal.returns
returns c =
    let e = c.args.end.now in
    let a = subst (λ text. AddsText c.args.nodes.now c.add_text.new.nodes c.args.node.now c.add_text.new.node text 0) c.as_slice.ensures c.in_ok-add_text.ensures in
    adds_told c.args.nodes.now c.add_text.new.nodes c.args.node.now c.add_text.new.node e.1 0 (λ w. c.args.end.now ≡ (c.args.state, w)) a (end_told c.args.nodes.now e c.args.state c.requires.base c.if-end-state.false)
