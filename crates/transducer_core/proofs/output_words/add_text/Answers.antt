use Rattle.std.proofs.Common.{◌≡◌, ◌-◌, length, get_or, take, drop, slice_get, Some, ap, sym, ◌∙◌, subst, refl}
use Rattle.std.proofs.lemmas.Option.{slice_get_read}
use Rattle.transducer_core.specs.Nodes.{AddsText}
use Rattle.transducer_core.proofs.NodeLemmas.{empty_text, some_text, text_added, text_joined, text_split, word_at, word_rest}
use Rattle.transducer_core.proofs.output_words.add_text.Goals as goal

pub returns-then-is_empty : goal.returns-then-is_empty
returns-then-is_empty c =
    let nodes = c.args.nodes.now in
    let is = c.index-as_slice-target.is ∙ ap (λ xs. get_or xs c.args.target c.index-as_slice-target.result) c.as_slice.ensures in
    let at : slice_get c.args.nodes.now c.args.target ≡ Some c.index-as_slice-target.result = slice_get_read nodes (length nodes) c.args.target c.index-as_slice-target.result refl c.requires.target is in
    text_joined nodes c.requires.closed c.args.node.now c.join.new.node c.index-as_slice-target.result c.args.target c.requires.within at
    c.in_ok-join.ensures.firsts c.in_ok-join.ensures.ends c.args.text.now (empty_text c.args.text.now c.if-is_empty.ensures)

pub returns : goal.returns
returns c =
    let text = c.args.text.now in
    let split = text_split text (some_text text c.if-is_empty.ensures) in
    subst (λ t. AddsText c.args.nodes.now c.chain.new.nodes c.args.node.now c.add_first.new.node t c.args.target) (sym split)
    (text_added c.args.nodes.now c.chain.new.nodes c.requires.closed c.args.node.now c.add_first.new.node (get_or text 0 0) (take (length text - 1) (drop 1 text)) c.args.target c.in_ok-to.to
    c.requires.within c.in_ok-to.ensures c.in_ok-add_first.ensures.firsts c.in_ok-add_first.ensures.ends (word_at text 0 c.requires.text (some_text text c.if-is_empty.ensures)))

pub chain-requires-clause-text : goal.chain-requires-clause-text
chain-requires-clause-text c =
    let text = c.args.text.now in
    word_rest text (take (length text - 1) (drop 1 text)) (get_or text 0 0) (text_split text (some_text text c.if-is_empty.ensures)) c.requires.text
