use Rattle.std.proofs.Common.{◌≡◌, ◌∷◌, ◌-◌, suc, ◌<◌, ap, sym, ◌∙◌, subst, length, get_or, drop, drop-cons, arith}
use Rattle.transducer_core.specs.Nodes.{IsChain}
use Rattle.transducer_core.proofs.NodeLemmas.{chain_more, word_at}
use Rattle.transducer_core.proofs.output_words.chain.Goals as goal

pub loop-i-preserved : goal.loop-i-preserved
loop-i-preserved c =
    let text = c.args.text.now in
    let i = c.loop-i.i in
    let up : suc (c.loop-i.i - 1) ≡ c.loop-i.i = omega arith in
    let low : c.loop-i.i - 1 < length c.args.text.now = omega arith in
    let d = drop-cons text (i - 1) 0 low ∙ ap (λ k. get_or text (i - 1) 0 ∷ drop k text) up in
    subst (λ t. IsChain c.args.nodes.now c.push_node.new.nodes t c.args.target c.in_ok-place.place) (sym d)
    (chain_more c.args.nodes.now c.loop-i.nodes c.push_node.new.nodes (drop i text) (get_or text (i - 1) 0) c.args.target c.loop-i.place c.in_ok-one_first.field-0
    c.loop-i.invariant c.in_ok-one_first.ensures.firsts c.in_ok-one_first.ensures.ends c.in_ok-place.ensures.ok (word_at text (i - 1) c.requires.text low) c.in_ok-place.place c.in_ok-place.ensures.place)
