use Rattle.std.proofs.Common.{◌≡◌, ◌<◌, ◌+◌, [], length, take, arith}
use Rattle.sv_list.specs.Lists.{Contains-none}
use Rattle.transducer_core.specs.Outputs.{EndsBy}
use Rattle.transducer_core.proofs.OutputLemmas.{base_grown, ends_more, made_more, made_none}
use Rattle.transducer_core.proofs.output_words.end_node.Goals as goal

pub loop-end-init : goal.loop-end-init
loop-end-init c = made_none c.args.nodes.now c.empty-node.result (EndsBy [] c.args.state) c.requires.closed c.empty-node.ensures.firsts c.empty-node.ensures.ends (λ w has. Contains-none (c.args.state, w) has)

pub add_end-requires-clause-base : goal.add_end-requires-clause-base
add_end-requires-clause-base c = base_grown c.args.nodes.now c.loop-end.nodes c.requires c.loop-end.invariant.grown

pub loop-end-preserved : goal.loop-end-preserved
loop-end-preserved c =
    let i = c.loop-end.end-index in
    let low : c.loop-end.end-index < length c.args.ends.now = omega arith in
    made_more c.args.nodes.now c.loop-end.nodes c.add_end.new.nodes c.loop-end.node c.add_end.new.node (EndsBy (take i c.args.ends.now) c.args.state) (λ w. c.end-item.result ≡ (c.args.state, w)) (EndsBy (take (i + 1) c.args.ends.now) c.args.state)
    c.loop-end.invariant c.in_ok-add_end.ensures (ends_more c.args.ends.now i c.args.state c.end-item.result low c.end-item.is)
