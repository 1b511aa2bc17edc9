use Rattle.std.proofs.Common.{get_or, ap, sym, ◌∙◌, subst}
use Rattle.std.proofs.lemmas.Option.{slice_get-get_or}
use Rattle.transducer_core.specs.Nodes.{AddsText}
use Rattle.sv_terms.specs.Transduction.{written_at}
use Rattle.transducer_core.specs.Outputs.{OverEdge}
use Rattle.transducer_core.proofs.OutputLemmas.{adds_none, adds_told, edge_told, none_some}
use Rattle.transducer_core.proofs.NodeLemmas.{not_both}
use Rattle.transducer_core.proofs.output_words.add_edge.Goals as goal

pub returns-in-None : goal.returns-in-None
returns-in-None c =
    adds_none c.args.nodes.now c.args.node.now (OverEdge c.args.nodes.now c.args.places.now c.args.state c.args.c c.args.edge.now) c.requires.closed c.requires.within
    (λ w k. none_some (written_at c.args.c c.args.edge.now.items) k.0 (sym (c.in_ok-text_at.ensures ∙ ap (written_at c.args.c) c.as_slice.ensures) ∙ c.in-None.is) k.3.3)

pub returns-then-not-reads_over : goal.returns-then-not-reads_over
returns-then-not-reads_over c =
    adds_none c.args.nodes.now c.args.node.now (OverEdge c.args.nodes.now c.args.places.now c.args.state c.args.c c.args.edge.now) c.requires.closed c.requires.within
    (λ w k. not_both c.reads_over.result (c.reads_over.ensures.1 (k.3.0, k.3.1, k.3.2)) c.if-not-reads_over.true)

pub add_text-requires-clause-closed : goal.add_text-requires-clause-closed
add_text-requires-clause-closed c = c.requires.closed

pub add_text-requires-clause-within : goal.add_text-requires-clause-within
add_text-requires-clause-within c = c.requires.within

pub add_text-requires-clause-target : goal.add_text-requires-clause-target
add_text-requires-clause-target c = c.requires.places c.args.edge.now.to (get_or c.args.places.now c.args.edge.now.to 0) (slice_get-get_or c.args.places.now c.args.edge.now.to 0 c.requires.to)

pub returns-in_ok-add_text-in-Some : goal.returns-in_ok-add_text-in-Some
returns-in_ok-add_text-in-Some c =
    let r = c.reads_over.ensures.0 c.if-not-reads_over.false in
    let writes = sym (c.in_ok-text_at.ensures ∙ ap (written_at c.args.c) c.as_slice.ensures) ∙ c.in-Some.is in
    let a = subst (λ text. AddsText c.args.nodes.now c.add_text.new.nodes c.args.node.now c.add_text.new.node text (get_or c.args.places.now c.args.edge.now.to 0)) c.as_slice-in-Some.ensures c.in_ok-add_text-in-Some.ensures in
    adds_told c.args.nodes.now c.add_text.new.nodes c.args.node.now c.add_text.new.node c.in-Some.text (get_or c.args.places.now c.args.edge.now.to 0) (OverEdge c.args.nodes.now c.args.places.now c.args.state c.args.c c.args.edge.now) a
    (edge_told c.args.nodes.now c.args.places.now c.args.state c.args.c c.args.edge.now c.in-Some.text (get_or c.args.places.now c.args.edge.now.to 0) (r.0, r.1, r.2, writes) (slice_get-get_or c.args.places.now c.args.edge.now.to 0 c.requires.to))
