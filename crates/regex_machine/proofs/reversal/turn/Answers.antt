use Rattle.std.proofs.Common.{◌∙◌, ◌<◌, ◌^◌, ◌++◌, ◌∷◌, [], ap, sym, subst}
use Rattle.sv_list.specs.Lists.{read-contained}
use Rattle.machine_core.specs.Edges.{IsEdge, ending}
use Rattle.regex_machine.proofs.WordLemmas.{never, surely}
use Rattle.regex_machine.proofs.ReversedLemmas.{turned-read, turned-all, reversed-is, ends-one, ends-two}
use Rattle.regex_machine.proofs.reversal.turn.Goals as goal

pub turn_edge-requires-clause-edge : goal.turn_edge-requires-clause-edge
turn_edge-requires-clause-edge c =
    subst (λ n. IsEdge c.args.part.now.states n c.edge-item.result) c.requires
    (c.args.part.now.formed.edge c.edge-item.result (read-contained c.args.part.now.edges c.edges-edge-items.result.now c.loop-edge.edge-index c.edge-item.result c.edges-edge-items.ensures c.loop-edge-test.true c.edge-item.is))

pub loop-edge-preserved : goal.loop-edge-preserved
loop-edge-preserved c =
    let inv = c.loop-edge.invariant in
    let added = c.in_ok-turn_edge.ensures in
    record {
      states = added.states ∙ inv.states;
      fits = subst (λ n. n < 2 ^ 32) (sym added.states) inv.fits;
      registers = added.registers ∙ inv.registers;
      ends = added.ends ∙ inv.ends;
      turned = turned-read c.args.part.now.ends c.args.part.now.edges c.edges-edge-items.result.now c.loop-edge.edge-index c.edge-item.result c.loop-edge.whole.edges c.turn_edge.new.whole.edges
          c.edges-edge-items.ensures c.loop-edge-test.true c.edge-item.is inv.turned added.edges;
    }

pub returns-then-not-has_empty : goal.returns-then-not-has_empty
returns-then-not-has_empty c =
    let inv = c.loop-edge.invariant in
    let ended = c.in_ok-add_end.ensures in
    reversed-is c.args.part.now c.add_end.new.self c.requires (ended.registers ∙ inv.registers) (ended.states ∙ inv.states)
    (turned-all c.args.part.now.ends c.args.part.now.edges c.edges-edge-items.result.now c.loop-edge.edge-index c.loop-edge.whole.edges c.add_end.new.self.edges
    c.edges-edge-items.ensures c.loop-edge-test.false inv.turned ended.edges)
    (ends-one c.args.part.now.ends c.add_end.new.self.ends
    (rw c.new-last.ensures at (ended.ok ∙ ap (λ l. l ++ ending 1 c.new-last.result ∷ []) inv.ends))
    (never c.may_end-has_empty.result _ c.may_end-has_empty.ensures c.if-not-has_empty.true))

pub returns : goal.returns
returns c =
    let inv = c.loop-edge.invariant in
    let ended = c.in_ok-add_end.ensures in
    let more = c.in_ok-add_end-2.ensures in
    let first = rw c.new-last.ensures at (ended.ok ∙ ap (λ l. l ++ ending 1 c.new-last.result ∷ []) inv.ends) in
    reversed-is c.args.part.now c.add_end-2.new.self c.requires (more.registers ∙ ended.registers ∙ inv.registers) (more.states ∙ ended.states ∙ inv.states)
    (turned-all c.args.part.now.ends c.args.part.now.edges c.edges-edge-items.result.now c.loop-edge.edge-index c.loop-edge.whole.edges c.add_end-2.new.self.edges
    c.edges-edge-items.ensures c.loop-edge-test.false inv.turned (more.edges ∙ ended.edges))
    (ends-two c.args.part.now.ends c.add_end-2.new.self.ends
    (rw c.new-empty.ensures at (more.ok ∙ ap (λ l. l ++ ending 0 c.new-empty.result ∷ []) first))
    (surely c.may_end-has_empty.result _ c.may_end-has_empty.ensures c.if-not-has_empty.false))
