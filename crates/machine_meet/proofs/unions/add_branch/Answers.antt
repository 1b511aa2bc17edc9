use Rattle.std.proofs.Common.{◌++◌, ◌∙◌, refl, ap, sym, subst, map, length, Contains, arith}
use Rattle.std.proofs.lemmas.List.{take_all}
use Rattle.sv_list.specs.Lists.{read-contained}
use Rattle.machine_core.specs.Edges.{ending}
use Rattle.machine_core.specs.EdgeLaws.{end_cost}
use Rattle.machine_meet.specs.Builds.{placed_edge, placed_end, leaving_edge}
use Rattle.machine_meet.proofs.BuildEdges.{moves-formed, branch-steps, branch-ends}
use Rattle.machine_meet.proofs.PushLemmas.{pushed-none, pushed-more}
use Rattle.machine_meet.proofs.unions.add_branch.Goals as goal

pub leave-requires : goal.leave-requires
leave-requires c =
    let p = c.args.part.now in
    let first = c.in_ok-place_edges.ensures.states in
    let second = c.in_ok-place_ends.ensures.states in
    let registers = c.in_ok-place_ends.ensures.registers ∙ c.in_ok-place_edges.ensures.registers in
    let room = c.requires.room in
    let limit = c.requires.fits in
    record {
      fits = omega arith;
      from = c.place_ends.new.whole.started;
      room = λ m i.
          let f = moves-formed p.states p.registers p.edges p.ends p.formed 0 c.in_ok-moves.moves c.in_ok-moves.ensures.exact c.in_ok-moves.ensures.inhabited m (subst (λ l. Contains l m) c.as_slice.ensures i) in
          let to = f.to in omega arith;
      moves = λ m i.
          let f = moves-formed p.states p.registers p.edges p.ends p.formed 0 c.in_ok-moves.moves c.in_ok-moves.ensures.exact c.in_ok-moves.ensures.inhabited m (subst (λ l. Contains l m) c.as_slice.ensures i) in
          let to = f.to in
          record { on = f.on; cost = f.cost ∙ c.requires.registers ∙ sym registers; to = omega arith };
    }

pub add_end-requires : goal.add_end-requires
add_end-requires c =
    let p = c.args.part.now in
    let i = read-contained c.in_ok-ends.ends c.as_slice-cost-items.result.now c.loop-cost.cost-index c.cost-item.result c.as_slice-cost-items.ensures c.loop-cost-test.true c.cost-item.is in
    let last = (c.in_ok-ends.ensures c.cost-item.result).1 (i.0, c.cost-item.result, i.1, i.2, refl) in
    let entries = (end_cost p.states p.registers p.edges p.ends p.formed 0 c.cost-item.result last).entries in
    record {
      at = c.loop-cost.whole.started;
      cost = ap length c.in_ok-copy.ensures ∙ entries ∙ c.requires.registers
          ∙ sym (c.loop-cost.invariant.registers ∙ c.in_ok-leave.ensures.registers ∙ c.in_ok-place_ends.ensures.registers ∙ c.in_ok-place_edges.ensures.registers);
    }

pub returns : goal.returns
returns c =
    let offset = c.args.offset in
    let part = c.args.part.now in
    let old = c.args.whole.now in
    let edges = c.loop-cost.invariant.edges ∙ c.in_ok-leave.ensures.edges
    ∙ ap (λ l. l ++ map (leaving_edge 0 offset) c.as_slice.result.now) (c.in_ok-place_ends.ensures.edges ∙ c.in_ok-place_edges.ensures.edges)
    ∙ ap (λ l. (old.edges ++ map (placed_edge offset) part.edges) ++ map (leaving_edge 0 offset) l) c.as_slice.ensures in
    let taken = take_all c.loop-cost.cost-index c.as_slice-cost-items.result.now c.loop-cost-test.false ∙ c.as_slice-cost-items.ensures in
    let before = c.in_ok-leave.ensures.ends ∙ c.in_ok-place_ends.ensures.ends ∙ ap (λ l. l ++ map (placed_end offset) part.ends) c.in_ok-place_edges.ensures.ends in
    let ends = c.loop-cost.invariant.ends ∙ ap (λ l. c.leave.new.whole.ends ++ map (ending 0) l) taken ∙ ap (λ l. l ++ map (ending 0) c.in_ok-ends.ends) before in
    record {
      states = c.loop-cost.invariant.states ∙ c.in_ok-leave.ensures.states ∙ c.in_ok-place_ends.ensures.states ∙ c.in_ok-place_edges.ensures.states;
      registers = c.loop-cost.invariant.registers ∙ c.in_ok-leave.ensures.registers ∙ c.in_ok-place_ends.ensures.registers ∙ c.in_ok-place_edges.ensures.registers;
      steps = branch-steps offset old.edges c.loop-cost.whole.edges part.edges c.in_ok-moves.moves edges c.in_ok-moves.ensures.exact;
      ends = branch-ends offset old.ends c.loop-cost.whole.ends part.ends c.in_ok-ends.ends ends c.in_ok-ends.ensures;
    }

pub loop-cost-init : goal.loop-cost-init
loop-cost-init c = record {
  states = refl;
  registers = refl;
  edges = refl;
  ends = pushed-none (ending 0) c.as_slice-cost-items.result.now c.as_slice-cost-items.result.now c.leave.new.whole.ends;
}

pub loop-cost-preserved : goal.loop-cost-preserved
loop-cost-preserved c =
    let inv = c.loop-cost.invariant in
    let added = c.in_ok-add_end.ensures in
    record {
      states = added.states ∙ inv.states;
      registers = added.registers ∙ inv.registers;
      edges = added.edges ∙ inv.edges;
      ends = pushed-more (ending 0) c.as_slice-cost-items.result.now c.as_slice-cost-items.result.now c.leave.new.whole.ends c.loop-cost.whole.ends c.add_end.new.self.ends
          c.loop-cost.cost-index c.cost-item.result refl c.loop-cost-test.true c.cost-item.is inv.ends (rw c.in_ok-copy.ensures at added.ok);
    }

pub place_edges-requires-clause-fits : goal.place_edges-requires-clause-fits
place_edges-requires-clause-fits c = c.requires.fits

pub place_edges-requires-clause-room : goal.place_edges-requires-clause-room
place_edges-requires-clause-room c = c.requires.room

pub place_edges-requires-clause-registers : goal.place_edges-requires-clause-registers
place_edges-requires-clause-registers c = c.requires.registers

pub place_ends-requires-clause-fits : goal.place_ends-requires-clause-fits
place_ends-requires-clause-fits c = rw c.in_ok-place_edges.ensures.states c.requires.fits

pub place_ends-requires-clause-room : goal.place_ends-requires-clause-room
place_ends-requires-clause-room c = rw c.in_ok-place_edges.ensures.states c.requires.room

pub place_ends-requires-clause-registers : goal.place_ends-requires-clause-registers
place_ends-requires-clause-registers c = c.requires.registers ∙ sym c.in_ok-place_edges.ensures.registers

pub moves-requires : goal.moves-requires
moves-requires c = c.args.part.now.started

pub ends-requires : goal.ends-requires
ends-requires c = c.args.part.now.started

pub bounds-cost-items-cost-index : goal.bounds-cost-items-cost-index
bounds-cost-items-cost-index c = c.loop-cost-test.true

pub offset_bounds-cost-items-cost-index : goal.offset_bounds-cost-items-cost-index
offset_bounds-cost-items-cost-index c = let test = c.loop-cost-test.true in omega arith
