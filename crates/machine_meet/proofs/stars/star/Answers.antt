use Rattle.std.proofs.Common.{◌≡◌, ◌++◌, ◌∷◌, [], ◌∙◌, ap, sym, subst, map, arith}
use Rattle.std.proofs.lemmas.List.{take_all}
use Rattle.sv_list.specs.Lists.{read-contained}
use Rattle.machine_core.specs.Edges.{ending}
use Rattle.machine_meet.specs.Builds.{placed_edge, Returns}
use Rattle.machine_meet.proofs.StarEdges.{returns-start, returns-next, star-language, free-top}
use Rattle.machine_meet.proofs.stars.star.Goals as goal

pub place_edges-requires : goal.place_edges-requires
place_edges-requires c =
    let last = c.states-last.ensures in
    let states = c.in_ok-states.ensures.sum in
    let limit = c.in_ok-states.ensures.fits in
    let whole = c.in_ok-whole.ensures.states in
    record { fits = omega arith; room = omega arith; registers = c.requires ∙ sym c.in_ok-whole.ensures.registers }

pub loop-edge-init : goal.loop-edge-init
loop-edge-init c = returns-start c.place_edges.new.whole c.args.a.now.ends

pub lead_back-requires : goal.lead_back-requires
lead_back-requires c =
    let last = c.states-last.ensures in
    let states = c.in_ok-states.ensures.sum in
    let limit = c.in_ok-states.ensures.fits in
    let whole = c.in_ok-whole.ensures.states in
    let one = c.in_ok-place_edges.ensures.states in
    let two = c.loop-edge.invariant.states in
    record {
      limit = omega arith;
      room = omega arith;
      registers = c.loop-edge.invariant.registers ∙ c.in_ok-place_edges.ensures.registers ∙ c.in_ok-whole.ensures.registers;
      free = c.requires;
      edge = read-contained c.args.a.now.edges c.edges-edge-items.result.now c.loop-edge.edge-index c.edge-item.result c.edges-edge-items.ensures c.loop-edge-test.true c.edge-item.is;
    }

pub loop-edge-preserved : goal.loop-edge-preserved
loop-edge-preserved c =
    let a = c.args.a.now in
    let same = c.edges-edge-items.ensures in
    returns-next c.place_edges.new.whole c.loop-edge.whole c.lead_back.new.whole a.edges a.ends c.loop-edge.edge-index c.edge-item.result
    (rw same at c.loop-edge-test.true) (rw same at c.edge-item.is) c.loop-edge.invariant c.in_ok-lead_back.ensures

pub begin_and_end-requires : goal.begin_and_end-requires
begin_and_end-requires c =
    let some = c.args.a.now.started in
    let last = c.states-last.ensures in
    let states = c.in_ok-states.ensures.sum in
    let limit = c.in_ok-states.ensures.fits in
    let whole = c.in_ok-whole.ensures.states in
    let one = c.in_ok-place_edges.ensures.states in
    let two = c.loop-edge.invariant.states in
    record {
      limit = omega arith;
      one = omega arith;
      free = c.loop-edge.invariant.registers ∙ c.in_ok-place_edges.ensures.registers ∙ c.in_ok-whole.ensures.registers;
    }

pub returns : goal.returns
returns c =
    let a = c.args.a.now in
    let w1 = c.place_edges.new.whole in
    let w2 = c.loop-edge.whole in
    let w3 = c.begin_and_end.new.whole in
    let moves = c.in_ok-begin_and_end.ensures.edges in
    let taken = take_all c.loop-edge.edge-index a.edges (rw c.edges-edge-items.ensures at c.loop-edge-test.false) in
    let back : Returns w1 w2 a.edges a.ends = subst (λ l. Returns w1 w2 l a.ends) taken c.loop-edge.invariant in
    let placed : w1.edges ≡ map (placed_edge 1) a.edges = c.in_ok-place_edges.ensures.edges ∙ ap (λ l. l ++ map (placed_edge 1) a.edges) c.in_ok-whole.ensures.edges in
    let none = back.ends_are ∙ c.in_ok-place_edges.ensures.ends ∙ c.in_ok-whole.ensures.ends in
    let ends : w3.ends ≡ ending 0 [] ∷ [] = c.in_ok-begin_and_end.ensures.ends ∙ ap (λ l. l ++ ending 0 [] ∷ []) none in
    let last = c.states-last.ensures in
    let states = c.in_ok-states.ensures.sum in
    let whole = c.in_ok-whole.ensures.states in
    let one = c.in_ok-place_edges.ensures.states in
    let two = back.states in
    let three = c.in_ok-begin_and_end.ensures.states in
    let free = c.in_ok-begin_and_end.ensures.registers ∙ c.loop-edge.invariant.registers ∙ c.in_ok-place_edges.ensures.registers ∙ c.in_ok-whole.ensures.registers in
    record {
      language = star-language w1 w2 w3 a moves.0 c.requires placed back moves.1 moves.2 ends;
      states = omega arith;
      registers = free;
      top = free-top w3 free;
    }
