use Rattle.std.proofs.Common.{◌≡◌, ◌++◌, ◌∙◌, ap, sym, map, arith}
use Rattle.machine_meet.specs.Builds.{placed_edge, placed_end}
use Rattle.machine_meet.proofs.concats.side_by_side.Goals as goal

pub place_edges-requires : goal.place_edges-requires
place_edges-requires c =
    let first = c.states-first.ensures in
    let states = c.in_ok-states.ensures.sum in
    let limit = c.in_ok-states.ensures.fits in
    let whole = c.in_ok-whole.ensures.states in
    record { fits = omega arith; room = omega arith; registers = sym (c.in_ok-whole.ensures.registers ∙ c.registers.ensures) }

pub place_edges-requires-2 : goal.place_edges-requires-2
place_edges-requires-2 c =
    let last = c.states-last.ensures in
    let states = c.in_ok-states.ensures.sum in
    let limit = c.in_ok-states.ensures.fits in
    let whole = c.in_ok-whole.ensures.states in
    let one = c.in_ok-place_edges.ensures.states in
    record { fits = omega arith; room = omega arith; registers = c.requires ∙ sym (c.in_ok-place_edges.ensures.registers ∙ c.in_ok-whole.ensures.registers ∙ c.registers.ensures) }

pub place_ends-requires : goal.place_ends-requires
place_ends-requires c =
    let last = c.states-last.ensures in
    let states = c.in_ok-states.ensures.sum in
    let limit = c.in_ok-states.ensures.fits in
    let whole = c.in_ok-whole.ensures.states in
    let one = c.in_ok-place_edges.ensures.states in
    let two = c.in_ok-place_edges-2.ensures.states in
    record { fits = omega arith; room = omega arith; registers = c.requires ∙ sym (c.in_ok-place_edges-2.ensures.registers ∙ c.in_ok-place_edges.ensures.registers ∙ c.in_ok-whole.ensures.registers ∙ c.registers.ensures) }

pub returns : goal.returns
returns c =
    let a = c.args.a.now in
    let b = c.args.b.now in
    let n = c.states-first.result in
    let m = c.place_ends.new.whole in
    let first = c.states-first.ensures in
    let last = c.states-last.ensures in
    let sum = c.in_ok-states.ensures.sum in
    let limit = c.in_ok-states.ensures.fits in
    let whole = c.in_ok-whole.ensures.states in
    let one = c.in_ok-place_edges.ensures.states in
    let two = c.in_ok-place_edges-2.ensures.states in
    let three = c.in_ok-place_ends.ensures.states in
    let edges : m.edges ≡ map (placed_edge 0) a.edges ++ map (placed_edge a.states) b.edges =
    c.in_ok-place_ends.ensures.edges ∙ c.in_ok-place_edges-2.ensures.edges ∙ ap (λ l. l ++ map (placed_edge n) b.edges) (c.in_ok-place_edges.ensures.edges ∙ ap (λ l. l ++ map (placed_edge 0) a.edges) c.in_ok-whole.ensures.edges)
    ∙ ap (λ x. map (placed_edge 0) a.edges ++ map (placed_edge x) b.edges) first in
    let ends : m.ends ≡ map (placed_end a.states) b.ends =
    c.in_ok-place_ends.ensures.ends ∙ ap (λ l. l ++ map (placed_end n) b.ends) (c.in_ok-place_edges-2.ensures.ends ∙ c.in_ok-place_edges.ensures.ends ∙ c.in_ok-whole.ensures.ends)
    ∙ ap (λ x. map (placed_end x) b.ends) first in
    record {
      states = omega arith;
      limit = omega arith;
      registers = c.in_ok-place_ends.ensures.registers ∙ c.in_ok-place_edges-2.ensures.registers ∙ c.in_ok-place_edges.ensures.registers ∙ c.in_ok-whole.ensures.registers ∙ c.registers.ensures;
      edges = edges;
      ends = ends;
    }
