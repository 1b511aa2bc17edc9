use Rattle.std.proofs.Common.{◌≡◌, ◌∙◌, [], ap, sym, subst, length, arith}
use Rattle.sv_word.specs.Ranges.{IsInhabited}
use Rattle.machine_meet.proofs.StarEdges.{returns-none, returns-one}
use Rattle.machine_meet.proofs.stars.lead_back.Goals as goal

pub ends-requires : goal.ends-requires
ends-requires c = (c.args.part.now.formed.edge c.args.edge.now c.requires.edge).to

pub returns-then-is_empty : goal.returns-then-is_empty
returns-then-is_empty c = returns-none c.args.whole.now c.args.edge.now c.args.part.now.ends c.in_ok-ends.ends c.in_ok-ends.ensures ((c.is_empty.ensures).0 c.if-is_empty.true)

pub overflow_add-edge : goal.overflow_add-edge
overflow_add-edge c =
    let from = (c.args.part.now.formed.edge c.args.edge.now c.requires.edge).from in
    let room = c.requires.room in
    let limit = c.requires.limit in
    omega arith

pub add_edge-requires : goal.add_edge-requires
add_edge-requires c =
    let e = c.args.part.now.formed.edge c.args.edge.now c.requires.edge in
    let from = e.from in
    let room = c.requires.room in
    record {
      from = omega arith;
      to = c.args.whole.now.started;
      cost = ap length c.new.ensures ∙ sym c.requires.registers;
      on = subst IsInhabited (sym c.in_ok-on.ensures) e.on;
    }

pub returns : goal.returns
returns c =
    let e = c.args.edge.now in
    let old = c.args.whole.now in
    let part = c.args.part.now in
    let some : c.in_ok-ends.ends ≡ [] → ⊥ = λ empty. let full = (c.is_empty.ensures).1 empty in let is = c.if-is_empty.false in cc in
    let ok = rw (c.new.ensures, c.in_ok-on.ensures) at c.in_ok-add_edge.ensures.ok in
    returns-one old c.add_edge.new.self part e c.in_ok-ends.ends c.requires.free c.requires.edge c.in_ok-ends.ensures some
    c.in_ok-add_edge.ensures.states c.in_ok-add_edge.ensures.registers c.in_ok-add_edge.ensures.ends ok
