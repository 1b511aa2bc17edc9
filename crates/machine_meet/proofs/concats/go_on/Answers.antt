use Rattle.std.proofs.Common.{◌++◌, ◌∙◌, ap, sym, subst, map, Contains, arith}
use Rattle.machine_meet.specs.Builds.{after_edge, after_end}
use Rattle.machine_meet.proofs.BuildEdges.{moves-formed}
use Rattle.machine_meet.proofs.ConcatEdges.{moves-below, ends-below, goes-on-one}
use Rattle.machine_meet.proofs.concats.go_on.Goals as goal

pub edges_after-requires : goal.edges_after-requires
edges_after-requires c =
    let p = c.args.part.now in
    let room = c.requires.room in
    record {
      limit = c.requires.limit;
      at = c.requires.at;
      room = λ m i.
          let f = moves-formed p.states p.registers p.edges p.ends p.formed 0 c.in_ok-moves.moves c.in_ok-moves.ensures.exact c.in_ok-moves.ensures.inhabited m (subst (λ l. Contains l m) c.as_slice.ensures i) in
          let to = f.to in omega arith;
      moves = λ m i.
          let f = moves-formed p.states p.registers p.edges p.ends p.formed 0 c.in_ok-moves.moves c.in_ok-moves.ensures.exact c.in_ok-moves.ensures.inhabited m (subst (λ l. Contains l m) c.as_slice.ensures i) in
          let to = f.to in
          record { on = f.on; cost = f.cost ∙ c.requires.registers; to = omega arith };
      cost = c.requires.cost;
      fits = λ m i.
          let f = moves-below p 0 c.in_ok-moves.moves c.in_ok-moves.ensures.exact c.in_ok-moves.ensures.inhabited m (subst (λ l. Contains l m) c.as_slice.ensures i) in
          c.requires.fits m.cost (f.entries ∙ c.requires.registers) f.below;
    }

pub ends_after-requires : goal.ends_after-requires
ends_after-requires c =
    let p = c.args.part.now in
    let at = c.requires.at in
    let same = c.in_ok-edges_after.ensures.states in
    record {
      at = omega arith;
      cost = c.requires.cost ∙ sym c.in_ok-edges_after.ensures.registers;
      fits = λ k i.
          let f = ends-below p 0 c.in_ok-ends.ends c.in_ok-ends.ensures k (subst (λ l. Contains l k) c.as_slice-2.ensures i) in
          c.requires.fits k (f.entries ∙ c.requires.registers) f.below;
    }

pub returns : goal.returns
returns c =
    let offset = c.args.offset in
    let e = c.args.end.now in
    let old = c.args.whole.now in
    goes-on-one c.args.part.now offset old c.ends_after.new.whole e c.in_ok-moves.moves c.in_ok-ends.ends
    (c.in_ok-ends_after.ensures.states ∙ c.in_ok-edges_after.ensures.states) (c.in_ok-ends_after.ensures.registers ∙ c.in_ok-edges_after.ensures.registers)
    (c.in_ok-ends_after.ensures.edges ∙ c.in_ok-edges_after.ensures.edges ∙ ap (λ l. old.edges ++ map (after_edge e offset) l) c.as_slice.ensures)
    (c.in_ok-ends_after.ensures.ends ∙ ap (λ l. l ++ map (after_end e) c.as_slice-2.result.now) c.in_ok-edges_after.ensures.ends ∙ ap (λ l. old.ends ++ map (after_end e) l) c.as_slice-2.ensures)
    c.in_ok-moves.ensures.exact c.in_ok-ends.ensures
