use Rattle.std.proofs.Common.{◌∙◌, [], ◌∷◌, ◌++◌, ap, sym, subst, length, map, Contains, arith}
use Rattle.machine_core.specs.Edges.{ending}
use Rattle.machine_meet.specs.Builds.{leaving_edge}
use Rattle.machine_meet.proofs.BuildEdges.{moves-formed}
use Rattle.machine_meet.proofs.stars.begin_and_end.Goals as goal

pub moves-requires : goal.moves-requires
moves-requires c = c.requires.one

pub leave-requires : goal.leave-requires
leave-requires c =
    let w = c.args.whole.now in
    record {
      fits = c.requires.limit;
      from = w.started;
      room = λ m i.
          let f = moves-formed w.states w.registers w.edges w.ends w.formed 1 c.in_ok-moves.moves c.in_ok-moves.ensures.exact c.in_ok-moves.ensures.inhabited m (subst (λ l. Contains l m) c.as_slice.ensures i) in
          let to = f.to in omega arith;
      moves = λ m i. moves-formed w.states w.registers w.edges w.ends w.formed 1 c.in_ok-moves.moves c.in_ok-moves.ensures.exact c.in_ok-moves.ensures.inhabited m (subst (λ l. Contains l m) c.as_slice.ensures i);
    }

pub add_end-requires : goal.add_end-requires
add_end-requires c = record {
  at = c.leave.new.whole.started;
  cost = ap length c.new.ensures ∙ sym (c.in_ok-leave.ensures.registers ∙ c.requires.free);
}

pub returns : goal.returns
returns c =
    let old = c.args.whole.now in
    record {
      states = c.in_ok-add_end.ensures.states ∙ c.in_ok-leave.ensures.states;
      registers = c.in_ok-add_end.ensures.registers ∙ c.in_ok-leave.ensures.registers;
      ends = c.in_ok-add_end.ensures.ok ∙ ap (λ l. l ++ ending 0 c.new.result ∷ []) c.in_ok-leave.ensures.ends ∙ ap (λ k. old.ends ++ ending 0 k ∷ []) c.new.ensures;
      edges = (c.in_ok-moves.moves, c.in_ok-moves.ensures.exact, c.in_ok-add_end.ensures.edges ∙ c.in_ok-leave.ensures.edges ∙ ap (λ l. old.edges ++ map (leaving_edge 0 0) l) c.as_slice.ensures);
    }
