use Rattle.std.proofs.Common.{◌+◌, ◌*◌, ◌≤◌, length, arith}
use Rattle.std.proofs.Common.{suc}
use Rattle.std.proofs.Math.Nat.{mul-le-mul_right}
use Rattle.std.proofs.lemmas.Option.{slice_get_within}
use Rattle.machine_core.specs.declared.graph.Graph.{Graph}
use Rattle.total_marks.specs.Marks.{EdgesPass, EndsPass}
use Rattle.total_marks.proofs.MarkLemmas.{place-more}
use Rattle.total_marks.proofs.covering.are_closed.Goals as goal

pub machine_passes-requires-clause-rows : goal.machine_passes-requires-clause-rows
machine_passes-requires-clause-rows c =
    let inside = c.loop-at-test.true in
    let most = c.requires in
    let below : (c.loop-at.at + 1) * c.args.states ≤ length c.args.machines.now * c.args.states = mul-le-mul_right c.args.states (omega arith) in
    omega arith

pub loop-at-preserved : goal.loop-at-preserved
loop-at-preserved c =
    let words = c.args.marks.now.words in
    let width = c.args.marks.now.width in
    let states = c.args.states in
    let machine = c.index-machines-at.result in
    record {
      edges = place-more (λ i (m : Graph). EdgesPass words width (i * states) m.edges) c.args.machines.now c.loop-at.at machine c.loop-at-test.true c.index-machines-at.is c.loop-at.invariant.edges
          (c.machine_passes.ensures.edges c.if-not-machine_passes.false);
      ends = place-more (λ i (m : Graph). EndsPass words width (i * states) (suc i * states) m.ends) c.args.machines.now c.loop-at.at machine c.loop-at-test.true c.index-machines-at.is c.loop-at.invariant.ends
          (c.machine_passes.ensures.ends c.if-not-machine_passes.false);
    }

pub returns : goal.returns
returns c = λ all. record {
  room = c.have_room.ensures c.if-not-have_room.false;
  begun = c.begins.ensures c.if-not-begins.false;
  edges = λ i m e. (let past = c.loop-at-test.false in let below = slice_get_within c.args.machines.now i m e in c.loop-at.invariant.edges i m (omega arith) e);
  ends = λ i m e. (let past = c.loop-at-test.false in let below = slice_get_within c.args.machines.now i m e in c.loop-at.invariant.ends i m (omega arith) e);
}
