use Rattle.std.proofs.Common.{◌≡◌, ◌∙◌, refl, sym, subst, arith}
use Rattle.std.proofs.lemmas.List.{take_all}
use Rattle.sv_list.specs.Lists.{read-contained}
use Rattle.machine_core.specs.Costs.{IsCost}
use Rattle.machine_core.specs.CostLaws.{CanAdd-within}
use Rattle.machine_core.specs.EdgeLaws.{end_cost}
use Rattle.machine_core.specs.Graphs.{graph_top}
use Rattle.machine_meet.specs.Builds.{AddsPart}
use Rattle.machine_meet.proofs.ConcatEdges.{goes-on-start, goes-on-next, concat-language, concat-top}
use Rattle.machine_meet.proofs.concats.concat.Goals as goal

pub loop-end-init : goal.loop-end-init
loop-end-init c = goes-on-start c.args.b.now c.states-first.result c.in_ok-whole.whole

pub go_on-requires : goal.go_on-requires
go_on-requires c =
    let a = c.args.a.now in
    let b = c.args.b.now in
    let w = c.loop-end.whole in
    let e = c.end-item.result in
    let i = read-contained a.ends c.finals-end-items.result.now c.loop-end.end-index e c.finals-end-items.ensures c.loop-end-test.true c.end-item.is in
    let f = a.formed.ending e i in
    let at = f.at in
    let first = c.states-first.ensures in
    let both = c.in_ok-whole.ensures.states in
    let limit = c.in_ok-whole.ensures.limit in
    let same = c.loop-end.invariant.states in
    let registers : w.registers ≡ a.registers = c.loop-end.invariant.registers ∙ c.in_ok-whole.ensures.registers in
    let cost = subst (λ n. IsCost n (graph_top a) e.cost) (sym registers) (end_cost a.states a.registers a.edges a.ends a.formed e.at e.cost (i.0, e, i.1, i.2, (refl, refl))) in
    record {
      limit = omega arith;
      room = omega arith;
      registers = c.requires.registers ∙ sym registers;
      at = omega arith;
      cost = f.cost ∙ sym registers;
      fits = λ k long below. CanAdd-within w.registers (graph_top a) (graph_top b) e.cost k c.requires.fits cost (record { entries = long; below = below });
    }

pub loop-end-preserved : goal.loop-end-preserved
loop-end-preserved c =
    let a = c.args.a.now in
    let same = c.finals-end-items.ensures in
    goes-on-next c.args.b.now c.states-first.result c.in_ok-whole.whole c.loop-end.whole c.go_on.new.whole a.ends c.loop-end.end-index c.end-item.result
    (rw same at c.loop-end-test.true) (rw same at c.end-item.is) c.loop-end.invariant c.in_ok-go_on.ensures

pub returns : goal.returns
returns c =
    let a = c.args.a.now in
    let b = c.args.b.now in
    let n = c.states-first.result in
    let w1 = c.in_ok-whole.whole in
    let w2 = c.loop-end.whole in
    let at : n ≡ a.states = c.states-first.ensures in
    let taken = take_all c.loop-end.end-index a.ends (rw c.finals-end-items.ensures at c.loop-end-test.false) in
    let on : AddsPart w1 w2 b a.ends a.states = subst (AddsPart w1 w2 b a.ends) at (subst (λ l. AddsPart w1 w2 b l n) taken c.loop-end.invariant) in
    let edges = c.in_ok-whole.ensures.edges in
    let ends = c.in_ok-whole.ensures.ends in
    let registers : w2.registers ≡ a.registers = on.registers ∙ c.in_ok-whole.ensures.registers in
    record {
      language = concat-language w1 w2 a b edges ends on;
      states = on.states ∙ c.in_ok-whole.ensures.states;
      registers = registers;
      top = concat-top w1 w2 a b edges ends on (sym registers) (c.requires.registers ∙ sym registers);
    }
