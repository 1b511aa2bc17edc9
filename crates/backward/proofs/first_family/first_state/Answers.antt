use Rattle.std.proofs.Common.{arith, ap, length, map, nat_eq, cond, sym, subst, ◌≡◌, ◌∙◌, Err}
use Rattle.part_machines.specs.Parts.{IsOfParts}
use Rattle.cube_bounds.specs.Bounds.{part_bound, product_by, states}
use Rattle.flat_cubes.specs.declared.variable.Variable.{Variable}
use Rattle.backward.proofs.FirstLemmas.{begun-all, begun-more, begun-none, begun-wide, own-few, variable-at, AreBegun}
use Rattle.backward.proofs.first_family.first_state.Goals as goal

pub loop-v-init : goal.loop-v-init
loop-v-init c = subst (AreBegun c.args.flat.now 0) (sym c.new-machines.ensures) (begun-none c.args.flat.now)

pub loop-v-preserved : goal.loop-v-preserved
loop-v-preserved c =
    let at = variable-at c.args.flat.now c.as_slice-variables.result.now c.loop-v.v c.index-variables-v.result c.as_slice-variables.ensures c.loop-v-test.true c.index-variables-v.is in
    let parts = c.as_slice.ensures ∙ ap (λ (x : Variable). x.parts) (sym c.index-variables-v.is) in
    begun-more c.args.flat.now c.loop-v.v c.loop-v.machines c.push.new.self c.index-variables-v.result c.in_ok-each.each c.in_ok-machine.machine c.loop-v.invariant at
    (c.in_ok-each.ensures ∙ ap (map (λ z. cond (nat_eq z c.loop-v.v) 1 0)) c.as_slice-registers.ensures)
    (subst (λ ps. IsOfParts ps c.in_ok-each.each c.in_ok-machine.machine) parts c.in_ok-machine.ensures.machine) c.in_ok-push.ensures.ok

pub of-requires : goal.of-requires
of-requires c = λ m i.
    let low = c.loop-v-test.false in
    let high = c.loop-v.auto.v-end in
    let same = ap length c.as_slice-variables.ensures in
    let size : length c.args.flat.now.variables ≡ c.loop-v.v = omega (arith, low, high, same) in
    begun-wide c.args.flat.now c.loop-v.v c.loop-v.machines size c.loop-v.invariant m i ∙ sym (ap length c.as_slice-registers.ensures)

pub returns-clause-state : goal.returns-clause-state
returns-clause-state c =
    let low = c.loop-v-test.false in
    let high = c.loop-v.auto.v-end in
    let same = ap length c.as_slice-variables.ensures in
    let size : length c.args.flat.now.variables ≡ c.loop-v.v = omega (arith, low, high, same) in
    c.in_ok-of.ensures.first c.args.flat.now c.requires.straight (ap length c.as_slice-registers.ensures) (begun-all c.args.flat.now c.loop-v.v c.loop-v.machines size c.loop-v.invariant)

pub returns-in_err-machine-clause-refused : goal.returns-in_err-machine-clause-refused
returns-in_err-machine-clause-refused c = λ n e.
    let d = rw e at c.from_residual-in_err-machine.ensures.1 in
    let past = c.in_err-machine.ensures.refused n (ap Err (sym d)) in
    let at = variable-at c.args.flat.now c.as_slice-variables.result.now c.loop-v.v c.index-variables-v.result c.as_slice-variables.ensures c.loop-v-test.true c.index-variables-v.is in
    let parts = c.as_slice.ensures ∙ ap (λ (x : Variable). x.parts) (sym c.index-variables-v.is) in
    let few = own-few c.bounds_are_positive.ensures c.states_are_solved.ensures.solved c.states_are_solved.ensures.bounded c.args.flat.now c.requires.straight c.requires.formed (states c.args.flat.now) (omega arith) c.loop-v.v c.index-variables-v.result at in
    let same = ap (product_by part_bound) parts in
    omega (arith, past, few, same)
