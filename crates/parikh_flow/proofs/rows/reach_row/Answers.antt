use Rattle.std.proofs.Common.{◌∙◌, ◌+◌, pos, length, take, ap, sym, subst, arith}
use Rattle.sv_linear.proofs.Ascending.{AscendsWithin-widen}
use Rattle.parikh_flow.specs.Counts.{size_of}
use Rattle.parikh_flow.specs.Rows.{unknowns_after, machine_terms, family_terms}
use Rattle.parikh_flow.specs.Building.{AreTermsAdded}
use Rattle.parikh_flow.proofs.FormLemmas.{after-more, after-room, machines-more, added-join}
use Rattle.parikh_flow.proofs.RowLemmas.{lengths-added, length-ones}
use Rattle.parikh_flow.proofs.rows.reach_row.Goals as goal

pub push_terms-requires-clause-room : goal.push_terms-requires-clause-room
push_terms-requires-clause-room c =
    let room = after-room c.args.base c.args.machines.now c.loop-machine.machine-index c.machine-item.result c.loop-machine-test.true c.machine-item.is in
    let now = c.loop-machine.invariant.next in
    let few = c.requires in
    let size = length-ones c.as_slice.result.now (length c.edges.result.now) (c.as_slice.ensures ∙ c.in_ok-each.ensures) in
    let edges = ap length c.edges.ensures in
    omega arith

pub next_base-next-requires : goal.next_base-next-requires
next_base-next-requires c =
    let room = after-room c.args.base c.args.machines.now c.loop-machine.machine-index c.machine-item.result c.loop-machine-test.true c.machine-item.is in
    let now = c.loop-machine.invariant.next in
    let few = c.requires in
    omega arith

pub loop-machine-preserved : goal.loop-machine-preserved
loop-machine-preserved c =
    let size = length-ones c.as_slice.result.now (length c.edges.result.now) (c.as_slice.ensures ∙ c.in_ok-each.ensures) in
    let edges = ap length c.edges.ensures in
    let after = c.next_base-next.ensures in
    let added = lengths-added c.machine-item.result c.loop-machine.next c.edges.result.now c.as_slice.result.now c.loop-machine.form c.push_terms.new.form c.edges.ensures (c.as_slice.ensures ∙ c.in_ok-each.ensures) c.in_ok-push_terms.ensures.added in
    record {
      next = c.next_base-next.ensures ∙ ap (λ n. n + size_of c.machine-item.result) c.loop-machine.invariant.next
          ∙ sym (after-more c.args.base c.args.machines.now c.loop-machine.machine-index c.machine-item.result c.loop-machine-test.true c.machine-item.is);
      added =
          subst (λ ts. AreTermsAdded ts c.of_constant-form.result c.push_terms.new.form)
          (sym (machines-more c.args.base c.args.machines.now c.loop-machine.machine-index c.machine-item.result c.loop-machine-test.true c.machine-item.is (machine_terms (λ _. pos 1) (λ _. pos 0))))
          (added-join (family_terms (λ _. pos 1) (λ _. pos 0) c.args.base (take c.loop-machine.machine-index c.args.machines.now))
          (machine_terms (λ _. pos 1) (λ _. pos 0) (unknowns_after c.args.base (take c.loop-machine.machine-index c.args.machines.now)) c.machine-item.result)
          c.of_constant-form.result c.loop-machine.form c.push_terms.new.form c.loop-machine.invariant.added
          (subst (λ b. AreTermsAdded (machine_terms (λ _. pos 1) (λ _. pos 0) b c.machine-item.result) c.loop-machine.form c.push_terms.new.form) c.loop-machine.invariant.next added));
      ascends = AscendsWithin-widen 0 (c.loop-machine.next + length c.as_slice.result.now) c.next_base-next.result c.push_terms.new.form.coefficients (omega arith) c.in_ok-push_terms.ensures.ascends;
    }
