use Rattle.std.proofs.Common.{◌+◌, ◌∙◌, sym, subst, take, ◌++◌, ◌∷◌, []}
use Rattle.std.specs.List.{AllZip}
use Rattle.machine_core.specs.declared.graph.Graph.{Graph}
use Rattle.backward.specs.Leaves.{machines_of}
use Rattle.cube_search.specs.Leaves.{IsTrim}
use Rattle.cube_search.proofs.TrimLemmas.{machines-some, machines-none, trims-push}
use Rattle.cube_search.proofs.trimming.trim_family.Goals as goal
use Rattle.cube_search.proofs.trimming.trim_family.Goals.{in-Some+in_ok-trim_named+in_ok-push, in_default}

pub loop-machine-preserved : goal.loop-machine-preserved
loop-machine-preserved c =
    let items = c.as_slice-machine-items.result.now in
    let at = c.loop-machine.machine-index in
    let same = c.as_slice-machine-items.ensures in
    let before : AllZip IsTrim (machines_of (take at items)) c.loop-machine.trims = subst (λ x. AllZip IsTrim (machines_of (take at x)) c.loop-machine.trims) (sym same) c.loop-machine.invariant in
    let after : AllZip IsTrim (machines_of (take (at + 1) items)) c.match-machine.trims = elim c.match-machine.branch [
      | in-Some+in_ok-trim_named+in_ok-push w ↦
          let e = machines-some items at c.machine-item.result w.in-Some.machine c.loop-machine-test.true c.machine-item.is w.in-Some.is in
          let t = w.in_ok-trim_named.ensures in
          let got : IsTrim w.get.result.now w.in_ok-trim_named.field-0 = record { language = t.language; registers = t.registers; states = t.states; used = t.used; lifts = t.lifts } in
          let here = subst (λ (m : Graph). IsTrim m w.in_ok-trim_named.field-0) w.get.ensures got in
          subst (λ ts. AllZip IsTrim (machines_of (take (at + 1) items)) ts) (sym (w.trims-is ∙ w.in_ok-push.ensures.ok))
          (subst (λ ms. AllZip IsTrim ms (c.loop-machine.trims ++ w.in_ok-trim_named.field-0 ∷ [])) (sym e)
          (trims-push (machines_of (take at items)) c.loop-machine.trims w.in-Some.machine w.in_ok-trim_named.field-0 before here))
      | in_default w ↦
          let e = machines-none items at c.machine-item.result c.loop-machine-test.true c.machine-item.is w.in_default.is in
          subst (λ ts. AllZip IsTrim (machines_of (take (at + 1) items)) ts) (sym w.trims-is) (subst (λ ms. AllZip IsTrim ms c.loop-machine.trims) (sym e) before)
    ] in
    subst (λ x. AllZip IsTrim (machines_of (take (at + 1) x)) c.match-machine.trims) same after
