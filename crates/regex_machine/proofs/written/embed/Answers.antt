use Rattle.std.proofs.Common.{◌≡◌, ◌<◌, length, Some, slice_get, get_or, ap, sym, ◌∙◌, subst, arith}
use Rattle.sv_list.specs.Lists.{stands-at}
use Rattle.regex_machine.proofs.WovenLemmas.{embedded, placed-size}
use Rattle.regex_machine.proofs.written.embed.Goals as goal

pub returns : goal.returns
returns c begun =
    let m = c.args.part.now in
    let old = c.args.states.now in
    let new = c.place_states.new.states in
    let rest = c.args.rest.now in
    let placed = c.in_ok-place_states.ensures in
    let base : c.len-base.result ≡ length old = c.len-base.ensures in
    let size = placed-size m c.requires old new rest begun placed in
    let some = m.started in
    let first = c.index-as_slice-base.result in
    let below : c.len-base.result < length new = omega arith in
    let at = stands-at new c.len-base.result first below (subst (λ l. first ≡ get_or l c.len-base.result first) c.as_slice.ensures c.index-as_slice-base.is) in
    embedded m c.requires old new rest begun placed (record { onward = c.in_ok-onward.onward; state = Some c.len-base.result })
    (subst (λ n. slice_get new n ≡ Some c.in_ok-onward.onward) base (at ∙ ap Some (sym c.in_ok-onward.ensures))) (ap Some base)
