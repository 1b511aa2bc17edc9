use Rattle.std.proofs.Common.{◌≤ℤ◌, ◌+◌, All, MatchOption, length, pos, refl, subst, sym, ap, ◌∙◌, arith}
use Rattle.std.proofs.lemmas.Option.{slice_get-get_or}
use Rattle.sv_list.specs.Lists.{slice_get-read}
use Rattle.farkas_check.specs.Systems.{Joined}
use Rattle.farkas_check.specs.Cuts.{IsNetWithin, IsUnreached, values_of}
use Rattle.farkas_check.specs.declared.net.Net.{Net}
use Rattle.parikh_flow.proofs.ReachLemmas.{one-more}
use Rattle.parikh_flow.proofs.net_cutter.NetCutterCutter.cut.Goals as goal

pub unreached_states-requires-clause-within : goal.unreached_states-requires-clause-within
unreached_states-requires-clause-within c = subst (λ (net : Net). IsNetWithin (length c.args.point.now) net) (sym (rw c.as_slice-net-items.ensures at c.net-item.is)) (c.requires.within c.loop-net.net-index c.net-item.result (rw c.as_slice-net-items.ensures at c.loop-net-test.true))

pub unreached_states-requires-clause-not_negative : goal.unreached_states-requires-clause-not_negative
unreached_states-requires-clause-not_negative c = subst (λ (net : Net). All (λ e. pos 0 ≤ℤ values_of c.args.point.now e.unknown) net.edges) (sym (rw c.as_slice-net-items.ensures at c.net-item.is)) (c.requires.not_negative c.loop-net.net-index c.net-item.result (rw c.as_slice-net-items.ensures at c.loop-net-test.true))

pub returns : goal.returns
returns c = λ i d lt.
    let test = c.loop-net-test.false in
    let size = ap length c.as_slice-net-items.ensures in
    c.loop-net.invariant.joined i _ (omega arith) (rw c.as_slice-net-items.ensures (slice_get-get_or c.args.self.now.system.now.nets i d lt))

pub loop-net-preserved : goal.loop-net-preserved
loop-net-preserved c =
    let nets = c.as_slice-net-items.result.now in
    let x = values_of c.args.point.now in
    let joined = subst (λ o. MatchOption o (Joined x c.net-item.result) (IsUnreached x c.net-item.result)) c.in_default.is c.in_ok-set.ensures in
    record {
      count = c.in-Some-checked_add.ensures.1 ∙ ap (λ n. n + 1) c.loop-net.invariant.count;
      joined = one-more (Joined x) nets c.loop-net.net-index c.net-item.result (slice_get-read nets nets c.loop-net.net-index c.net-item.result c.loop-net-test.true refl c.net-item.is) joined c.loop-net.invariant.joined;
    }
