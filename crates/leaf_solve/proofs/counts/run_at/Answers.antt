use Rattle.std.proofs.Common.{◌∙◌, ℕ, ◌≤◌, List, refl, sym, subst}
use Rattle.farkas_check.specs.Cuts.{values_of}
use Rattle.parikh_flow.specs.Balance.{AreBalanced}
use Rattle.parikh_flow.specs.Counts.{total_count}
use Rattle.parikh_flow.specs.Nets.{AreJoined}
use Rattle.leaf_solve.proofs.CountLemmas.{few-counts, is-count, same-counts}
use Rattle.leaf_solve.proofs.counts.run_at.Goals as goal

pub counts_at-requires-clause-counts : goal.counts_at-requires-clause-counts
counts_at-requires-clause-counts c = is-count (values_of c.args.point.now) c.args.base c.args.machine.now c.runs_have_flows.ensures.total c.requires.flow c.size_of.result c.size_of.ensures

pub run_of-requires-clause-balanced : goal.run_of-requires-clause-balanced
run_of-requires-clause-balanced c =
    let same = same-counts (values_of c.args.point.now) c.args.base c.args.machine.now c.runs_have_flows.ensures.total c.requires.flow c.size_of.result c.in_ok-counts.counts c.size_of.ensures c.in_ok-counts.ensures.size c.in_ok-counts.ensures.values in
    subst (λ (l : List ℕ). AreBalanced c.args.machine.now l) (sym (c.as_slice.ensures ∙ same)) (c.runs_have_flows.ensures.balanced c.requires.flow.run c.requires.flow.flow.0 c.requires.flow.flow.2)

pub run_of-requires-clause-few : goal.run_of-requires-clause-few
run_of-requires-clause-few c =
    let same = same-counts (values_of c.args.point.now) c.args.base c.args.machine.now c.runs_have_flows.ensures.total c.requires.flow c.size_of.result c.in_ok-counts.counts c.size_of.ensures c.in_ok-counts.ensures.size c.in_ok-counts.ensures.values in
    subst (λ (l : List ℕ). total_count l ≤ 4194304) (sym (c.as_slice.ensures ∙ same)) (few-counts (values_of c.args.point.now) c.args.base c.args.machine.now c.runs_have_flows.ensures.total c.requires.flow)

pub unreachable-requires : goal.unreachable-requires
unreachable-requires c =
    let same = same-counts (values_of c.args.point.now) c.args.base c.args.machine.now c.runs_have_flows.ensures.total c.requires.flow c.size_of.result c.in_ok-counts.counts c.size_of.ensures c.in_ok-counts.ensures.size c.in_ok-counts.ensures.values in
    let joined = subst (λ (l : List ℕ). AreJoined c.args.machine.now l) (sym (c.as_slice.ensures ∙ same)) (c.runs_have_flows.ensures.joined c.requires.flow.run c.requires.flow.flow.0 c.requires.flow.flow.2) in
    let failed = rw c.in-Err-Apart.field-0-is at c.in-Err-Apart.ensures in
    c.apart_is_not_joined.ensures c.as_slice.result.now _ (failed.apart _ refl) joined
