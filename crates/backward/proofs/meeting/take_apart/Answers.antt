use Rattle.std.proofs.Common.{◌≡◌, ℕ, MatchOption, List, ◌∷◌, [], ◌++◌, map, subst, sym, ap, ap₂, ◌∙◌}
use Rattle.machine_core.specs.Runs.{IsRun, run_total}
use Rattle.machine_core.specs.Costs.{total_of, add_costs, sum_costs}
use Rattle.machine_core.specs.Graphs.{IsRunOf}
use Rattle.machine_core.specs.declared.run.Run.{Run}
use Rattle.machine_meet.specs.Products.{MeetEnds, MeetSteps, meet_width}
use Rattle.machine_meet.specs.Splits.{ArePartRuns}
use Rattle.backward.specs.Kept.{IsPartRun}
use Rattle.backward.proofs.MeetingLemmas.{AreTwo, slice_ends, slice_steps, slice_first, slice_width}
use Rattle.backward.proofs.KeptLemmas.{both-in, two-runs, two-costs, last-two}
use Rattle.backward.proofs.meeting.take_apart.Goals as goal

pub split_run-requires : goal.split_run-requires
split_run-requires c =
    let kept = c.requires.kept in
    let w = c.of-whole.result in
    let p = c.of-part.result in
    let two : AreTwo w p c.args.machine.now c.args.target.now c.args.from c.args.to = record {
      whole = c.of-whole.ensures.target;
      first = c.of-whole.ensures.from;
      last = c.of-whole.ensures.to;
      part = c.of-part.ensures.target;
      begins = c.of-part.ensures.from;
      ends = c.of-part.ensures.to;
      registers = kept.registers;
    } in
    let run = kept.inner c.args.run.now c.in_ok-inside.inside c.requires.run c.in_ok-inside.ensures in
    let pairs = kept.pairs c.in_ok-inside.inside c.in_ok-pairs.pairs run c.in_ok-pairs.ensures in
    subst (λ qs. IsRun (MeetEnds slice_ends (meet_width slice_width qs) qs) (MeetSteps slice_steps (meet_width slice_width qs) qs) (map slice_first qs) c.in_ok-pairs.pairs) (sym c.of-meet.ensures.parts)
    (both-in w p c.args.machine.now c.args.target.now c.args.from c.args.to two c.in_ok-pairs.pairs pairs)

pub returns : goal.returns
returns c =
    let w = c.of-whole.result in
    let p = c.of-part.result in
    let two : AreTwo w p c.args.machine.now c.args.target.now c.args.from c.args.to = record {
      whole = c.of-whole.ensures.target;
      first = c.of-whole.ensures.from;
      last = c.of-whole.ensures.to;
      part = c.of-part.ensures.target;
      begins = c.of-part.ensures.from;
      ends = c.of-part.ensures.to;
      registers = c.requires.kept.registers;
    } in
    let runs = subst (λ qs. ArePartRuns slice_ends slice_steps slice_first qs c.in_ok-pairs.pairs.word c.in_ok-runs.runs) c.of-meet.ensures.parts c.in_ok-runs.ensures.runs in
    let costs = subst (λ qs. sum_costs (meet_width slice_width qs) (map (λ (r : Run ℕ). run_total r) c.in_ok-runs.runs) ≡ run_total c.in_ok-pairs.pairs) c.of-meet.ensures.parts c.in_ok-runs.ensures.costs in
    let both = two-runs w p c.args.machine.now c.args.target.now c.args.from c.args.to two c.in_ok-pairs.pairs.word c.in_ok-runs.runs runs in
    let one : c.in_ok-runs.runs ≡ c.pop.new.self ++ c.unwrap-second.result ∷ [] =
    subst (λ o. MatchOption o ((c.in_ok-runs.runs ≡ []) × (c.pop.new.self ≡ [])) (λ (last : Run ℕ). c.in_ok-runs.runs ≡ c.pop.new.self ++ last ∷ [])) c.unwrap-second.ensures c.pop.ensures in
    let other : c.pop.new.self ≡ c.pop-2.new.self ++ c.unwrap-first.result ∷ [] =
    subst (λ o. MatchOption o ((c.pop.new.self ≡ []) × (c.pop-2.new.self ≡ [])) (λ (last : Run ℕ). c.pop.new.self ≡ c.pop-2.new.self ++ last ∷ [])) c.unwrap-first.ensures c.pop-2.ensures in
    let same = last-two c.in_ok-runs.runs both.0 both.1 c.unwrap-first.result c.unwrap-second.result c.pop.new.self c.pop-2.new.self both.2 one other in
    let l = c.in_ok-pairs.ensures in
    let k = c.in_ok-inside.ensures in
    let word : c.in_ok-pairs.pairs.word ≡ c.args.run.now.word = l.word ∙ k.word in
    let total : run_total c.in_ok-pairs.pairs ≡ run_total c.args.run.now = ap₂ total_of (l.costs ∙ k.costs) (l.last ∙ k.last) in
    let sum : sum_costs w.target.now.registers (run_total both.0 ∷ run_total both.1 ∷ []) ≡ run_total c.in_ok-pairs.pairs =
    subst (λ (rs : List (Run ℕ)). sum_costs w.target.now.registers (map (λ (r : Run ℕ). run_total r) rs) ≡ run_total c.in_ok-pairs.pairs) both.2 costs in
    record {
      whole = subst (IsRunOf c.args.machine.now) (sym same.0) both.3;
      part = subst (IsPartRun c.args.target.now c.args.from c.args.to) (sym same.1) both.4;
      whole_word = ap (λ (r : Run ℕ). r.word) same.0 ∙ both.5 ∙ word;
      part_word = ap (λ (r : Run ℕ). r.word) same.1 ∙ both.6 ∙ word;
      total = ap₂ add_costs (ap run_total same.0) (ap run_total same.1) ∙ two-costs w p c.args.machine.now c.args.target.now c.args.from c.args.to two both.0 both.1 both.4 (run_total c.in_ok-pairs.pairs) sum ∙ total;
    }
