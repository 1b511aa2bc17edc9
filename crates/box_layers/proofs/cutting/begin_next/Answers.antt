use Rattle.std.proofs.Common.{◌≡◌, ◌∙◌, ℕ, ◌++◌, ◌∷◌, [], ap}
use Rattle.std.proofs.lemmas.Result.{IfOk-weaker}
use Rattle.machine_core.specs.declared.run.Run.{Run}
use Rattle.box_layers.specs.Cuts.{BeginsNext}
use Rattle.box_layers.proofs.CutLemmas.{just-opened}
use Rattle.box_layers.proofs.cutting.begin_next.Goals as goal

pub returns : goal.returns
returns c =
    IfOk-weaker c.push.result (λ _. c.push.new.self ≡ c.args.runs.now ++ c.replace-ended.result ∷ []) (λ _. BeginsNext c.args.cost.now c.args.runs.now c.push.new.self c.args.current.now c.replace-ended.new.dest)
    (λ _ pushed. record {
      ended = c.replace-ended.result;
      pushed = pushed;
      word = ap (λ (r : Run ℕ). r.word) c.replace-ended.ensures.value;
      states = ap (λ (r : Run ℕ). r.states) c.replace-ended.ensures.value;
      costs = ap (λ (r : Run ℕ). r.costs) c.replace-ended.ensures.value;
      last = ap (λ (r : Run ℕ). r.last) c.replace-ended.ensures.value ∙ c.in_ok-current.ensures;
      opened = just-opened c.replace-ended.new.dest c.new.result (c.replace-ended.ensures.after ∙ c.in_ok-open.ensures);
    })
    c.push.ensures.ok
