use Rattle.std.proofs.Common.{◌≡◌, ◌∙◌, ◌++◌, ◌∷◌, [], ap}
use Rattle.std.proofs.lemmas.Result.{IfOk-weaker}
use Rattle.machine_core.proofs.WalkLemmas.{run-parts}
use Rattle.machine_core.proofs.run.Run+u32.add_step.Goals as goal

pub returns : goal.returns
returns c =
    let run = c.args.self.now in
    IfOk-weaker c.push-3.result (λ _. c.push-3.new.self ≡ run.states ++ c.args.to ∷ []) _
    (λ _ states. run-parts c.push.new.self (run.word ++ c.args.character ∷ []) c.push-3.new.self (run.states ++ c.args.to ∷ []) c.push-2.new.self (run.costs ++ c.args.cost.now ∷ []) run.last
    c.in_ok-push.ensures.ok states (c.in_ok-push-2.ensures.ok ∙ ap (λ x. run.costs ++ x ∷ []) c.in_ok-copy.ensures))
    c.push-3.ensures.ok
