use Rattle.std.proofs.Common.{◌∙◌, ◌++◌, ◌∷◌, [], ap}
use Rattle.machine_core.proofs.WalkLemmas.{run-parts}
use Rattle.machine_core.proofs.run.Run+u32.open.Goals as goal

pub returns : goal.returns
returns c =
    run-parts c.new.result [] c.push.new.self (0 ∷ []) c.from_vec.result [] c.args.last c.new.ensures
    (c.in_ok-push.ensures.ok ∙ ap (λ l. l ++ 0 ∷ []) (c.from_vec-states.ensures ∙ c.in_ok-room.ensures.items))
    (c.from_vec.ensures ∙ c.in_ok-room-2.ensures.items)
