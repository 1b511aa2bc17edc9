use Rattle.std.proofs.Common.{◌++◌, ◌∷◌, [], refl, ap, ◌∙◌}
use Rattle.regex_machine.proofs.OnwardLemmas.{letter-none, letter-made, apart-below}
use Rattle.regex_machine.proofs.written.letter.Goals as goal

pub returns-then-is_empty : goal.returns-then-is_empty
returns-then-is_empty c begun =
    letter-none c.args.states.now c.args.rest.now c.rest_of.result c.args.on begun c.if-is_empty.ensures.empty (c.rest_of.ensures.moves ∙ c.new-moves.ensures) c.rest_of.ensures.may_end c.rest_of.ensures.state

pub returns : goal.returns
returns c begun =
    let has = c.in_ok-to.ensures begun in
    letter-made c.args.states.now c.state_of.new.states c.args.rest.now c.state_of.new.rest c.rest_of-2.result c.args.on c.in_ok-to.to (record { on = c.args.on; cost = c.new-cost.result; to = c.in_ok-to.to }) begun has
    c.if-is_empty.ensures.inhabited (λ d h. apart-below 0 c.args.on d c.as_slice-characters.ensures.apart h) refl c.new-cost.ensures refl
    (c.rest_of-2.ensures.moves ∙ c.in_ok-push.ensures.ok ∙ ap (λ l. l ++ (record { on = c.args.on; cost = c.new-cost.result; to = c.in_ok-to.to }) ∷ []) c.new-moves.ensures) c.rest_of-2.ensures.may_end c.rest_of-2.ensures.state
