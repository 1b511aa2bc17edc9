use Rattle.std.proofs.Common.{ap, rules, ◌∙◌}
use Rattle.std.proofs.lemmas.Int.{to_z-of_z}
use Rattle.std.specs.Int.{w128}
use Rattle.std.specs.List.{insert}
use Rattle.cube_draft.proofs.Inserted.{placed_coefficient}
use Rattle.cube_draft.proofs.comparison.put.Goals as goal

pub returns-clause-put : goal.returns-clause-put
returns-clause-put c n =
    placed_coefficient c.args.terms.now c.insert.new.self c.args.unknown c.place_in-at.result c.args.number (c.in_ok-insert.ensures.ok ∙ ap (λ z. insert c.args.terms.now c.place_in-at.result (c.args.unknown, z)) (to_z-of_z w128 c.args.number (search rules))) n
