use Rattle.std.proofs.Common.{ap, ◌∙◌, ◌++◌, ◌∷◌, [], List}
use Rattle.machine_core.specs.declared.graph.Graph.{Graph}
use Rattle.part_machines.proofs.PairLemmas.{met-last, fewer-last}
use Rattle.part_machines.proofs.pairs.replace_last.Goals as goal

pub returns-clause-met : goal.returns-clause-met
returns-clause-met c =
    met-last c.args.machines c.push.new.self c.args.at c.args.both c.requires.plain c.requires.at c.requires.met
    (c.in_ok-push.ensures.ok ∙ ap (λ (l : List Graph). l ++ c.args.both ∷ []) c.truncate.ensures)

pub returns-clause-fewer : goal.returns-clause-fewer
returns-clause-fewer c =
    fewer-last c.args.machines c.push.new.self c.args.at c.args.both c.requires.at
    (c.in_ok-push.ensures.ok ∙ ap (λ (l : List Graph). l ++ c.args.both ∷ []) c.truncate.ensures)
