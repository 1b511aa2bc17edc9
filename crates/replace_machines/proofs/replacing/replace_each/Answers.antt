use Rattle.replace_machines.proofs.MachineLemmas.{all-relates}
use Rattle.replace_machines.proofs.replacing.replace_each.Goals as goal

pub returns-clause-relates : goal.returns-clause-relates
returns-clause-relates c =
    all-relates c.args.pattern.now c.args.by.now _ _ _ c.requires.filled c.len.ensures c.in_ok-edges.ensures c.in_ok-ends.ensures c.is_word.ensures c.is_word-2.ensures
