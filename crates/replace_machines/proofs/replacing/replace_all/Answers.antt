use Rattle.replace_machines.proofs.MachineLemmas.{all-empty}
use Rattle.replace_machines.proofs.replacing.replace_all.Goals as goal

pub returns-then-is_empty-clause-exact : goal.returns-then-is_empty-clause-exact
returns-then-is_empty-clause-exact c =
    (all-empty c.in_ok-copy_word.field-0 c.args.pattern.now c.args.by.now (c.is_empty.ensures.0 c.if-is_empty.true) c.in_ok-copy_word.ensures.relates).exact

pub returns-then-is_empty-clause-most : goal.returns-then-is_empty-clause-most
returns-then-is_empty-clause-most c =
    (all-empty c.in_ok-copy_word.field-0 c.args.pattern.now c.args.by.now (c.is_empty.ensures.0 c.if-is_empty.true) c.in_ok-copy_word.ensures.relates).most
