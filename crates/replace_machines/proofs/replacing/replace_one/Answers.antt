use Rattle.std.proofs.Common.{◌∙◌, ◌++◌, ◌∷◌, [], ap}
use Rattle.sv_terms.specs.declared.transducer.TransEdge.{TransEdge}
use Rattle.replace_machines.proofs.MachineLemmas.{first-relates}
use Rattle.replace_machines.proofs.replacing.replace_one.Goals as goal

pub returns-clause-relates : goal.returns-clause-relates
returns-clause-relates c =
    first-relates c.args.pattern.now c.args.by.now c.in_ok-edges.edges c.push.new.self c.in_ok-ends.ends c.push-2.new.self c.len-last.result
    c.requires.filled c.len-last.ensures c.in_ok-edges.ensures c.in_ok-ends.ensures c.is_word.ensures c.is_word-2.ensures
    (c.in_ok-push.ensures.ok ∙ ap (λ (e : TransEdge). c.in_ok-edges.edges ++ e ∷ []) c.in_ok-copy_edge.ensures)
    (c.in_ok-push-2.ensures.ok ∙ ap (λ w. c.in_ok-ends.ends ++ (c.len-last.result, w) ∷ []) c.new.ensures)
