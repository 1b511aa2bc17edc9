use Rattle.std.proofs.Common.{◌^◌, ap, arith}
use Rattle.machine_core.specs.declared.graph.Graph.{Graph}
use Rattle.regex_machine.proofs.BuiltLemmas.{builds-as}
use Rattle.regex_machine.proofs.SideLemmas.{other-words}
use Rattle.regex_machine.proofs.complements.by_sets.Goals as goal

pub returns : goal.returns
returns c =
    let s = c.of-subset.result in
    let size = ap (λ (m : Graph). 2 ^ m.states) c.of-subset.ensures.machine in
    builds-as _ _ _ _ c.args.limit
    (other-words c.args.part.now s.machine.now s.negated c.of-subset.ensures.machine c.of-subset.ensures.negated c.of-subset.ensures.language)
    (omega arith) c.list_states.result c.list_states.ensures
