use Rattle.std.proofs.Common.{sym, subst}
use Rattle.std.proofs.lemmas.Result.{IfOk-weaker}
use Rattle.transducer_core.specs.Nodes.{LeadToNodes}
use Rattle.transducer_core.specs.Outputs.{IsOutput}
use Rattle.transducer_core.proofs.BuiltLemmas.{machine_words}
use Rattle.transducer_core.proofs.output_words.outputs.Goals as goal

pub machine_of-requires-clause-closed : goal.machine_of-requires-clause-closed
machine_of-requires-clause-closed c = subst LeadToNodes (sym c.as_slice-2.ensures) c.in_ok-first.ensures.closed

pub returns-clause-words : goal.returns-clause-words
returns-clause-words c =
    let t = c.args.transducer.now in
    let ns = c.as_slice-2.result.now in
    let o = subst (λ xs. IsOutput t c.as_slice.result.now xs c.in_ok-first.first) (sym c.as_slice-2.ensures) c.in_ok-first.ensures in
    let p = subst (λ r. IsOutput t r ns c.in_ok-first.first) c.as_slice.ensures o in
    IfOk-weaker c.machine_of.result _ _ (λ m built w.
    let a = machine_words m ns c.in_ok-first.first p.within built w in
    (λ r. (p.spells w).0 (a.0 r), λ h. a.1 ((p.spells w).1 h))) c.machine_of.ensures.built
