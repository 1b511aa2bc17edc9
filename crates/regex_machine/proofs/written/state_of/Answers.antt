use Rattle.std.proofs.Common.{Some, refl}
use Rattle.regex_machine.proofs.OnwardLemmas.{state-there, state-made}
use Rattle.regex_machine.proofs.written.state_of.Goals as goal

pub returns-in-Some : goal.returns-in-Some
returns-in-Some c begun = state-there c.args.states.now c.args.rest.now c.in-Some.state begun c.in-Some.is

pub returns-in_ok-push-in-None : goal.returns-in_ok-push-in-None
returns-in_ok-push-in-None c begun =
    state-made c.args.states.now c.push.new.self c.args.rest.now (record { onward = c.args.rest.now.onward; state = Some c.len-count.result }) c.in_ok-copy-in-None.field-0 c.len-count.result begun c.in-None.is
    c.in_ok-copy-in-None.ensures c.in_ok-push-in-None.ensures.ok c.len-count.ensures refl refl
