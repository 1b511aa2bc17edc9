use Rattle.std.proofs.Common.{◌+◌, length}
use Rattle.std.proofs.lemmas.Result.{IfOk-weaker}
use Rattle.regex_machine.specs.Onwards.{unmade}
use Rattle.regex_machine.proofs.OnwardLemmas.{character-alone}
use Rattle.regex_machine.proofs.written.character.Goals as goal

pub returns : goal.returns
returns c =
    let old = c.args.states.now in
    let rest = c.args.rest.now in
    IfOk-weaker c.letter.result _ _ (λ front h begun. character-alone c.args.one (length old + unmade rest.state + 1) c.in_ok-on.on old c.letter.new.states rest c.letter.new.rest front c.in_ok-on.ensures.set (h begun))
    c.letter.ensures
