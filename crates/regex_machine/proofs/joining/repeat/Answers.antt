use Rattle.std.proofs.Common.{◌≡◌, refl, arith}
use Rattle.regex_machine.specs.Copied.{copies_size}
use Rattle.regex_machine.proofs.BuiltLemmas.{builds-as}
use Rattle.regex_machine.proofs.joining.repeat.Goals as goal

pub returns : goal.returns
returns c =
    let s = c.of-copies.result in
    let size : copies_size s.least s.most s.part.now.states ≡ copies_size c.args.least c.args.most c.args.part.now.states =
    rw (c.of-copies.ensures.part, c.of-copies.ensures.least, c.of-copies.ensures.most) refl in
    builds-as _ _ (copies_size s.least s.most s.part.now.states) (copies_size c.args.least c.args.most c.args.part.now.states) c.args.limit c.of-copies.ensures.read (omega (arith, size)) c.list_states.result c.list_states.ensures
