use Rattle.std.proofs.Common.{◌+◌, drop, get_or}
use Rattle.std.proofs.lemmas.List.{drop_more}
use Rattle.sexpr_reader.proofs.Places.{at_take}
use Rattle.sexpr_reader.proofs.reader.Reader.take.Goals as goal

pub returns-clause-stands : goal.returns-clause-stands
returns-clause-stands c = λ ended bytes given s.
    let r = c.args.self.now in
    let p = r.pending.items in
    record { at = at_take ended r.mode r.nest.lists.items r.place (drop r.start p) (drop r.at p) bytes given s.at c.args.mode (get_or p r.at 0) (drop (r.at + 1) p) c.requires.acts (drop_more p r.at 0 c.requires.within) }
