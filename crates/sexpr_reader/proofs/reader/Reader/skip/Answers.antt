use Rattle.std.proofs.Common.{◌≡◌, ◌+◌, refl, ap, drop, length, arith, get_or, length-drop}
use Rattle.std.proofs.lemmas.List.{drop_more}
use Rattle.sexpr_reader.proofs.Places.{at_skip}
use Rattle.sexpr_reader.proofs.Readers.{at_same, drops}
use Rattle.sexpr_reader.proofs.reader.Reader.skip.Goals as goal

pub returns-clause-stands : goal.returns-clause-stands
returns-clause-stands c = λ ended bytes given s.
    let r = c.args.self.now in
    let p = r.pending.items in
    let n = c.settle.new.self in
    let k = c.settle.ensures.settled in
    let h = at_skip ended r.mode r.nest.lists.items r.place (drop r.start p) (drop r.at p) bytes given s.at c.args.mode (get_or p r.at 0) (drop (r.at + 1) p) c.requires.acts (drop_more p r.at 0 c.requires.within) in
    let empty : r.start ≡ r.at = omega (arith, ap length h.1, ap length (drop_more p r.at 0 c.requires.within), length-drop r.start p, length-drop r.at p, r.order, r.within, c.requires.within) in
    record { at = at_same ended c.args.mode c.args.mode r.nest.lists.items n.nest.lists.items (r.place + 1) n.place _ _ _ _ bytes given h.0 refl c.settle.ensures.lists (omega (arith, k.place, empty)) (drops n.start (r.at + 1) n.pending.items p k.start k.pending) (drops n.at (r.at + 1) n.pending.items p k.at k.pending) }
