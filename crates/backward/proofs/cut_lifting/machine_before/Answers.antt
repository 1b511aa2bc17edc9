use Rattle.std.proofs.Common.{◌≡◌, ◌+◌, None, drop, get_or, ◌∙◌}
use Rattle.backward.specs.PiecesBack.{met_at}
use Rattle.backward.proofs.CutBackLemmas.{met-end, met-none}
use Rattle.backward.proofs.cut_lifting.machine_before.Goals as goal

pub machine_at-requires : goal.machine_at-requires
machine_at-requires c =
    let u = c.args.cut.now in
    let v = get_or u.pieces.now c.args.place 0 in
    let rest = drop (c.args.place + 1) u.pieces.now in
    let k = c.requires.machine in
    let end = c.loop-later-test.false in
    let none : met_at v rest u.meetings.now ≡ None = c.loop-later.invariant ∙ met-end v u.pieces.now c.loop-later.later u.meetings.now end in
    (k.0, met-none u.machines.now v rest u.meetings.now k.0 none k.1)
