use Rattle.std.proofs.Common.{◌≡◌, length, subst, arith}
use Rattle.backward.specs.Families.{without}
use Rattle.backward.specs.PiecesBack.{AreTakenBack}
use Rattle.backward.proofs.cut_lifting.lift_pieces.Goals as goal

pub loop-place-init : goal.loop-place-init
loop-place-init c = record { some = c.requires; each = λ old h. h }

pub lift_piece-requires-clause-taken : goal.lift_piece-requires-clause-taken
lift_piece-requires-clause-taken c = c.loop-place.invariant.some

pub loop-place-preserved : goal.loop-place-preserved
loop-place-preserved c =
    let some = c.loop-place.invariant.some in
    let next = c.in_ok-taken.ensures in
    record { some = (some.0, next some.0 some.1); each = λ old h. next old (c.loop-place.invariant.each old h) }

pub returns : goal.returns
returns c old h =
    let u = c.args.cut.now in
    let end = c.loop-place-test.false in
    let below = c.loop-place.auto.place-end in
    let all : c.loop-place.place ≡ length u.pieces.now = omega arith in
    subst (λ n. AreTakenBack u.target.now (without u.machines.now u.x) u.cuts.now u.pieces.now u.meetings.now old n c.loop-place.taken.runs c.loop-place.taken.whole) all (c.loop-place.invariant.each old h)
