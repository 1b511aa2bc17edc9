use Rattle.std.proofs.Common.{◌≡◌, ◌<◌, ◌≤◌, ℕ, List, length, get_or, slice_get, refl, subst}
use Rattle.sv_list.specs.Lists.{slice_get-read, some-once}
use Rattle.cube_draft.specs.Gathered.{IsLiteralAdded}
use Rattle.flat_cubes.specs.Met.{met}
use Rattle.flat_cubes.specs.Said.{said}
use Rattle.cube_draft.proofs.Scanned.{fitting_at, scanned_all, scanned_first, scanned_gathered, scanned_outside, scanned_step}
use Rattle.cube_draft.proofs.scanning.scan.Goals as goal

same-read : {X : Type 0} (xs : List X) (i : ℕ) (x y : X) → i < length xs → x ≡ get_or xs i x → y ≡ get_or xs i y → x ≡ y
same-read xs i x y h e f = some-once (slice_get xs i) x y (slice_get-read xs xs i x h refl e) (slice_get-read xs xs i y h refl f)

pub add-requires-clause-fitting : goal.add-requires-clause-fitting
add-requires-clause-fitting c =
    fitting_at c.args.cube.now.literals c.loop-i.i c.index-literals-i.result c.requires (subst (λ us. c.loop-i.i < length us) c.as_slice-literals.ensures c.loop-i-test.true)
    (subst (λ us. c.index-literals-i.result ≡ get_or us c.loop-i.i c.index-literals-i.result) c.as_slice-literals.ensures c.index-literals-i.is)

pub loop-i-preserved : goal.loop-i-preserved
loop-i-preserved c =
    scanned_step c.args.cube.now.literals c.loop-i.meeting c.add.new.self c.loop-i.i c.index-literals-i.result c.in_ok-add.field-0 (subst (λ us. c.loop-i.i < length us) c.as_slice-literals.ensures c.loop-i-test.true)
    (subst (λ us. c.index-literals-i.result ≡ get_or us c.loop-i.i c.index-literals-i.result) c.as_slice-literals.ensures c.index-literals-i.is) c.loop-i.invariant c.in_ok-add.ensures c.in-Written.is

pub loop-i-init : goal.loop-i-init
loop-i-init c = scanned_first c.args.cube.now.literals c.new-meeting.result c.new-meeting.ensures

pub add-requires-clause-gathered : goal.add-requires-clause-gathered
add-requires-clause-gathered c = scanned_gathered c.args.cube.now.literals c.loop-i.meeting c.loop-i.i c.loop-i.invariant

pub returns-in-Outside : goal.returns-in-Outside
returns-in-Outside c =
    scanned_outside c.args.cube.now.literals c.loop-i.meeting c.add.new.self c.loop-i.i c.index-literals-i-in-Outside.result c.in_ok-copy-in-Outside.field-0 c.in_ok-add.field-0 (subst (λ us. c.loop-i.i < length us) c.as_slice-literals.ensures c.loop-i-test.true)
    (subst (λ us. c.index-literals-i-in-Outside.result ≡ get_or us c.loop-i.i c.index-literals-i-in-Outside.result) c.as_slice-literals.ensures c.index-literals-i-in-Outside.is) c.loop-i.invariant
    (subst (λ l. IsLiteralAdded c.loop-i.meeting c.add.new.self (said l) c.in_ok-add.field-0) (same-read c.as_slice-literals.result.now c.loop-i.i c.index-literals-i.result c.index-literals-i-in-Outside.result c.loop-i-test.true c.index-literals-i.is c.index-literals-i-in-Outside.is) c.in_ok-add.ensures)
    c.in-Outside.is c.in_ok-copy-in-Outside.ensures

pub returns : goal.returns
returns c =
    let all = scanned_all c.args.cube.now.literals c.loop-i.meeting c.loop-i.i (subst (λ us. length us ≤ c.loop-i.i) c.as_slice-literals.ensures c.loop-i-test.false) c.loop-i.invariant in
    (all.0, c.in_ok-into_draft.ensures (met c.args.cube.now.literals) all.1)
